-- Releases: each task at the multiples of its period, and the collector at those of its own. At one tick the better rank comes
-- first, and the collector last.
use Rattle.std.specs.Prelude.{◌≡◌, ℕ, ◌+◌, ◌*◌, ◌<◌, ◌≤◌, true, false, cond, List, [], ◌∷◌, length, nat_lt, slice_index_or}
use Rattle.queue.specs.declared.entries.Release.{Release}
use Rattle.queue.specs.declared.entries.Source.{Source}
use Rattle.queue.specs.declared.entries.Source.TheVariants.{Task, Collector}
use Rattle.std.specs.List.{ContainsAt as Has, AllByRecursion}
use Rattle.queue.specs.Entries.{sooner}
use Rattle.queue.specs.Orders.{inserted}
use Rattle.admission.specs.declared.figures.Figures.{Figures}
use Rattle.admission.specs.Sound.{task}

-- who has a rank: the tasks in order, then the collector
abbrev pub source_at : Figures → ℕ → Source
source_at f i = cond (nat_lt i f.task_count) (Task (task f i).number) Collector

abbrev pub period_at : Figures → ℕ → ℕ
period_at f i = cond (nat_lt i f.task_count) (task f i).period f.period

-- the m-th release, from 0, of whoever has rank i
abbrev pub nth : Figures → ℕ → ℕ → Release
nth f i m = record { tick = m * period_at f i; rank = i; source = source_at f i }

abbrev pub nobody : Release
nobody = record { tick = 0; rank = 0; source = Collector }

-- x falls before y
abbrev pub Before : Release → Release → Type 0
Before x y = sooner y x ≡ false

-- a list that rises
abbrev pub Rising : List Release → Type 0
Rising [] = Unit {0}
Rising (x ∷ xs) = AllByRecursion (Before x) xs × Rising xs

-- a list of the first releases: each is one, they rise, and none is left out
pub record FirstReleases (f : Figures) (n : ℕ) (rs : List Release) : Type 0 where
  pub count : length rs ≡ n
  pub each : (k : ℕ) → k < n → (i : ℕ) × (m : ℕ) × (i ≤ f.task_count) × (slice_index_or rs k nobody ≡ nth f i m)
  pub rise : (j k : ℕ) → j < k → k < n → sooner (slice_index_or rs k nobody) (slice_index_or rs j nobody) ≡ false
  pub all : (i m k : ℕ) → i ≤ f.task_count → k < n → sooner (nth f i m) (slice_index_or rs k nobody) ≡ true → (j : ℕ) × (j ≤ k) × (slice_index_or rs j nobody ≡ nth f i m)

-- the release after one, of the same source
abbrev pub next : Figures → Release → Release
next f r = record { tick = r.tick + period_at f r.rank; rank = r.rank; source = r.source }

-- what is known of the figures of a plan that is not blank
pub record Listed (f : Figures) : Type 0 where
  pub few : f.task_count ≤ 16
  pub numbers : (i : ℕ) → i < f.task_count → (task f i).number ≤ 16
  pub periods : (i : ℕ) → i < f.task_count → (1 ≤ (task f i).period) × ((task f i).period ≤ 1000000)
  pub own : (1 ≤ f.period) × (f.period ≤ 1000000)

-- the first releases of the first n sources wait in order
pub record Firsts (f : Figures) (n : ℕ) (waits : List Release) : Type 0 where
  pub order : Rising waits
  pub each : AllByRecursion (λ y. (i : ℕ) × (i < n) × (y ≡ nth f i 0)) waits
  pub has : (i : ℕ) → i < n → Has waits (nth f i 0)

-- the first that waited is taken, and the one after it waits in its place
pub record Advanced (f : Figures) (before : List Release) (r : Release) (after : List Release) : Type 0 where
  pub rest : List Release
  pub taken : before ≡ r ∷ rest
  pub waits : after ≡ inserted sooner (next f r) rest
