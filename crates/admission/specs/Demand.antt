-- What tasks can ask for in a stretch of time.
use Rattle.std.specs.Prelude.{ℕ, ◌+◌, ◌-◌, ◌*◌, ◌/◌, ◌<◌, ◌≤◌, List, length, get_or, sum_by, Option, MatchOption, slice_index_or}
use Rattle.admission.specs.declared.task.Task.{Task}
use Rattle.admission.specs.declared.task.Share.{Share}
use Rattle.admission.specs.declared.task.Share.TheVariants.{Words, Objects}

-- p / q, rounded up
abbrev pub up : ℕ → ℕ → ℕ
up p q = (p + (q - 1)) / q

-- r is the least whole number not below p / q
pub record RoundsUp (p q r : ℕ) : Type 0 where
  pub covers : p ≤ r * q
  pub least : (k : ℕ) → p ≤ k * q → r ≤ k

-- A task is released at most up n T times in n ticks, so this is what its jobs ask for at most.
abbrev pub asked : (Task → ℕ) → ℕ → Task → ℕ
asked part n t = up n t.period * part t

abbrev pub demand : (Task → ℕ) → ℕ → List Task → ℕ
demand part n ts = sum_by (asked part n) ts

abbrev pub units_of : Task → ℕ
units_of t = t.units

abbrev pub load : ℕ → List Task → ℕ
load n ts = demand units_of n ts

abbrev pub part_of : Share → Task → ℕ
part_of Words t = t.words
part_of Objects t = t.objects

-- so many units and the jobs of these tasks are done within n ticks
abbrev pub DoneIn : ℕ → List Task → ℕ → Type 0
DoneIn own ts n = own + load n ts ≤ n

-- n is the least number from 1 to high of which C holds
pub record Least (C : ℕ → Type 0) (high n : ℕ) : Type 0 where
  pub from : 1 ≤ n
  pub to : n ≤ high
  pub holds : C n
  pub least : (k : ℕ) → 1 ≤ k → C k → n ≤ k

-- C holds of no number from 1 to high
abbrev pub Never : (ℕ → Type 0) → ℕ → Type 0
Never C high = (k : ℕ) → 1 ≤ k → k ≤ high → C k → ⊥

abbrev pub Settles : ℕ → List Task → ℕ → Option ℕ → Type 0
Settles own ts high r = MatchOption r (Never (DoneIn own ts) high) (λ n. Least (DoneIn own ts) high n)

-- the limits of a task's fields, and no more tasks than a table has
pub record Sized (t : Task) : Type 0 where
  pub some : 1 ≤ t.period
  pub period : t.period ≤ 1000000
  pub units : t.units ≤ 1000000
  pub words : t.words ≤ 8192
  pub objects : t.objects ≤ 256
  pub life : t.life ≤ 2000000

abbrev pub no_task : Task
no_task = record { number = 0; period = 0; deadline = 0; units = 0; words = 0; objects = 0; life = 0; consumer = 0 }

abbrev pub Few : List Task → Type 0
Few ts = (length ts ≤ 16) × ((k : ℕ) → k < length ts → Sized (slice_index_or ts k no_task))

-- each task has units and a deadline
abbrev pub Timed : List Task → Type 0
Timed ts = (k : ℕ) → k < length ts → (1 ≤ (get_or ts k no_task).units) × ((get_or ts k no_task).deadline ≤ 1000000)

-- each task has a number of a table
abbrev pub Numbers : List Task → Type 0
Numbers ts = (k : ℕ) → k < length ts → (get_or ts k no_task).number ≤ 16
