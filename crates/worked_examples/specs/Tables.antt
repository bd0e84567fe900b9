-- Tables worked out by hand, and told by the definitions.
use Rattle.std.specs.Prelude.{◌≡◌, ℕ, List, [], ◌∷◌, ◌++◌, codes}
use Rattle.fault.specs.Told.{answered, refused, nowhere}
use Rattle.fault.specs.Told.{admission as in_admission}
use Rattle.queue.specs.declared.entries.Release.{Release}
use Rattle.queue.specs.declared.entries.Source.{Source}
use Rattle.queue.specs.declared.entries.Source.TheVariants.{Task, Collector}
use Rattle.table.specs.Format.{Rows}
use Rattle.table.specs.Checking.{check}
use Rattle.admission.specs.declared.figures.Figures.{Figures}
use Rattle.admission.specs.Admission.{admission, misses_deadline}
use Rattle.releases.specs.Releases.{FirstReleases}

-- a text of lines
abbrev pub lines : List (List ℕ) → List ℕ
lines [] = []
lines (l ∷ ls) = l ++ (10 ∷ lines ls)

abbrev pub text : List ℕ
text =
    lines
    (codes "heap,64,40"
    ∷ codes "static,4,2"
    ∷ codes "kind,2,2"
    ∷ codes "task,50,50,5,2,1,1,0"
    ∷ codes "task,100,100,20,4,2,1,0"
    ∷ [])

-- two tasks, with the space, the handles and the units of each left open
abbrev pub table : ℕ → ℕ → ℕ → ℕ → Rows
table space handles first second =
    record {
      heap = record { space = space; handles = handles };
      statics = record { words = 4; objects = 2 };
      kinds = record { size = 2; map = 2 } ∷ [];
      tasks =
          record { period = 50; deadline = 50; units = first; words = 2; objects = 1; life = 1; consumer = 0 }
          ∷ record { period = 100; deadline = 100; units = second; words = 4; objects = 2; life = 1; consumer = 0 }
          ∷ [];
    }

-- admitted with this period, lateness of a flip, steps of a collection and span
pub record Plans (rows : Rows) (p f k q : ℕ) : Type 0 where
  pub figures : Figures
  pub admitted : admission rows ≡ answered figures
  pub period : figures.period ≡ p
  pub lateness : figures.lateness ≡ f
  pub steps : figures.steps ≡ k
  pub span : figures.span ≡ q

abbrev pub release : ℕ → ℕ → Source → Release
release tick rank source = record { tick = tick; rank = rank; source = source }

abbrev pub releases : List Release
releases =
    release 0 0 (Task 1) ∷ release 0 1 (Task 2) ∷ release 0 2 Collector ∷ release 50 0 (Task 1)
    ∷ release 100 0 (Task 1) ∷ release 100 1 (Task 2) ∷ release 150 0 (Task 1) ∷ release 200 0 (Task 1) ∷ []

pub record Tables : Type 0 where
  -- the text has these rows
  pub read : check text 32 16 ≡ answered (table 64 40 5 20)
  -- and foretells this
  pub plan : Plans (table 64 40 5 20) 374 26 120 180
  pub first : (f : Figures) → admission (table 64 40 5 20) ≡ answered f → FirstReleases f 8 releases
  -- fewer handles
  pub handles_20 : admission (table 64 20 5 20) ≡ refused (nowhere 10 in_admission)
  pub handles_21 : Plans (table 64 21 5 20) 174 26 101 161
  -- fewer words
  pub words_25 : admission (table 25 40 5 20) ≡ refused (nowhere 9 in_admission)
  pub words_26 : Plans (table 26 40 5 20) 174 26 82 137
  -- more units: the second task, at line 5, has no response time; or it has, and the collector has no time
  pub units_41 : admission (table 64 40 30 41) ≡ refused (misses_deadline 5)
  pub units_40 : admission (table 64 40 30 40) ≡ refused (nowhere 8 in_admission)
