-- The limits that the rows of a table keep.
use Rattle.std.specs.Prelude.{◌≡◌, ℕ, ◌+◌, ◌^◌, ◌<◌, ◌≤◌, ◌⊎◌, List, [], ◌∷◌, length, ◌≢◌}
use Rattle.std.specs.List.{AllByRecursion}
use Rattle.table.specs.declared.rows.HeapRow.{HeapRow}
use Rattle.table.specs.declared.rows.StaticRow.{StaticRow}
use Rattle.table.specs.declared.rows.KindRow.{KindRow}
use Rattle.table.specs.declared.rows.TaskRow.{TaskRow}
use Rattle.table.specs.Format.{Rows}

abbrev pub Within : ℕ → ℕ → ℕ → Type 0
Within low high n = (low ≤ n) × (n ≤ high)

pub record HeapLimits (r : HeapRow) : Type 0 where
  pub space : Within 1 8192 r.space
  pub handles : Within 1 256 r.handles

pub record StaticLimits (r : StaticRow) : Type 0 where
  pub words : r.words ≤ 8192
  pub objects : r.objects ≤ 256

pub record KindLimits (r : KindRow) : Type 0 where
  pub size : Within 1 32 r.size
  pub map : r.map < 2 ^ r.size

-- a life of its own, or a consumer
abbrev pub EitherLife : ℕ → ℕ → Type 0
EitherLife life consumer = ((life ≡ 0) × (1 ≤ consumer)) ⊎ ((1 ≤ life) × (consumer ≡ 0))

pub record TaskLimits (r : TaskRow) : Type 0 where
  pub period : Within 1 1000000 r.period
  pub deadline : Within 1 r.period r.deadline
  pub units : Within 1 r.deadline r.units
  pub words : r.words ≤ 8192
  pub objects : r.objects ≤ 256
  pub life : r.life ≤ 64
  pub consumer : r.consumer ≤ 16
  pub either : EitherLife r.life r.consumer

-- the tasks from number i on, in a table of so many: a consumer is another task of the table
abbrev pub Consumers : ℕ → ℕ → List TaskRow → Type 0
Consumers count i [] = Unit {0}
Consumers count i (r ∷ rs) = ((r.consumer ≤ count) × (r.consumer ≢ i)) × Consumers count (i + 1) rs

pub record Limits (t : Rows) : Type 0 where
  pub heap : HeapLimits t.heap
  pub statics : StaticLimits t.statics
  pub kinds : AllByRecursion KindLimits t.kinds
  pub tasks : AllByRecursion TaskLimits t.tasks
  pub kind_count : Within 1 32 (length t.kinds)
  pub task_count : Within 1 16 (length t.tasks)
  pub consumers : Consumers (length t.tasks) 1 t.tasks
