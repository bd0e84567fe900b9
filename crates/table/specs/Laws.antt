-- What an accepted text is.
use Rattle.std.specs.Prelude.{◌≡◌, ℕ, ◌≤◌, List, length}
use Rattle.table.specs.declared.rows.KindRow.{KindRow}
use Rattle.table.specs.declared.rows.TaskRow.{TaskRow}
use Rattle.table.specs.declared.Table.{Table}
use Rattle.table.specs.Format.{Rows, render}
use Rattle.table.specs.Limits.{Limits}
use Rattle.fault.specs.Told.{answered}
use Rattle.table.specs.Checking.{check}
use Rattle.table.specs.Filling.{rows_in}

-- a text that writes rows within limits, for which there is room
pub record Accepted (text : List ℕ) (k t : ℕ) (rows : Rows) : Type 0 where
  pub text_is : text ≡ render rows
  pub limits : Limits rows
  pub kind_room : length rows.kinds ≤ k
  pub task_room : length rows.tasks ≤ t

-- a text is accepted with rows if and only if it writes them, they keep the limits, and there is room for them
pub record Exact (text : List ℕ) (k t : ℕ) : Type 0 where
  pub sound : (rows : Rows) → check text k t ≡ answered rows → Accepted text k t rows
  pub complete : (rows : Rows) → Accepted text k t rows → check text k t ≡ answered rows

-- no two tables have one text
abbrev pub OneToOne : Type 0
OneToOne = (r q : Rows) → Limits r → Limits q → render r ≡ render q → r ≡ q

-- what was read of a text: it writes the rows that now stand in the answer and at the front of the two lists
pub record Loaded (text : List ℕ) (table : Table) (kinds : List KindRow) (tasks : List TaskRow) : Type 0 where
  pub kind_room : table.kind_count ≤ length kinds
  pub task_room : table.task_count ≤ length tasks
  pub text_is : text ≡ render (rows_in table kinds tasks)
  pub limits : Limits (rows_in table kinds tasks)
