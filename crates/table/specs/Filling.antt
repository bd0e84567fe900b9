-- What a reading answers, and what it leaves in the caller's lists.
use Rattle.std.specs.Prelude.{List, ◌++◌, length, take, drop}
use Rattle.fault.specs.Told.{Told, answered, refused}
use Rattle.table.specs.declared.rows.KindRow.{KindRow}
use Rattle.table.specs.declared.rows.TaskRow.{TaskRow}
use Rattle.table.specs.declared.Table.{Table}
use Rattle.table.specs.Format.{Rows}

-- the rows of a table whose kinds and tasks stand at the front of two lists
abbrev pub rows_in : Table → List KindRow → List TaskRow → Rows
rows_in t kinds tasks =
    record { heap = t.heap; statics = t.statics; kinds = take t.kind_count kinds; tasks = take t.task_count tasks }

-- what is answered of rows
abbrev pub table_of : Rows → Table
table_of t =
    record { heap = t.heap; statics = t.statics; kind_count = length t.kinds; task_count = length t.tasks }

abbrev pub summary : Told Rows → Told Table
summary (answered t) = answered (table_of t)
summary (refused e) = refused e

-- a list whose first places take these, the others as they were
abbrev pub overlaid : {R : Type 0} → List R → List R → List R
overlaid rs old = rs ++ drop (length rs) old

-- a caller's list after a check: filled if the text is accepted, else as it was
abbrev pub filled : {R : Type 0} → (Rows → List R) → Told Rows → List R → List R
filled part (answered t) old = overlaid (part t) old
filled part (refused e) old = old
