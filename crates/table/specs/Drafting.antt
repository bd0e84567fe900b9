-- The rows of a draft.
use Rattle.std.specs.Prelude.{List}
use Rattle.arrayvec.specs.ArrayVec.{ArrayVec}
use Rattle.fault.specs.Told.{Told, answered, refused}
use Rattle.table.specs.declared.draft.Draft.{Draft}
use Rattle.table.specs.Format.{Rows}

-- rows that were read, as a list
abbrev pub listed : {R : Type 0} → Told (ArrayVec R) → Told (List R)
listed (answered rows) = answered rows.items
listed (refused e) = refused e

abbrev pub rows_drafted : Draft → Rows
rows_drafted d = record { heap = d.heap; statics = d.statics; kinds = d.kinds.items; tasks = d.tasks.items }

abbrev pub drafted : Told Draft → Told Rows
drafted (answered d) = answered (rows_drafted d)
drafted (refused e) = refused e
