-- What the writer answers, and what it leaves in the buffer.
use Rattle.std.specs.Prelude.{◌≡◌, ℕ, ◌≤◌, cond, List, length, nat_le}
use Rattle.fault.specs.Told.{Told, answered, refused}
use Rattle.table.specs.declared.rows.HeapRow.{HeapRow}
use Rattle.table.specs.declared.rows.StaticRow.{StaticRow}
use Rattle.table.specs.declared.rows.KindRow.{KindRow}
use Rattle.table.specs.declared.rows.TaskRow.{TaskRow}
use Rattle.table.specs.Format.{Rows, render}
use Rattle.table.specs.Limits.{Limits}
use Rattle.table.specs.Checking.{refuse, check_lines, check}
use Rattle.table.specs.Filling.{overlaid}

abbrev pub rows_of : HeapRow → StaticRow → List KindRow → List TaskRow → Rows
rows_of heap statics kinds tasks = record { heap = heap; statics = statics; kinds = kinds; tasks = tasks }

-- after a check of a text: its refusal; then 6 where the text has more bytes than there is room for; else how many
-- it has
abbrev pub answer_to : {A : Type 0} → Told A → ℕ → ℕ → Told ℕ
answer_to (answered x) bytes room = cond (nat_le bytes room) (answered bytes) (refuse 6 0 0)
answer_to (refused e) bytes room = refused e

-- the answer to rows: their text is checked line by line, as the reader does
abbrev pub written : Rows → ℕ → Told ℕ
written rows room = answer_to (check_lines 32 16 (render rows)) (length (render rows)) room

-- the buffer after that: the text at its front, or as it was
abbrev pub left_by : Told ℕ → List ℕ → List ℕ → List ℕ
left_by (answered n) text old = overlaid text old
left_by (refused e) text old = old

-- rows within limits are taken wherever there is room for their text
abbrev pub Taken : Rows → ℕ → Told ℕ → Type 0
Taken rows room answer = Limits rows → length (render rows) ≤ room → answer ≡ answered (length (render rows))

-- what was written of rows: their text, which is read back as these rows
pub record Written (rows : Rows) (text : List ℕ) : Type 0 where
  pub limits : Limits rows
  pub text_is : text ≡ render rows
  pub back : check text (length rows.kinds) (length rows.tasks) ≡ answered rows
