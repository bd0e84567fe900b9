-- The rows of a table, and the text that writes them.
use Rattle.std.specs.Prelude.{ℕ, List, [], ◌∷◌, ◌++◌, codes, decimal}
use Rattle.table.specs.declared.rows.HeapRow.{HeapRow}
use Rattle.table.specs.declared.rows.StaticRow.{StaticRow}
use Rattle.table.specs.declared.rows.KindRow.{KindRow}
use Rattle.table.specs.declared.rows.TaskRow.{TaskRow}

pub record Rows : Type 0 where
  pub heap : HeapRow
  pub statics : StaticRow
  pub kinds : List KindRow
  pub tasks : List TaskRow

-- the numbers of a row, in the order of its line

abbrev pub heap_numbers : HeapRow → List ℕ
heap_numbers r = r.space ∷ (r.handles ∷ [])

abbrev pub static_numbers : StaticRow → List ℕ
static_numbers r = r.words ∷ (r.objects ∷ [])

abbrev pub kind_numbers : KindRow → List ℕ
kind_numbers r = r.size ∷ (r.map ∷ [])

abbrev pub task_numbers : TaskRow → List ℕ
task_numbers r =
    r.period ∷ (r.deadline ∷ (r.units ∷ (r.words ∷ (r.objects ∷ (r.life ∷ (r.consumer ∷ []))))))

-- Each of these writes its part before the text that follows.

-- a comma and a number
unfoldable pub field : ℕ → List ℕ → List ℕ
field n text = 44 ∷ (decimal n ++ text)

-- numbers, and a line end
abbrev pub fields : List ℕ → List ℕ → List ℕ
fields [] text = 10 ∷ text
fields (n ∷ ns) text = field n (fields ns text)

-- a first word and numbers
abbrev pub line : List ℕ → List ℕ → List ℕ → List ℕ
line word ns text = word ++ fields ns text

-- a line for each row
abbrev pub lines : {R : Type 0} → List ℕ → (R → List ℕ) → List R → List ℕ → List ℕ
lines word numbers [] text = text
lines word numbers (r ∷ rs) text = line word (numbers r) (lines word numbers rs text)

-- the text of a table
unfoldable pub render : Rows → List ℕ
render t =
    line (codes "heap") (heap_numbers t.heap) (line (codes "static") (static_numbers t.statics)
    (lines (codes "kind") kind_numbers t.kinds (lines (codes "task") task_numbers t.tasks [])))
