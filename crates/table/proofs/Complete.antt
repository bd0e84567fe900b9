-- The text that writes rows within limits is accepted with those rows.
use Rattle.std.proofs.Common.{◌≡◌, ℕ, ◌+◌, ◌-◌, ◌*◌, ◌≤◌, true, eqb, leb, List, [], ◌∷◌, ◌++◌, map, length, get_or, codes, decimal, sym, refl, ap, ◌∙◌, suc-mul, arith}
use Rattle.std.specs.List.{AllByRecursion}
use Rattle.std.proofs.lemmas.Bool.{cond-true, and_from, le-leb, eq-eqb}
use Rattle.std.proofs.lemmas.List.{get_or_at, length-append}
use Rattle.std.proofs.lemmas.Fmt.{length-decimal-le}
use Rattle.fault.specs.Told.{answered}
use Rattle.table.specs.declared.rows.KindRow.{KindRow}
use Rattle.table.specs.declared.rows.TaskRow.{TaskRow}
use Rattle.table.specs.Format.{Rows, heap_numbers, static_numbers, kind_numbers, task_numbers, field, fields, line, lines, render}
use Rattle.table.specs.Limits.{KindLimits, TaskLimits, Limits}
use Rattle.table.specs.Checking.{check_lines, is_whole, check}
use Rattle.table.specs.Laws.{Accepted, OneToOne}
use Rattle.table.proofs.Fits.{Cell, CellGood, heap_cells, static_cells, kind_cells, task_cells, heap_good, static_good, kind_good, task_good, fits_good}
use Rattle.table.proofs.Sound.{answer_same}
use Rattle.table.proofs.Back.{lines_render}

-- the last byte of a text is a line end

abbrev Ends : List ℕ → Type 0
Ends xs = (p : List ℕ) × (xs ≡ p ++ (10 ∷ []))

cons_ends : (b : ℕ) (xs : List ℕ) → Ends xs → Ends (b ∷ xs)
cons_ends b xs e = (b ∷ e.0, ap (λ x. b ∷ x) e.1)

append_ends : (ys xs : List ℕ) → Ends xs → Ends (ys ++ xs)
append_ends [] xs e = e
append_ends (y ∷ ys) xs e = cons_ends y (ys ++ xs) (append_ends ys xs e)

fields_end : (ns xs : List ℕ) → Ends (10 ∷ xs) → Ends (fields ns xs)
unfolding field
fields_end [] xs e = e
fields_end (n ∷ ns) xs e = cons_ends 44 (decimal n ++ fields ns xs) (append_ends (decimal n) (fields ns xs) (fields_end ns xs e))

line_ends : (w ns xs : List ℕ) → Ends (10 ∷ xs) → Ends (10 ∷ line w ns xs)
line_ends w ns xs e = cons_ends 10 (line w ns xs) (append_ends w (fields ns xs) (fields_end ns xs e))

lines_end : {R : Type 0} (w : List ℕ) (numbers : R → List ℕ) (rs : List R) (xs : List ℕ) → Ends (10 ∷ xs) → Ends (10 ∷ lines w numbers rs xs)
lines_end w numbers [] xs e = e
lines_end w numbers (r ∷ rs) xs e = line_ends w (numbers r) (lines w numbers rs xs) (lines_end w numbers rs xs e)

render_ends : (rows : Rows) → Ends (render rows)
unfolding render
render_ends rows =
    let e3 = lines_end (codes "kind") kind_numbers rows.kinds _ (lines_end (codes "task") task_numbers rows.tasks [] ([], refl)) in
    append_ends (codes "heap") _ (fields_end (heap_numbers rows.heap) _ (line_ends (codes "static") (static_numbers rows.statics) _ e3))

last_byte : (xs : List ℕ) → Ends xs → get_or xs (length xs - 1) 0 ≡ 10
last_byte xs e =
    let l = length-append e.0 (10 ∷ []) in
    let n : length e.0 ≡ length (e.0 ++ (10 ∷ [])) - 1 = omega arith in
    rw e.1 (get_or_at e.0 10 [] 0 (length (e.0 ++ (10 ∷ [])) - 1) n)

pub render_whole : (rows : Rows) → length (render rows) ≤ 8192 → is_whole (render rows) ≡ true
render_whole rows h =
    let text = render rows in
    and_from (leb (length text) 8192) (eqb (get_or text (length text - 1) 0) 10) (le-leb (length text) 8192 h)
    (eq-eqb (get_or text (length text - 1) 0) 10 (last_byte text (render_ends rows)))

-- rows within limits make a short text

fields_short : (xs : List Cell) (text : List ℕ) → AllByRecursion CellGood xs → length (fields (map (λ x. x.value) xs) text) ≤ length xs * 11 + (1 + length text)
unfolding field
fields_short [] text h = omega arith
fields_short (x ∷ xs) text h =
    let s = h.0.short in
    let d = length-decimal-le 10 x.value (omega arith) s (omega arith) in
    let a = length-append (decimal x.value) (fields (map (λ x. x.value) xs) text) in
    omega (arith, fields_short xs text h.1)

line_short : (w : List ℕ) (xs : List Cell) (text : List ℕ) → AllByRecursion CellGood xs → length (line w (map (λ x. x.value) xs) text) ≤ length w + (length xs * 11 + (1 + length text))
line_short w xs text h =
    omega (arith, length-append w (fields (map (λ x. x.value) xs) text), fields_short xs text h)

lines_short : {R : Type 0} (Good : R → Type 0) (w : List ℕ) (numbers : R → List ℕ) (m : ℕ) → ((r : R) (text : List ℕ) → Good r → length (line w (numbers r) text) ≤ m + length text) → (rs : List R) (text : List ℕ) → AllByRecursion Good rs → length (lines w numbers rs text) ≤ length rs * m + length text
lines_short Good w numbers m each [] text h = omega arith
lines_short Good w numbers m each (r ∷ rs) text h =
    omega (arith, each r (lines w numbers rs text) h.0, lines_short Good w numbers m each rs text h.1, suc-mul (length rs) m)

kind_short : (r : KindRow) (text : List ℕ) → KindLimits r → length (line (codes "kind") (kind_numbers r) text) ≤ 27 + length text
kind_short r text h = omega (arith, line_short (codes "kind") (kind_cells r) text (kind_good r h))

task_short : (r : TaskRow) (text : List ℕ) → TaskLimits r → length (line (codes "task") (task_numbers r) text) ≤ 82 + length text
task_short r text h = omega (arith, line_short (codes "task") (task_cells r) text (task_good r h))

pub render_short : (rows : Rows) → Limits rows → length (render rows) ≤ 2232
unfolding render
render_short rows h =
    let t4 = lines (codes "task") task_numbers rows.tasks [] in
    let t3 = lines (codes "kind") kind_numbers rows.kinds t4 in
    let t2 = line (codes "static") (static_numbers rows.statics) t3 in
    let k = h.kind_count in
    let t = h.task_count in
    let a4 : length t4 ≤ length rows.tasks * 82 + 0 = lines_short TaskLimits (codes "task") task_numbers 82 task_short rows.tasks [] h.tasks in
    let a3 : length t3 ≤ length rows.kinds * 27 + length t4 = lines_short KindLimits (codes "kind") kind_numbers 27 kind_short rows.kinds t4 h.kinds in
    let a2 : length t2 ≤ 6 + (2 * 11 + (1 + length t3)) = line_short (codes "static") (static_cells rows.statics) t3 (static_good rows.statics h.statics) in
    let a1 : length (line (codes "heap") (heap_numbers rows.heap) t2) ≤ 4 + (2 * 11 + (1 + length t2)) = line_short (codes "heap") (heap_cells rows.heap) t2 (heap_good rows.heap h.heap) in
    omega arith

-- both ways

pub check_complete : (text : List ℕ) (k t : ℕ) (rows : Rows) → Accepted text k t rows → check text k t ≡ answered rows
unfolding check
check_complete text k t rows h =
    let short = render_short rows h.limits in
    let w : is_whole text ≡ true = ap is_whole h.text_is ∙ render_whole rows (omega arith) in
    cond-true (is_whole text) _ _ w
    ∙ ap (check_lines k t) h.text_is ∙ lines_render k t rows ∙ fits_good k t rows h.limits h.kind_room h.task_room

-- no two tables have one text
pub one_to_one : OneToOne
one_to_one r q h g e =
    let k = h.kind_count in
    let t = h.task_count in
    let m = g.kind_count in
    let n = g.task_count in
    let a = check_complete (render r) 32 16 r (record { text_is = refl; limits = h; kind_room = k.1; task_room = t.1 }) in
    let b = check_complete (render r) 32 16 q (record { text_is = e; limits = g; kind_room = m.1; task_room = n.1 }) in
    answer_same r q (sym a ∙ b)
