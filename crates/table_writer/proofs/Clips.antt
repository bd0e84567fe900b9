-- Of a table with too many rows, the first that is too many decides as well as all of them.
use Rattle.std.proofs.Common.{◌≡◌, ℕ, zero, suc, ◌+◌, ◌^◌, ◌<◌, ◌≤◌, ltb, List, [], ◌∷◌, length, take, sym, refl, ap, ◌∙◌, ⊎_elim, arith}
use Rattle.std.proofs.lemmas.List.{take_all}
use Rattle.std.proofs.lemmas.Bool.{cases_lt, cond-true}
use Rattle.fault.specs.Told.{Told, answered, refused}
use Rattle.table.specs.Format.{Rows, render}
use Rattle.table.specs.Checking.{within, past, check_consumers, unless, check_lines, is_whole, check}
use Rattle.table.proofs.Sound.{clash, cond_ok}
use Rattle.table.proofs.Fits.{Cell, heap_cells, static_cells, kind_cells, task_cells, cells_fit, rows_fit, some_row, fits}
use Rattle.table.proofs.Back.{lines_render}
use Rattle.table.proofs.Complete.{render_whole}
use Rattle.table_writer.specs.Writing.{rows_of}

-- what comes after too many rows does not matter
too_many : {R A : Type 0} (cells : R → List Cell) (c room l : ℕ) (rs : List R) (j k : Told A) → room < length rs → rows_fit cells c room l (take (suc room) rs) j ≡ rows_fit cells c room l rs k
too_many cells c room l [] j k h = absurd (omega arith)
too_many cells c zero l (r ∷ rs) j k h = refl
too_many cells c (suc room) l (r ∷ rs) j k h =
    ap (λ x. cells_fit l c (cells r) x) (too_many cells c room (l + 1) rs j k (omega arith))

-- an answer means that there were not too many

cells_answered : {A : Type 0} (l c : ℕ) (xs : List Cell) (k : Told A) (y : A) → cells_fit l c xs k ≡ answered y → k ≡ answered y
cells_answered l c [] k y h = h
cells_answered l c (x ∷ xs) k y h =
    let a = cond_ok (ltb x.value (10 ^ 10)) _ _ _ h in
    let b = cond_ok (within x.low x.high x.value) _ _ _ a.1 in
    cells_answered l (past c x.value) xs k y b.1

rows_answered : {R A : Type 0} (cells : R → List Cell) (c room l : ℕ) (rs : List R) (k : Told A) (y : A) → rows_fit cells c room l rs k ≡ answered y → (length rs ≤ room) × (k ≡ answered y)
rows_answered cells c room l [] k y h = (omega arith, h)
rows_answered cells c zero l (r ∷ rs) k y h = absurd (clash _ y h)
rows_answered cells c (suc room) l (r ∷ rs) k y h =
    let a = rows_answered cells c room (l + 1) rs k y (cells_answered l c (cells r) _ y h) in
    (omega arith, a.1)

some_answered : {R A : Type 0} (rs : List R) (l : ℕ) (k : Told A) (y : A) → some_row rs l k ≡ answered y → k ≡ answered y
some_answered [] l k y h = absurd (clash _ y h)
some_answered (r ∷ rs) l k y h = h

unless_same : {A : Type 0} (r : Told (Unit {0})) (a y : A) → unless r a ≡ answered y → y ≡ a
unless_same (answered x) a y h = cc
unless_same (refused e) a y h = absurd (clash e y h)

-- what an answer of rows tells
pub record Answered (rows y : Rows) : Type 0 where
  pub kinds : length rows.kinds ≤ 32
  pub tasks : length rows.tasks ≤ 16
  pub same : y ≡ rows

fits_answered : (rows y : Rows) → fits 32 16 rows ≡ answered y → Answered rows y
unfolding fits
fits_answered rows y h =
    let first = 3 + length rows.kinds in
    let a = cells_answered 1 5 (heap_cells rows.heap) _ y h in
    let b = cells_answered 2 7 (static_cells rows.statics) _ y a in
    let c = rows_answered kind_cells 5 32 3 rows.kinds _ y (some_answered rows.kinds 3 _ y b) in
    let d = rows_answered task_cells 5 16 first rows.tasks _ y (some_answered rows.tasks first _ y c.1) in
    record { kinds = c.0; tasks = d.0; same = unless_same (check_consumers (length rows.tasks) 1 first rows.tasks) rows y d.1 }

-- a table without the rows past the first that is too many
abbrev pub clip : Rows → Rows
clip rows = rows_of rows.heap rows.statics (take 33 rows.kinds) (take 17 rows.tasks)

some_same : {R A : Type 0} (rs : List R) (n l : ℕ) (j k : Told A) → 0 < n → j ≡ k → some_row (take n rs) l j ≡ some_row rs l k
some_same [] zero l j k h e = absurd (omega arith)
some_same (r ∷ rs) zero l j k h e = absurd (omega arith)
some_same [] (suc n) l j k h e = refl
some_same (r ∷ rs) (suc n) l j k h e = e

pub clip_few : (rows : Rows) → length rows.kinds ≤ 32 → length rows.tasks ≤ 16 → clip rows ≡ rows
clip_few rows a b =
    ap (λ x. rows_of rows.heap rows.statics x (take 17 rows.tasks)) (take_all 33 rows.kinds (omega arith))
    ∙ ap (λ x. rows_of rows.heap rows.statics rows.kinds x) (take_all 17 rows.tasks (omega arith))

-- refused at the same place, or the same

fits_kinds : (rows : Rows) → 32 < length rows.kinds → fits 32 16 (clip rows) ≡ fits 32 16 rows
unfolding fits
fits_kinds rows h =
    ap (λ x. cells_fit 1 5 (heap_cells rows.heap) (cells_fit 2 7 (static_cells rows.statics) x))
    (some_same rows.kinds 33 3 _ _ (omega arith) (too_many kind_cells 5 32 3 rows.kinds _ _ h))

fits_tasks : (rows : Rows) → length rows.kinds ≤ 32 → 16 < length rows.tasks → fits 32 16 (clip rows) ≡ fits 32 16 rows
unfolding fits
fits_tasks rows few h =
    let first = 3 + length rows.kinds in
    ap (λ x. fits 32 16 (rows_of rows.heap rows.statics x (take 17 rows.tasks))) (take_all 33 rows.kinds (omega arith))
    ∙ ap (λ x. cells_fit 1 5 (heap_cells rows.heap) (cells_fit 2 7 (static_cells rows.statics) (some_row rows.kinds 3 (rows_fit kind_cells 5 32 3 rows.kinds x))))
    (some_same rows.tasks 17 first _ _ (omega arith) (too_many task_cells 5 16 first rows.tasks _ _ h))

fits_clip : (rows : Rows) → fits 32 16 (clip rows) ≡ fits 32 16 rows
fits_clip rows =
    ⊎_elim
    (λ h. fits_kinds rows h)
    (λ few. ⊎_elim (λ h. fits_tasks rows few h) (λ less. ap (fits 32 16) (clip_few rows few less)) (cases_lt 16 (length rows.tasks)))
    (cases_lt 32 (length rows.kinds))

-- the check of the text that is drawn of rows is the check of the lines of all their text
pub clip_checked : (rows : Rows) → length (render (clip rows)) ≤ 8192 → check (render (clip rows)) 32 16 ≡ check_lines 32 16 (render rows)
unfolding check
clip_checked rows h =
    cond-true (is_whole (render (clip rows))) _ _ (render_whole (clip rows) h)
    ∙ lines_render 32 16 (clip rows) ∙ fits_clip rows ∙ sym (lines_render 32 16 rows)

pub lines_answered : (rows y : Rows) → check_lines 32 16 (render rows) ≡ answered y → Answered rows y
lines_answered rows y h = fits_answered rows y (sym (lines_render 32 16 rows) ∙ h)
