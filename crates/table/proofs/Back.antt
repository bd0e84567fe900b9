-- The text that writes rows is refused as the rows are, or read back.
use Rattle.std.proofs.Common.{◌≡◌, ℕ, zero, suc, ◌+◌, ◌-◌, ◌^◌, min, Bool, true, false, cond, ltb, List, [], ◌∷◌, ◌++◌, length, codes, decimal, sym, refl, ap, ◌∙◌, arith}
use Rattle.std.specs.List.{prefix_len}
use Rattle.std.specs.Str.{bytes_eq}
use Rattle.std.proofs.lemmas.Slice.Eq.{bytes_eq-Decides}
use Rattle.std.proofs.lemmas.Bool.{or_right, ltb-true, ltb-false}
use Rattle.std.proofs.lemmas.List.{take_at, drop_at}
use Rattle.fault.specs.Told.{Told, answered, refused}
use Rattle.table.specs.declared.rows.HeapRow.{HeapRow}
use Rattle.table.specs.declared.rows.StaticRow.{StaticRow}
use Rattle.table.specs.declared.rows.KindRow.{KindRow}
use Rattle.table.specs.declared.rows.TaskRow.{TaskRow}
use Rattle.table.specs.Format.{Rows, heap_numbers, static_numbers, kind_numbers, task_numbers, field, fields, line, lines, render}
use Rattle.table.specs.Checking.{Spot, Read, at, then, refuse, inside, front, after, within, placed, field_value, number, line_end, read_heap, read_static, read_kind, read_task, consumer_low, consumer_high, leads, past_word, one_line, more_lines, past, check_consumers, unless, none, finish, check_lines}
use Rattle.table.proofs.Spelling.{front_digits, after_digits, decimal_digits, is_decimal, value_of, not_number}
use Rattle.table.proofs.Fits.{Cell, heap_cells, static_cells, kind_cells, task_cells, meet, cells_fit, rows_fit, some_row, fits, cells_then}

-- a number after a comma

field_back : (low high l c : ℕ) (ds tail : List ℕ) → front (ds ++ tail) ≡ ds → after (ds ++ tail) ≡ tail → number low high (at (44 ∷ (ds ++ tail)) l c) ≡ placed (field_value low high l (c + 1) ds) (at tail l (c + 1 + length ds))
unfolding number
field_back low high l c ds tail p q =
    ap (λ x. placed (field_value low high l (c + 1) x) (at (after (ds ++ tail)) l (c + 1 + length x))) p
    ∙ ap (λ x. placed (field_value low high l (c + 1) ds) (at x l (c + 1 + length ds))) q

value_back : (low high l c n : ℕ) → field_value low high l c (decimal n) ≡ cond (ltb n (10 ^ 10)) (cond (within low high n) (answered n) (refuse 4 l c)) (refuse 3 l c)
value_back low high l c n = go (ltb n (10 ^ 10)) refl
  where
    go : (b : Bool) → ltb n (10 ^ 10) ≡ b → field_value low high l c (decimal n) ≡ cond b (cond (within low high n) (answered n) (refuse 4 l c)) (refuse 3 l c)
    go true e =
        let h = ltb-true n (10 ^ 10) e in
        rw (is_decimal n h, value_of n h)
    go false e = rw (not_number n (ltb-false n (10 ^ 10) e))

by_tests : {B : Type 0} (a b : Bool) (n l c : ℕ) (s : Spot) (f : ℕ → Spot → Told B) (k : Told B) → f n s ≡ k → then (placed (cond a (cond b (answered n) (refuse 4 l c)) (refuse 3 l c)) s) f ≡ cond a (cond b k (refuse 4 l c)) (refuse 3 l c)
by_tests true true n l c s f k h = h
by_tests true false n l c s f k h = refl
by_tests false b n l c s f k h = refl

number_back : {B : Type 0} (low high l c n : ℕ) (tail : List ℕ) (f : ℕ → Spot → Told B) (k : Told B) → prefix_len inside tail ≡ 0 → f n (at tail l (past c n)) ≡ k → then (number low high (at (field n tail) l c)) f ≡ meet (record { low = low; high = high; value = n }) l c k
unfolding field
number_back low high l c n tail f k z g =
    let d = decimal_digits n in
    let p = field_back low high l c (decimal n) tail (front_digits (decimal n) tail d z) (after_digits (decimal n) tail d z) in
    ap (λ r. then r f) (p ∙ ap (λ r. placed r (at tail l (past c n))) (value_back low high l (c + 1) n))
    ∙ by_tests (ltb n (10 ^ 10)) (within low high n) n l (c + 1) (at tail l (past c n)) f k g

-- the numbers of a row

-- what is shown of one sort of rows
abbrev ReadsBack : {R : Type 0} → (R → List ℕ) → (R → List Cell) → (Spot → Read R) → Type 0
ReadsBack {R = R} numbers cells read = (r : R) (l c : ℕ) (tail : List ℕ) → read (at (fields (numbers r) tail) l c) ≡ cells_fit l c (cells r) (answered (r, at tail (l + 1) 1))

heap_back : ReadsBack heap_numbers heap_cells read_heap
unfolding field line_end
heap_back r l c tail =
    number_back 1 8192 l c r.space (fields (r.handles ∷ []) tail) _ _ refl
    (number_back 1 256 l (past c r.space) r.handles (10 ∷ tail) _ _ refl refl)

static_back : ReadsBack static_numbers static_cells read_static
unfolding field line_end
static_back r l c tail =
    number_back 0 8192 l c r.words (fields (r.objects ∷ []) tail) _ _ refl
    (number_back 0 256 l (past c r.words) r.objects (10 ∷ tail) _ _ refl refl)

kind_back : ReadsBack kind_numbers kind_cells read_kind
unfolding field line_end
kind_back r l c tail =
    number_back 1 32 l c r.size (fields (r.map ∷ []) tail) _ _ refl
    (number_back 0 (2 ^ r.size - 1) l (past c r.size) r.map (10 ∷ tail) _ _ refl refl)

task_back : ReadsBack task_numbers task_cells read_task
unfolding field line_end
task_back r l c tail =
    let t7 = 10 ∷ tail in
    let t6 = field r.consumer t7 in
    let t5 = field r.life t6 in
    let t4 = field r.objects t5 in
    let t3 = field r.words t4 in
    let t2 = field r.units t3 in
    let t1 = field r.deadline t2 in
    let c1 = past c r.period in
    let c2 = past c1 r.deadline in
    let c3 = past c2 r.units in
    let c4 = past c3 r.words in
    let c5 = past c4 r.objects in
    let c6 = past c5 r.life in
    number_back 1 1000000 l c r.period t1 _ _ refl
    (number_back 1 r.period l c1 r.deadline t2 _ _ refl
    (number_back 1 r.deadline l c2 r.units t3 _ _ refl
    (number_back 0 8192 l c3 r.words t4 _ _ refl
    (number_back 0 256 l c4 r.objects t5 _ _ refl
    (number_back 0 64 l c5 r.life t6 _ _ refl
    (number_back (consumer_low r.life) (consumer_high r.life) l c6 r.consumer t7 _ _ refl refl))))))

-- first words

leads_back : (w tail : List ℕ) (l c : ℕ) → prefix_len inside (w ++ tail) ≡ length w → leads w (at (w ++ tail) l c) ≡ true
unfolding leads
leads_back w tail l c h = ap (λ x. bytes_eq x w) (take_at w tail (prefix_len inside (w ++ tail)) (sym h)) ∙ (bytes_eq-Decides w w).1 refl

past_back : (w tail : List ℕ) (l c : ℕ) → prefix_len inside (w ++ tail) ≡ length w → past_word w (at (w ++ tail) l c) ≡ at tail l (c + length w)
past_back w tail l c h = ap (λ x. at x l (c + length w)) (drop_at w tail (prefix_len inside (w ++ tail)) (sym h))

one_back : {R : Type 0} (w : List ℕ) (numbers : R → List ℕ) (cells : R → List Cell) (read : Spot → Read R) → ReadsBack numbers cells read → (r : R) (l : ℕ) (tail : List ℕ) → prefix_len inside (line w (numbers r) tail) ≡ length w → one_line w read (at (line w (numbers r) tail) l 1) ≡ cells_fit l (1 + length w) (cells r) (answered (r, at tail (l + 1) 1))
unfolding one_line
one_back w numbers cells read each r l tail h =
    rw (leads_back w (fields (numbers r) tail) l 1 h)
    (ap read (past_back w (fields (numbers r) tail) l 1 h) ∙ each r l (1 + length w) tail)

-- lines of one sort

none_back : {R : Type 0} (w : List ℕ) (read : Spot → Read R) (room : ℕ) (s : Spot) → leads w s ≡ false → more_lines w read room s ≡ answered ([], s)
unfolding more_lines
none_back w read zero s h = refl
none_back w read (suc room) s h = rw h

then_then : {A B C : Type 0} (r : Read A) (f : A → Spot → Read B) (g : B → Spot → Told C) → then (then r f) g ≡ then r (λ x s. then (f x s) g)
then_then (answered x) f g = refl
then_then (refused e) f g = refl

module _ {R B : Type 0} (w : List ℕ) (numbers : R → List ℕ) (cells : R → List Cell) (read : Spot → Read R) (each : ReadsBack numbers cells read) (first : (r : R) (text : List ℕ) → prefix_len inside (line w (numbers r) text) ≡ length w) (tail : List ℕ) (never : (l : ℕ) → leads w (at tail l 1) ≡ false) where
  lines_back : (room l : ℕ) (rs : List R) (F : List R → Spot → Told B) (K : Told B) → ((qs : List R) (r : R) (text : List ℕ) (l' : ℕ) → F qs (at (line w (numbers r) text) l' 1) ≡ refuse 2 l' 1) → ((l' : ℕ) → l' ≡ l + length rs → F rs (at tail l' 1) ≡ K) → then (more_lines w read room (at (lines w numbers rs tail) l 1)) F ≡ rows_fit cells (1 + length w) room l rs K
  unfolding more_lines
  lines_back room l [] F K stuck done =
      ap (λ r. then r F) (none_back w read room (at tail l 1) (never l)) ∙ done l (omega arith)
  lines_back zero l (r ∷ rs) F K stuck done = stuck [] r (lines w numbers rs tail) l
  lines_back (suc room) l (r ∷ rs) F K stuck done =
      let text = lines w numbers rs tail in
      let s1 = at text (l + 1) 1 in
      let here = at (line w (numbers r) text) l 1 in
      let G : R → Spot → Read (List R) = λ q s. then {B = List R × Spot} (more_lines w read room s) (λ qs s2. answered (q ∷ qs, s2)) in
      let h = first r text in
      let ih = lines_back room (l + 1) rs (λ qs s. F (r ∷ qs) s) K (λ qs q text l'. stuck (r ∷ qs) q text l') (λ l' e. done l' (omega arith)) in
      ap (λ x. then (cond x (then (read (past_word w here)) G) (answered ([], here))) F) (leads_back w (fields (numbers r) text) l 1 h)
      ∙ ap (λ x. then (then (read x) G) F) (past_back w (fields (numbers r) text) l 1 h)
      ∙ ap (λ x. then (then x G) F) (each r l (1 + length w) text)
      ∙ ap (λ x. then x F) (cells_then l (1 + length w) (cells r) (answered (r, s1)) G)
      ∙ cells_then l (1 + length w) (cells r) (G r s1) F
      ∙ ap (λ x. cells_fit l (1 + length w) (cells r) x) (then_then (more_lines w read room s1) (λ qs s2. answered (r ∷ qs, s2)) F ∙ ih)

-- the whole table

no_kind : (rs : List TaskRow) (l : ℕ) → leads (codes "kind") (at (lines (codes "task") task_numbers rs []) l 1) ≡ false
unfolding leads field
no_kind [] l = refl
no_kind (r ∷ rs) l = refl

no_task : (r : KindRow) (text : List ℕ) (l : ℕ) → leads (codes "task") (at (line (codes "kind") (kind_numbers r) text) l 1) ≡ false
unfolding leads field
no_task r text l = refl

first_heap : (r : HeapRow) (text : List ℕ) → prefix_len inside (line (codes "heap") (heap_numbers r) text) ≡ 4
unfolding field
first_heap r text = refl

first_static : (r : StaticRow) (text : List ℕ) → prefix_len inside (line (codes "static") (static_numbers r) text) ≡ 6
unfolding field
first_static r text = refl

first_kind : (r : KindRow) (text : List ℕ) → prefix_len inside (line (codes "kind") (kind_numbers r) text) ≡ 4
unfolding field
first_kind r text = refl

first_task : (r : TaskRow) (text : List ℕ) → prefix_len inside (line (codes "task") (task_numbers r) text) ≡ 4
unfolding field
first_task r text = refl

finish_stuck : (heap : HeapRow) (statics : StaticRow) (kinds : List KindRow) (qs : List TaskRow) (r : TaskRow) (text : List ℕ) (l : ℕ) → finish heap statics kinds qs (at (line (codes "task") (task_numbers r) text) l 1) ≡ refuse 2 l 1
unfolding finish
finish_stuck heap statics kinds qs r text l = rw (or_right (none qs) true refl)

abbrev checked : HeapRow → StaticRow → List KindRow → List TaskRow → Told Rows
checked heap statics kinds tasks =
    unless (check_consumers (length tasks) 1 (3 + length kinds) tasks) (record { heap = heap; statics = statics; kinds = kinds; tasks = tasks })

tasks_back : (t l : ℕ) (heap : HeapRow) (statics : StaticRow) (kinds : List KindRow) (tasks : List TaskRow) → then (more_lines (codes "task") read_task t (at (lines (codes "task") task_numbers tasks []) l 1)) (finish heap statics kinds) ≡ some_row tasks l (rows_fit task_cells 5 t l tasks (checked heap statics kinds tasks))
unfolding finish leads
tasks_back t l heap statics kinds [] =
    ap (λ r. then r (finish heap statics kinds)) (none_back (codes "task") read_task t (at [] l 1) refl)
tasks_back t l heap statics kinds (r ∷ rs) =
    lines_back (codes "task") task_numbers task_cells read_task task_back first_task [] (λ l'. refl) t l (r ∷ rs) (finish heap statics kinds) _ (finish_stuck heap statics kinds) (λ l' e. refl)

-- kinds, then tasks
abbrev after_kinds : ℕ → HeapRow → StaticRow → List KindRow → Spot → Told Rows
after_kinds t heap statics ks s =
    cond (none ks) (refuse 2 s.line 1) (then (more_lines (codes "task") read_task t s) (finish heap statics ks))

finish_none : (heap : HeapRow) (statics : StaticRow) (kinds : List KindRow) (s : Spot) → finish heap statics kinds [] s ≡ refuse 2 s.line 1
unfolding finish
finish_none heap statics kinds s = refl

kinds_stuck : (t : ℕ) (heap : HeapRow) (statics : StaticRow) (ks : List KindRow) (r : KindRow) (text : List ℕ) (l : ℕ) → after_kinds t heap statics ks (at (line (codes "kind") (kind_numbers r) text) l 1) ≡ refuse 2 l 1
kinds_stuck t heap statics [] r text l = refl
kinds_stuck t heap statics (k ∷ ks) r text l =
    ap (λ x. then x (finish heap statics (k ∷ ks))) (none_back (codes "task") read_task t (at (line (codes "kind") (kind_numbers r) text) l 1) (no_task r text l))
    ∙ finish_none heap statics (k ∷ ks) (at (line (codes "kind") (kind_numbers r) text) l 1)

kinds_back : (k t : ℕ) (heap : HeapRow) (statics : StaticRow) (kinds : List KindRow) (tasks : List TaskRow) → then (more_lines (codes "kind") read_kind k (at (lines (codes "kind") kind_numbers kinds (lines (codes "task") task_numbers tasks [])) 3 1)) (after_kinds t heap statics) ≡ some_row kinds 3 (rows_fit kind_cells 5 k 3 kinds (some_row tasks (3 + length kinds) (rows_fit task_cells 5 t (3 + length kinds) tasks (checked heap statics kinds tasks))))
kinds_back k t heap statics [] tasks =
    ap (λ r. then r (after_kinds t heap statics)) (none_back (codes "kind") read_kind k (at (lines (codes "task") task_numbers tasks []) 3 1) (no_kind tasks 3))
kinds_back k t heap statics (q ∷ qs) tasks =
    lines_back (codes "kind") kind_numbers kind_cells read_kind kind_back first_kind (lines (codes "task") task_numbers tasks []) (no_kind tasks) k 3 (q ∷ qs) (after_kinds t heap statics) _
    (kinds_stuck t heap statics)
    (λ l' e. ap (λ x. then (more_lines (codes "task") read_task t (at (lines (codes "task") task_numbers tasks []) x 1)) (finish heap statics (q ∷ qs))) e ∙ tasks_back t (3 + length (q ∷ qs)) heap statics (q ∷ qs) tasks)

pub lines_render : (k t : ℕ) (rows : Rows) → check_lines k t (render rows) ≡ fits k t rows
unfolding check_lines render fits
lines_render k t rows =
    let t3 = lines (codes "kind") kind_numbers rows.kinds (lines (codes "task") task_numbers rows.tasks []) in
    let t2 = line (codes "static") (static_numbers rows.statics) t3 in
    let kinds : HeapRow → StaticRow → Spot → Told Rows = λ heap statics s. then (more_lines (codes "kind") read_kind (min 32 k) s) (after_kinds (min 16 t) heap statics) in
    let statics : HeapRow → Spot → Told Rows = λ heap s. then (one_line (codes "static") read_static s) (kinds heap) in
    ap (λ r. then r statics) (one_back (codes "heap") heap_numbers heap_cells read_heap heap_back rows.heap 1 t2 (first_heap rows.heap t2))
    ∙ cells_then 1 5 (heap_cells rows.heap) (answered (rows.heap, at t2 2 1)) statics
    ∙ ap (λ x. cells_fit 1 5 (heap_cells rows.heap) x)
    (ap (λ r. then r (kinds rows.heap)) (one_back (codes "static") static_numbers static_cells read_static static_back rows.statics 2 t3 (first_static rows.statics t3))
    ∙ cells_then 2 7 (static_cells rows.statics) (answered (rows.statics, at t3 3 1)) (kinds rows.heap)
    ∙ ap (λ x. cells_fit 2 7 (static_cells rows.statics) x)
    (kinds_back (min 32 k) (min 16 t) rows.heap rows.statics rows.kinds rows.tasks))
