-- The first refusal of the text that writes rows, reckoned from the rows.
use Rattle.std.proofs.Common.{◌≡◌, ℕ, zero, suc, ◌+◌, ◌-◌, ◌^◌, ◌<◌, ◌≤◌, min, Bool, true, false, cond, not, eqb, ltb, leb, List, [], ◌∷◌, length, refl, ◌∙◌, inl, inr, arith, pow_mono}
use Rattle.std.specs.List.{AllByRecursion}
use Rattle.std.proofs.lemmas.Bool.{and_from, le-leb, lt-ltb, eq-eqb, ne_eqb, not_from_false}
use Rattle.fault.specs.Told.{Told, answered}
use Rattle.table.specs.declared.rows.HeapRow.{HeapRow}
use Rattle.table.specs.declared.rows.StaticRow.{StaticRow}
use Rattle.table.specs.declared.rows.KindRow.{KindRow}
use Rattle.table.specs.declared.rows.TaskRow.{TaskRow}
use Rattle.table.specs.Format.{Rows}
use Rattle.table.specs.Limits.{HeapLimits, StaticLimits, KindLimits, EitherLife, TaskLimits, Consumers, Limits}
use Rattle.table.specs.Checking.{Spot, Read, then, refuse, within, past, consumer_low, consumer_high, check_consumers, unless}
use Rattle.table.proofs.Spelling.{true_within}

-- a number of a row, with the limits of its field
pub record Cell : Type 0 where
  pub low : ℕ
  pub high : ℕ
  pub value : ℕ

abbrev cell : ℕ → ℕ → ℕ → Cell
cell low high n = record { low = low; high = high; value = n }

abbrev pub heap_cells : HeapRow → List Cell
heap_cells r = cell 1 8192 r.space ∷ (cell 1 256 r.handles ∷ [])

abbrev pub static_cells : StaticRow → List Cell
static_cells r = cell 0 8192 r.words ∷ (cell 0 256 r.objects ∷ [])

abbrev pub kind_cells : KindRow → List Cell
kind_cells r = cell 1 32 r.size ∷ (cell 0 (2 ^ r.size - 1) r.map ∷ [])

abbrev pub task_cells : TaskRow → List Cell
task_cells r =
    cell 1 1000000 r.period ∷ (cell 1 r.period r.deadline ∷ (cell 1 r.deadline r.units
    ∷ (cell 0 8192 r.words ∷ (cell 0 256 r.objects ∷ (cell 0 64 r.life
    ∷ (cell (consumer_low r.life) (consumer_high r.life) r.consumer ∷ []))))))

-- a number after a comma at a column: too long, outside its limits, or what follows
abbrev pub meet : {A : Type 0} → Cell → ℕ → ℕ → Told A → Told A
meet x l c k =
    cond (ltb x.value (10 ^ 10)) (cond (within x.low x.high x.value) k (refuse 4 l (c + 1))) (refuse 3 l (c + 1))

abbrev pub cells_fit : {A : Type 0} → ℕ → ℕ → List Cell → Told A → Told A
cells_fit l c [] k = k
cells_fit l c (x ∷ xs) k = meet x l c (cells_fit l (past c x.value) xs k)

-- the lines of one sort of rows, whose numbers begin after a column, at most so many
abbrev pub rows_fit : {R A : Type 0} → (R → List Cell) → ℕ → ℕ → ℕ → List R → Told A → Told A
rows_fit cells c room l [] k = k
rows_fit cells c zero l (r ∷ rs) k = refuse 2 l 1
rows_fit cells c (suc room) l (r ∷ rs) k = cells_fit l c (cells r) (rows_fit cells c room (l + 1) rs k)

-- at least one row
abbrev pub some_row : {R A : Type 0} → List R → ℕ → Told A → Told A
some_row [] l k = refuse 2 l 1
some_row (r ∷ rs) l k = k

unfoldable pub fits : ℕ → ℕ → Rows → Told Rows
fits k t rows =
    let first = 3 + length rows.kinds in
    cells_fit 1 5 (heap_cells rows.heap) (cells_fit 2 7 (static_cells rows.statics)
    (some_row rows.kinds 3 (rows_fit kind_cells 5 (min 32 k) 3 rows.kinds
    (some_row rows.tasks first (rows_fit task_cells 5 (min 16 t) first rows.tasks
    (unless (check_consumers (length rows.tasks) 1 first rows.tasks) rows))))))

-- what follows a check comes after it

then_meet : {A B : Type 0} (x : Cell) (l c : ℕ) (k : Read A) (f : A → Spot → Told B) (j : Told B) → then k f ≡ j → then (meet x l c k) f ≡ meet x l c j
then_meet x l c k f j h = go (ltb x.value (10 ^ 10)) (within x.low x.high x.value)
  where
    go : (a b : Bool) → then (cond a (cond b k (refuse 4 l (c + 1))) (refuse 3 l (c + 1))) f ≡ cond a (cond b j (refuse 4 l (c + 1))) (refuse 3 l (c + 1))
    go true true = h
    go true false = refl
    go false true = refl
    go false false = refl

pub cells_then : {A B : Type 0} (l c : ℕ) (xs : List Cell) (k : Read A) (f : A → Spot → Told B) → then (cells_fit l c xs k) f ≡ cells_fit l c xs (then k f)
cells_then l c [] k f = refl
cells_then l c (x ∷ xs) k f = then_meet x l c _ f _ (cells_then l (past c x.value) xs k f)

-- rows within limits are not refused

pub record CellGood (x : Cell) : Type 0 where
  pub short : x.value < 10 ^ 10
  pub low_is : x.low ≤ x.value
  pub high_is : x.value ≤ x.high

cells_good : {A : Type 0} (l c : ℕ) (xs : List Cell) (k : Told A) → AllByRecursion CellGood xs → cells_fit l c xs k ≡ k
cells_good l c [] k h = refl
cells_good l c (x ∷ xs) k h =
    let s = lt-ltb x.value (10 ^ 10) h.0.short in
    let w = true_within x.low x.high x.value h.0.low_is h.0.high_is in
    rw (s, w) (cells_good l (past c x.value) xs k h.1)

good : (low high n : ℕ) → high < 10 ^ 10 → (low ≤ n) × (n ≤ high) → CellGood (cell low high n)
good low high n s w = record { short = omega arith; low_is = w.0; high_is = w.1 }

upto : (high n : ℕ) → high < 10 ^ 10 → n ≤ high → CellGood (cell 0 high n)
upto high n s w = good 0 high n s (omega arith)

pub heap_good : (r : HeapRow) → HeapLimits r → AllByRecursion CellGood (heap_cells r)
heap_good r h = (good 1 8192 r.space (omega arith) h.space, (good 1 256 r.handles (omega arith) h.handles, tt))

pub static_good : (r : StaticRow) → StaticLimits r → AllByRecursion CellGood (static_cells r)
static_good r h = (upto 8192 r.words (omega arith) h.words, (upto 256 r.objects (omega arith) h.objects, tt))

pub kind_good : (r : KindRow) → KindLimits r → AllByRecursion CellGood (kind_cells r)
kind_good r h =
    let p : 2 ^ r.size ≤ 2 ^ 32 = pow_mono h.size.1 in
    let m : r.map ≤ 2 ^ r.size - 1 = omega (arith, h.map) in
    (good 1 32 r.size (omega arith) h.size, (upto (2 ^ r.size - 1) r.map (omega arith) m, tt))

consumer_good : (life consumer : ℕ) → consumer ≤ 16 → EitherLife life consumer → CellGood (cell (consumer_low life) (consumer_high life) consumer)
consumer_good life consumer h (inl e) =
    let z = eq-eqb life 0 e.0 in
    rw z (good 1 16 consumer (omega arith) (e.1, h))
consumer_good life consumer h (inr e) =
    let z = ne_eqb life 0 (λ q. omega arith) in
    rw z (good 0 0 consumer (omega arith) (omega (arith, e.1)))

pub task_good : (r : TaskRow) → TaskLimits r → AllByRecursion CellGood (task_cells r)
task_good r h =
    let p = h.period in
    let d = h.deadline in (
      good 1 1000000 r.period (omega arith) p,
      (
        good 1 r.period r.deadline (omega arith) d,
        (
          good 1 r.deadline r.units (omega arith) h.units,
          (
            upto 8192 r.words (omega arith) h.words,
            (
              upto 256 r.objects (omega arith) h.objects,
              (
                upto 64 r.life (omega arith) h.life,
                (consumer_good r.life r.consumer h.consumer h.either, tt),
              ),
            ),
          ),
        ),
      ),
    )

rows_good : {R A : Type 0} (Good : R → Type 0) (cells : R → List Cell) → ((r : R) → Good r → AllByRecursion CellGood (cells r)) → (c room l : ℕ) (rs : List R) (k : Told A) → AllByRecursion Good rs → length rs ≤ room → rows_fit cells c room l rs k ≡ k
rows_good Good cells each c room l [] k h few = refl
rows_good Good cells each c zero l (r ∷ rs) k h few = absurd (omega arith)
rows_good Good cells each c (suc room) l (r ∷ rs) k h few =
    cells_good l c (cells r) _ (each r h.0) ∙ rows_good Good cells each c room (l + 1) rs k h.1 (omega arith)

some_good : {R A : Type 0} (rs : List R) (l : ℕ) (j k : Told A) → 1 ≤ length rs → j ≡ k → some_row rs l j ≡ k
some_good [] l j k h e = absurd (omega arith)
some_good (r ∷ rs) l j k h e = e

consumers_good : {A : Type 0} (count i l : ℕ) (rs : List TaskRow) (a : A) → Consumers count i rs → unless (check_consumers count i l rs) a ≡ answered a
consumers_good count i l [] a h = refl
consumers_good count i l (r ∷ rs) a h =
    let e = and_from (leb r.consumer count) (not (eqb r.consumer i)) (le-leb r.consumer count h.0.0) (not_from_false (eqb r.consumer i) (ne_eqb r.consumer i h.0.1)) in
    rw e (consumers_good count (i + 1) (l + 1) rs a h.1)

pub fits_good : (k t : ℕ) (rows : Rows) → Limits rows → length rows.kinds ≤ k → length rows.tasks ≤ t → fits k t rows ≡ answered rows
unfolding fits
fits_good k t rows h few many =
    let first = 3 + length rows.kinds in
    let fk : length rows.kinds ≤ min 32 k = omega (arith, h.kind_count.1) in
    let ft : length rows.tasks ≤ min 16 t = omega (arith, h.task_count.1) in
    cells_good 1 5 (heap_cells rows.heap) _ (heap_good rows.heap h.heap)
    ∙ cells_good 2 7 (static_cells rows.statics) _ (static_good rows.statics h.statics)
    ∙ some_good rows.kinds 3 _ (answered rows) h.kind_count.0
    (rows_good KindLimits kind_cells kind_good 5 (min 32 k) 3 rows.kinds _ h.kinds fk
    ∙ some_good rows.tasks first _ (answered rows) h.task_count.0
    (rows_good TaskLimits task_cells task_good 5 (min 16 t) first rows.tasks _ h.tasks ft
    ∙ consumers_good (length rows.tasks) 1 first rows.tasks rows h.consumers))
