-- A text that is accepted writes its rows, and they keep the limits.
use Rattle.std.proofs.Common.{◌≡◌, ℕ, zero, suc, ◌+◌, ◌≤◌, min, Bool, true, false, cond, not, ◌&&◌, ◌||◌, eqb, leb, List, [], ◌∷◌, ◌++◌, length, get_or, drop, codes, decimal, sym, refl, ap, ◌∙◌, subst, inl, inr, arith, pow_pos}
use Rattle.std.specs.List.{AllByRecursion}
use Rattle.std.proofs.lemmas.Bool.{and_parts, or_parts, eqb-true, eqb-false, leb-true, not-true}
use Rattle.std.proofs.lemmas.Slice.Eq.{bytes_eq-Decides}
use Rattle.std.proofs.lemmas.Bool.Decides.{nat_tests}
use Rattle.fault.specs.Told.{Told, answered, refused, Refusal}
use Rattle.table.specs.declared.rows.HeapRow.{HeapRow}
use Rattle.table.specs.declared.rows.StaticRow.{StaticRow}
use Rattle.table.specs.declared.rows.KindRow.{KindRow}
use Rattle.table.specs.declared.rows.TaskRow.{TaskRow}
use Rattle.table.specs.Format.{Rows, heap_numbers, static_numbers, kind_numbers, task_numbers, field, fields, line, lines, render}
use Rattle.table.specs.Limits.{HeapLimits, StaticLimits, KindLimits, EitherLife, TaskLimits, Consumers}
use Rattle.table.specs.Checking.{Spot, Read, at, then, front, after, is_number, digits_value, within, placed, field_value, number, line_end, read_heap, read_static, read_kind, read_task, consumer_low, consumer_high, leads, past_word, one_line, more_lines, check_consumers, unless, none, finish, check_lines, is_whole, check}
use Rattle.table.specs.Laws.{Accepted}
use Rattle.table.proofs.Spelling.{within_true, front_after, decimal_number}

-- answers

pub clash : {A : Type 0} (e : Refusal) (y : A) → ◌≡◌ {A = Told A} (refused e) (answered y) → ⊥
clash e y h = let z : ◌≡◌ {A = ℕ} 0 1 = cc in omega arith

pub answer_same : {A : Type 0} (x y : A) → ◌≡◌ {A = Told A} (answered x) (answered y) → x ≡ y
answer_same x y h = cc

pair_same : {A : Type 0} (x y : A) (s t : Spot) → ◌≡◌ {A = Read A} (answered (x, s)) (answered (y, t)) → (x ≡ y) × (s ≡ t)
pair_same {A = A} x y s t h =
    let e = answer_same (x, s) (y, t) h in
    (ap (λ (p : A × Spot). p.0) e, ap (λ (p : A × Spot). p.1) e)

-- what a reading that goes on gives on the way
then_ok : {A B X : Type 0} (r : Read A) (f : A → Spot → Told B) (y : B) → then r f ≡ answered y → ((x : A) (s : Spot) → r ≡ answered (x, s) → f x s ≡ answered y → X) → X
then_ok (answered x) f y h k = k x.0 x.1 refl h
then_ok (refused e) f y h k = absurd (clash e y h)

pub cond_ok : {A : Type 0} (b : Bool) (x : Told A) (e : Refusal) (y : A) → cond b x (refused e) ≡ answered y → (b ≡ true) × (x ≡ answered y)
cond_ok true x e y h = (refl, h)
cond_ok false x e y h = absurd (clash e y h)

not_refused : {A : Type 0} (b : Bool) (e : Refusal) (x : Told A) (y : A) → cond b (refused e) x ≡ answered y → (b ≡ false) × (x ≡ answered y)
not_refused true e x y h = absurd (clash e y h)
not_refused false e x y h = (refl, h)

placed_ok : {A : Type 0} (r : Told A) (s s' : Spot) (x : A) → placed r s ≡ answered (x, s') → (r ≡ answered x) × (s ≡ s')
placed_ok (answered y) s s' x h = let p = pair_same y x s s' h in (ap answered p.0, p.1)
placed_ok (refused e) s s' x h = absurd (clash e (x, s') h)

first_byte : (text : List ℕ) (b : ℕ) → 1 ≤ b → get_or text 0 0 ≡ b → text ≡ b ∷ drop 1 text
first_byte [] b h e = absurd (omega arith)
first_byte (x ∷ xs) b h e = cc

-- numbers and line ends

value_sound : (low high l c : ℕ) (ds : List ℕ) (n : ℕ) → field_value low high l c ds ≡ answered n → (ds ≡ decimal n) × ((low ≤ n) × (n ≤ high))
value_sound low high l c ds n h =
    let q = cond_ok (is_number ds) _ _ _ h in
    let m = cond_ok (within low high (digits_value 0 ds)) _ _ _ q.1 in
    let v = answer_same (digits_value 0 ds) n m.1 in
    let w = within_true low high (digits_value 0 ds) m.0 in
    (sym (ap decimal (sym v) ∙ decimal_number ds q.0), omega arith)

joins : (text ds r : List ℕ) (n : ℕ) → text ≡ 44 ∷ (ds ++ r) → ds ≡ decimal n → text ≡ field n r
unfolding field
joins text ds r n e f = cc

pub number_sound : (low high : ℕ) (s s' : Spot) (n : ℕ) → number low high s ≡ answered (n, s') → (s.rest ≡ field n s'.rest) × ((low ≤ n) × (n ≤ high))
unfolding number
number_sound low high s s' n h =
    let text = drop 1 s.rest in
    let a = cond_ok (eqb (get_or s.rest 0 0) 44) _ _ _ h in
    let e = first_byte s.rest 44 (omega arith) (eqb-true (get_or s.rest 0 0) 44 a.0) in
    let p = placed_ok (field_value low high s.line (s.column + 1) (front text)) _ s' n a.1 in
    let v = value_sound low high s.line (s.column + 1) (front text) n p.0 in
    let r : after text ≡ s'.rest = ap (λ (x : Spot). x.rest) p.1 in
    (joins s.rest (front text) s'.rest n (e ∙ ap (λ x. 44 ∷ x) (sym (front_after text) ∙ ap (λ x. front text ++ x) r)) v.0, v.1)

end_sound : (s s' : Spot) (u : Unit {0}) → line_end s ≡ answered (u, s') → s.rest ≡ 10 ∷ s'.rest
unfolding line_end
end_sound s s' u h =
    let a = cond_ok (eqb (get_or s.rest 0 0) 10) _ _ _ h in
    let p = pair_same tt u (at (drop 1 s.rest) (s.line + 1) 1) s' a.1 in
    let e = first_byte s.rest 10 (omega arith) (eqb-true (get_or s.rest 0 0) 10 a.0) in
    let r : drop 1 s.rest ≡ s'.rest = ap (λ (x : Spot). x.rest) p.1 in
    e ∙ ap (λ x. 10 ∷ x) r

number_then : {B X : Type 0} (low high : ℕ) (s : Spot) (f : ℕ → Spot → Told B) (y : B) → then (number low high s) f ≡ answered y → ((n : ℕ) (s1 : Spot) → s.rest ≡ field n s1.rest → (low ≤ n) × (n ≤ high) → f n s1 ≡ answered y → X) → X
number_then low high s f y h k =
    then_ok (number low high s) f y h (λ n s1 p q. let b = number_sound low high s s1 n p in k n s1 b.0 b.1 q)

end_then : {B X : Type 0} (s : Spot) (f : Unit {0} → Spot → Told B) (y : B) → then (line_end s) f ≡ answered y → ((s1 : Spot) → s.rest ≡ 10 ∷ s1.rest → f tt s1 ≡ answered y → X) → X
end_then s f y h k = then_ok (line_end s) f y h (λ u s1 p q. k s1 (end_sound s s1 u p) q)

-- the numbers of a row stand at s, they keep its limits, and s' is after them
record Holds {R : Type 0} (numbers : R → List ℕ) (Good : R → Type 0) (s : Spot) (r : R) (s' : Spot) : Type 0 where
  text : s.rest ≡ fields (numbers r) s'.rest
  good : Good r

close : {R : Type 0} (numbers : R → List ℕ) (Good : R → Type 0) (s s1 s' : Spot) (q r : R) → ◌≡◌ {A = Read R} (answered (q, s1)) (answered (r, s')) → Holds numbers Good s q s1 → Holds numbers Good s r s'
close {R = R} numbers Good s s1 s' q r h x =
    let p = pair_same q r s1 s' h in
    subst (λ (y : R). Holds numbers Good s y s') p.0 (subst (λ (t : Spot). Holds numbers Good s q t) p.1 x)

heap_sound : (s s' : Spot) (r : HeapRow) → read_heap s ≡ answered (r, s') → Holds heap_numbers HeapLimits s r s'
heap_sound s s' r h =
    number_then _ _ _ _ _ h (λ space s1 t1 w1 h1. number_then _ _ _ _ _ h1 (λ handles s2 t2 w2 h2. end_then _ _ _ h2 (λ s3 t3 h3.
    close heap_numbers HeapLimits s s3 s' _ r h3
    (record { text = t1 ∙ ap (field space) (t2 ∙ ap (field handles) t3); good = record { space = w1; handles = w2 } }))))

static_sound : (s s' : Spot) (r : StaticRow) → read_static s ≡ answered (r, s') → Holds static_numbers StaticLimits s r s'
static_sound s s' r h =
    number_then _ _ _ _ _ h (λ words s1 t1 w1 h1. number_then _ _ _ _ _ h1 (λ objects s2 t2 w2 h2. end_then _ _ _ h2 (λ s3 t3 h3.
    close static_numbers StaticLimits s s3 s' _ r h3
    (record { text = t1 ∙ ap (field words) (t2 ∙ ap (field objects) t3); good = record { words = w1.1; objects = w2.1 } }))))

kind_sound : (s s' : Spot) (r : KindRow) → read_kind s ≡ answered (r, s') → Holds kind_numbers KindLimits s r s'
kind_sound s s' r h =
    number_then _ _ _ _ _ h (λ size s1 t1 w1 h1. number_then _ _ _ _ _ h1 (λ map s2 t2 w2 h2. end_then _ _ _ h2 (λ s3 t3 h3.
    close kind_numbers KindLimits s s3 s' _ r h3
    (record { text = t1 ∙ ap (field size) (t2 ∙ ap (field map) t3); good = record { size = w1; map = omega (arith, pow_pos size) } }))))

either_of : (life consumer : ℕ) → (consumer_low life ≤ consumer) × (consumer ≤ consumer_high life) → (consumer ≤ 16) × EitherLife life consumer
either_of zero consumer h = (h.1, inl (refl, h.0))
either_of (suc life) consumer h =
    let e : consumer_high (suc life) ≡ 0 = grind (arith, nat_tests) in
    (omega arith, inr (omega arith, omega arith))

task_sound : (s s' : Spot) (r : TaskRow) → read_task s ≡ answered (r, s') → Holds task_numbers TaskLimits s r s'
task_sound s s' r h =
    number_then _ _ _ _ _ h (λ period s1 t1 w1 h1. number_then _ _ _ _ _ h1 (λ deadline s2 t2 w2 h2. number_then _ _ _ _ _ h2 (λ units s3 t3 w3 h3.
    number_then _ _ _ _ _ h3 (λ words s4 t4 w4 h4. number_then _ _ _ _ _ h4 (λ objects s5 t5 w5 h5. number_then _ _ _ _ _ h5 (λ life s6 t6 w6 h6.
    number_then _ _ _ _ _ h6 (λ consumer s7 t7 w7 h7. end_then _ _ _ h7 (λ s8 t8 h8.
    let o = either_of life consumer w7 in
    close task_numbers TaskLimits s s8 s' _ r h8
    (record {
      text =
          t1 ∙ ap (field period) (t2 ∙ ap (field deadline) (t3 ∙ ap (field units) (t4 ∙ ap (field words)
          (t5 ∙ ap (field objects) (t6 ∙ ap (field life) (t7 ∙ ap (field consumer) t8))))));
      good = record { period = w1; deadline = w2; units = w3; words = w4.1; objects = w5.1; life = w6.1; consumer = o.0; either = o.1 };
    })))))))))

-- first words

leads_sound : (w : List ℕ) (s : Spot) → leads w s ≡ true → s.rest ≡ w ++ (past_word w s).rest
unfolding leads
leads_sound w s h =
    let e = (bytes_eq-Decides (front s.rest) w).0 h in
    sym (front_after s.rest) ∙ ap (λ x. x ++ after s.rest) e

-- what is shown of the lines of one sort of rows
abbrev Sounds : {R : Type 0} → (R → List ℕ) → (R → Type 0) → (Spot → Read R) → Type 0
Sounds {R = R} numbers Good read = (s s' : Spot) (r : R) → read s ≡ answered (r, s') → Holds numbers Good s r s'

one_sound : {R : Type 0} (w : List ℕ) (numbers : R → List ℕ) (Good : R → Type 0) (read : Spot → Read R) → Sounds numbers Good read → (s s' : Spot) (r : R) → one_line w read s ≡ answered (r, s') → (s.rest ≡ line w (numbers r) s'.rest) × Good r
unfolding one_line
one_sound w numbers Good read each s s' r h =
    let a = cond_ok (leads w s) _ _ _ h in
    let b = each (past_word w s) s' r a.1 in
    (leads_sound w s a.0 ∙ ap (λ x. w ++ x) b.text, b.good)

record LinesHold {R : Type 0} (w : List ℕ) (numbers : R → List ℕ) (Good : R → Type 0) (room : ℕ) (s : Spot) (rs : List R) (s' : Spot) : Type 0 where
  text : s.rest ≡ lines w numbers rs s'.rest
  good : AllByRecursion Good rs
  few : length rs ≤ room

close_lines : {R : Type 0} (w : List ℕ) (numbers : R → List ℕ) (Good : R → Type 0) (room : ℕ) (s s1 s' : Spot) (qs rs : List R) → ◌≡◌ {A = Read (List R)} (answered (qs, s1)) (answered (rs, s')) → LinesHold w numbers Good room s qs s1 → LinesHold w numbers Good room s rs s'
close_lines {R = R} w numbers Good room s s1 s' qs rs h x =
    let p = pair_same qs rs s1 s' h in
    subst (λ (y : List R). LinesHold w numbers Good room s y s') p.0 (subst (λ (t : Spot). LinesHold w numbers Good room s qs t) p.1 x)

lines_step : {R : Type 0} (w : List ℕ) (numbers : R → List ℕ) (Good : R → Type 0) (read : Spot → Read R) → Sounds numbers Good read → (room : ℕ) → ((s s' : Spot) (rs : List R) → more_lines w read room s ≡ answered (rs, s') → LinesHold w numbers Good room s rs s') → (s s' : Spot) (rs : List R) (b : Bool) → leads w s ≡ b → cond b (then {B = List R × Spot} (read (past_word w s)) (λ r s1. then {B = List R × Spot} (more_lines w read room s1) (λ qs s2. answered (r ∷ qs, s2)))) (answered ([], s)) ≡ answered (rs, s') → LinesHold w numbers Good (suc room) s rs s'
lines_step w numbers Good read each room ih s s' rs true l e =
    then_ok _ _ _ e (λ r s1 p1 h1. then_ok _ _ _ h1 (λ qs s2 p2 h2.
    let a = each (past_word w s) s1 r p1 in
    let b = ih s1 s2 qs p2 in
    close_lines w numbers Good (suc room) s s2 s' (r ∷ qs) rs h2
    (record {
      text = leads_sound w s l ∙ ap (λ x. w ++ x) (a.text ∙ ap (fields (numbers r)) b.text);
      good = (a.good, b.good);
      few = omega (arith, b.few);
    })))
lines_step w numbers Good read each room ih s s' rs false l e =
    close_lines w numbers Good (suc room) s s s' [] rs e (record { text = refl; good = tt; few = omega arith })

lines_sound : {R : Type 0} (w : List ℕ) (numbers : R → List ℕ) (Good : R → Type 0) (read : Spot → Read R) → Sounds numbers Good read → (room : ℕ) (s s' : Spot) (rs : List R) → more_lines w read room s ≡ answered (rs, s') → LinesHold w numbers Good room s rs s'
unfolding more_lines
lines_sound w numbers Good read each zero s s' rs h =
    close_lines w numbers Good zero s s s' [] rs h (record { text = refl; good = tt; few = omega arith })
lines_sound w numbers Good read each (suc room) s s' rs h =
    lines_step w numbers Good read each room (λ a b qs e. lines_sound w numbers Good read each room a b qs e) s s' rs (leads w s) refl h

-- the whole text

unless_ok : {A : Type 0} (r : Told (Unit {0})) (a y : A) → unless r a ≡ answered y → (r ≡ answered tt) × (a ≡ y)
unless_ok (answered x) a y h = (refl, answer_same a y h)
unless_ok (refused e) a y h = absurd (clash e y h)

some_of : {A : Type 0} (xs : List A) → none xs ≡ false → 1 ≤ length xs
some_of [] h = let z : ◌≡◌ {A = ℕ} 0 1 = cc in absurd (omega arith)
some_of (x ∷ xs) h = omega arith

nil_of : (xs : List ℕ) → not (none xs) ≡ false → xs ≡ []
nil_of [] h = refl
nil_of (x ∷ xs) h = let z : ◌≡◌ {A = ℕ} 0 1 = cc in absurd (omega arith)

consumers_sound : (count i l : ℕ) (rs : List TaskRow) → check_consumers count i l rs ≡ answered tt → Consumers count i rs
consumers_sound count i l [] h = tt
consumers_sound count i l (r ∷ rs) h =
    let a = cond_ok (leb r.consumer count && not (eqb r.consumer i)) _ _ _ h in
    let p = and_parts (leb r.consumer count) (not (eqb r.consumer i)) a.0 in
    ((leb-true r.consumer count p.0, eqb-false r.consumer i (not-true (eqb r.consumer i) p.1)), consumers_sound count (i + 1) (l + 1) rs a.1)

lines_accepted : (k t : ℕ) (text : List ℕ) (rows : Rows) → check_lines k t text ≡ answered rows → Accepted text k t rows
unfolding check_lines finish render
lines_accepted k t text rows h =
    then_ok (one_line (codes "heap") read_heap (at text 1 1)) _ _ h (λ heap s1 p1 h1.
    then_ok (one_line (codes "static") read_static s1) _ _ h1 (λ statics s2 p2 h2.
    then_ok (more_lines (codes "kind") read_kind (min 32 k) s2) _ _ h2 (λ kinds s3 p3 h3.
    let g3 = not_refused (none kinds) _ _ _ h3 in
    then_ok (more_lines (codes "task") read_task (min 16 t) s3) _ _ g3.1 (λ tasks s4 p4 h4.
    let g4 = not_refused (none tasks || not (none s4.rest)) _ _ _ h4 in
    let n4 = or_parts (none tasks) (not (none s4.rest)) g4.0 in
    let g5 = unless_ok (check_consumers (length tasks) 1 (3 + length kinds) tasks) _ _ g4.1 in
    let a1 = one_sound (codes "heap") heap_numbers HeapLimits read_heap heap_sound (at text 1 1) s1 heap p1 in
    let a2 = one_sound (codes "static") static_numbers StaticLimits read_static static_sound s1 s2 statics p2 in
    let a3 = lines_sound (codes "kind") kind_numbers KindLimits read_kind kind_sound (min 32 k) s2 s3 kinds p3 in
    let a4 = lines_sound (codes "task") task_numbers TaskLimits read_task task_sound (min 16 t) s3 s4 tasks p4 in
    let c = consumers_sound (length tasks) 1 (3 + length kinds) tasks g5.0 in
    let some3 = some_of kinds g3.0 in
    let some4 = some_of tasks n4.0 in
    let few3 : (length kinds ≤ 32) × (length kinds ≤ k) = omega (arith, a3.few) in
    let few4 : (length tasks ≤ 16) × (length tasks ≤ t) = omega (arith, a4.few) in
    subst (λ (x : Rows). Accepted text k t x) g5.1
    (record {
      text_is =
          a1.0 ∙ ap (line (codes "heap") (heap_numbers heap)) (a2.0 ∙ ap (line (codes "static") (static_numbers statics))
          (a3.text ∙ ap (lines (codes "kind") kind_numbers kinds) (a4.text ∙ ap (lines (codes "task") task_numbers tasks) (nil_of s4.rest n4.1))));
      limits =
          record {
            heap = a1.1;
            statics = a2.1;
            kinds = a3.good;
            tasks = a4.good;
            kind_count = (some3, few3.0);
            task_count = (some4, few4.0);
            consumers = c;
          };
      kind_room = few3.1;
      task_room = few4.1;
    })))))

pub check_sound : (text : List ℕ) (k t : ℕ) (rows : Rows) → check text k t ≡ answered rows → Accepted text k t rows
unfolding check
check_sound text k t rows h = lines_accepted k t text rows (cond_ok (is_whole text) _ _ _ h).1
