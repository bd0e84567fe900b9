-- A call and a step write one word at most, and change nothing where they are refused.
use Rattle.heap.specs.Objects.{prepared}
use Rattle.std.proofs.Common.{◌≡◌, ℕ, true, false, cond, eqb, List, set, sym, refl, ◌∙◌, inl, inr}
use Rattle.std.proofs.lemmas.List.{get_or-set_other, length-set}
use Rattle.std.proofs.lemmas.Bool.{cases_Bool, cond_both, cond-true, cond-false, ne_eqb}
use Rattle.fault.specs.Told.{Refusal, Told, answered, refused}
use Rattle.heap.specs.declared.Call.{Call}
use Rattle.heap.specs.declared.Call.TheVariants.{New, Copy, Drop, Fetch, Put, Read, Write, Same, Kind}
use Rattle.heap.specs.declared.Heap.{Heap}
use Rattle.heap.specs.declared.Phase.{Phase}
use Rattle.heap.specs.declared.Phase.TheVariants.{Idle, Tracing, Sweeping, Clearing}
use Rattle.heap.specs.Answers.{Ans, absent, in_heap}
use Rattle.heap.specs.Calls.{taken, calling}
use Rattle.heap.specs.Steps.{Stepped, step_by, goes, stays, after_flip, swept, take_step, copy_step, step}
use Rattle.heap.specs.Laws.{OneWord, SmallCall, SmallStep}

unchanged : (m : List ℕ) → OneWord m m
unchanged m = record { place = 0; others = λ p n. refl; long = refl }

one_set : (m : List ℕ) (p v : ℕ) → OneWord m (set m p v)
one_set m p v = record { place = p; others = λ q n. get_or-set_other m p q v 0 n; long = length-set m p v }

one_taken : (m : List ℕ) (n p v : ℕ) → OneWord m (taken n (set m p v) m)
one_taken m n p v = cond_both (eqb n 0) (set m p v) m (OneWord m) (λ e. one_set m p v) (λ e. unchanged m)

clash : {A : Type 0} {a : A} {r : Refusal} → answered a ≡ refused r → ⊥
clash e = cc

-- a refusal is refused by some number
refused_by : {A : Type 0} (n : ℕ) (a : A) (f r : Refusal) → cond (eqb n 0) (answered a) (refused f) ≡ refused r → eqb n 0 ≡ false
refused_by n a f r e =
    elim (cases_Bool (eqb n 0)) [ inl t ↦ absurd (clash (sym (cond-true (eqb n 0) (answered a) (refused f) t) ∙ e)) | inr g ↦ g ]

-- what is told, and the heap and the memory that are left
record Small (h : Heap) (m : List ℕ) (t : Told Ans) (k : Heap) (l : List ℕ) : Type 0 where
  one_word : OneWord m l
  refused_changes_nothing : (r : Refusal) → t ≡ refused r → (k ≡ h) × (l ≡ m)

-- nothing changes
asked : (h : Heap) (m : List ℕ) (t : Told Ans) → Small h m t h m
asked h m t = record { one_word = unchanged m; refused_changes_nothing = λ r e. (refl, refl) }

-- nothing is refused, and the heap alone changes
gone : (h k : Heap) (m : List ℕ) (a : Ans) → Small h m (answered a) k m
gone h k m a = record { one_word = unchanged m; refused_changes_nothing = λ r e. absurd (clash e) }

-- the heap alone changes, unless a number refuses it
turned : (h k : Heap) (m : List ℕ) (n : ℕ) (a : Ans) (f : Refusal) → Small h m (cond (eqb n 0) (answered a) (refused f)) (taken n k h) m
turned h k m n a f =
    record { one_word = unchanged m; refused_changes_nothing = λ r e. (cond-false (eqb n 0) k h (refused_by n a f r e), refl) }

-- a word changes
written : (h : Heap) (m : List ℕ) (p v n : ℕ) (a : Ans) (f : Refusal) → Small h m (cond (eqb n 0) (answered a) (refused f)) h (taken n (set m p v) m)
written h m p v n a f =
    record {
      one_word = one_taken m n p v;
      refused_changes_nothing = λ r e. (refl, cond-false (eqb n 0) (set m p v) m (refused_by n a f r e));
    }

-- both change
done : (h k : Heap) (m : List ℕ) (p v n : ℕ) (a : Ans) (f : Refusal) → Small h m (cond (eqb n 0) (answered a) (refused f)) (taken n k h) (taken n (set m p v) m)
done h k m p v n a f =
    record {
      one_word = one_taken m n p v;
      refused_changes_nothing = λ r e.
          let g = refused_by n a f r e in
          (cond-false (eqb n 0) k h g, cond-false (eqb n 0) (set m p v) m g);
    }

a_call : (h : Heap) (m : List ℕ) (k : Call) → Small h m (calling h m k).told (calling h m k).heap (calling h m k).memory
a_call h m (New s k) = turned h _ m _ _ _
a_call h m (Copy s t) = turned h _ m _ _ _
a_call h m (Drop s) = turned h _ m _ _ _
a_call h m (Fetch s j t) = turned h _ m _ _ _
a_call h m (Put s j t) = done h _ m _ _ _ _ _
a_call h m (Read s j) = asked h m _
a_call h m (Write s j n) = written h m _ _ _ _ _
a_call h m (Same s t) = asked h m _
a_call h m (Kind s) = asked h m _

pub small_call : (h : Heap) (m : List ℕ) (k : Call) → SmallCall h m k
small_call h m k = let s = a_call h m k in record { one_word = s.one_word; refused_changes_nothing = s.refused_changes_nothing }

abbrev SmallStepped : Heap → List ℕ → Stepped → Type 0
SmallStepped h m q = Small h m q.told q.heap q.memory

by_phase : (p : Phase) (mover chain : ℕ) (h : Heap) (m : List ℕ) → SmallStepped h m (step_by p mover chain h m)
by_phase Idle mover chain h m = gone h (after_flip h) m absent
by_phase Tracing mover chain h m =
    cond_both (eqb mover 0) (cond (eqb chain 0) (goes (swept h 1) m) (take_step h m)) (copy_step h m) (SmallStepped h m)
    (λ _. cond_both (eqb chain 0) (goes (swept h 1) m) (take_step h m) (SmallStepped h m) (λ _. gone h (swept h 1) m absent) (λ _. turned h _ m _ _ _))
    (λ _. done h _ m _ _ _ _ _)
by_phase (Sweeping n) mover chain h m = gone h (swept h n) m absent
by_phase (Clearing n) mover chain h m = done h _ m _ _ _ _ _

pub small_step : (h : Heap) (m : List ℕ) → SmallStep h m
small_step h m =
    let s = cond_both (prepared h) (step_by h.cycle.phase h.cycle.course.mover h.table.marked h m) (stays h m (in_heap 12)) (SmallStepped h m)
    (λ _. by_phase h.cycle.phase h.cycle.course.mover h.table.marked h m) (λ _. asked h m _) in
    record { one_word = s.one_word; refused_changes_nothing = s.refused_changes_nothing }

-- the step that an object under way calls for
pub step_copies : (h : Heap) (m : List ℕ) → prepared h ≡ true → h.cycle.phase ≡ Tracing → (h.cycle.course.mover ≡ 0 → ⊥) → step h m ≡ copy_step h m
step_copies h m p q n = let e : eqb h.cycle.course.mover 0 ≡ false = ne_eqb h.cycle.course.mover 0 n in rw (p, q, e)
