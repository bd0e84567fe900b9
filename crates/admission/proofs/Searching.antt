-- The least and the largest number that passes a test, by their definitions.
use Rattle.std.proofs.Common.{◌≡◌, ℕ, zero, suc, ◌+◌, ◌-◌, ◌*◌, ◌<◌, ◌≤◌, Bool, true, List, Some, None, sym, refl, ap, ◌∙◌, inl, inr, arith}
use Rattle.std.proofs.lemmas.Bool.{cases_Bool, cases_eq, leb-true, le-leb, cond-true, cond-false, and_parts, and_from}
use Rattle.admission.specs.declared.task.Task.{Task}
use Rattle.admission.specs.declared.task.Share.TheVariants.{Words, Objects}
use Rattle.admission.specs.declared.figures.Room.{Room}
use Rattle.admission.specs.Demand.{demand, part_of, DoneIn, Least, Never}
use Rattle.admission.specs.Search.{first_from, least, last_from, largest}
use Rattle.admission.specs.Admission.{done_in, words_fit, handles_fit, fits}
use Rattle.admission.proofs.Rising.{EachSized, demand_rises}

first_none : (test : ℕ → Bool) (n k : ℕ) → ((j : ℕ) → k ≤ j → j < k + n → test j ≡ true → ⊥) → first_from test n k ≡ None
first_none test zero k never = refl
first_none test (suc n) k never =
    elim (cases_Bool (test k)) [
      | inl t ↦ absurd (never k (omega arith) (omega arith) t)
      | inr f ↦ cond-false (test k) (Some k) (first_from test n (k + 1)) f ∙ first_none test n (k + 1) (λ j l h t. never j (omega arith) (omega arith) t)
    ]

first_some : (test : ℕ → Bool) (n k r : ℕ) → k ≤ r → r < k + n → test r ≡ true → ((j : ℕ) → k ≤ j → j < r → test j ≡ true → ⊥) → first_from test n k ≡ Some r
first_some test zero k r l h t before = absurd (omega arith)
first_some test (suc n) k r l h t before =
    elim (cases_eq k r) [
      | inl e ↦ cond-true (test k) (Some k) (first_from test n (k + 1)) (ap test e ∙ t) ∙ ap Some e
      | inr d ↦
          elim (cases_Bool (test k)) [
            | inl p ↦ absurd (before k (omega arith) (omega arith) p)
            | inr f ↦
                cond-false (test k) (Some k) (first_from test n (k + 1)) f ∙ first_some test n (k + 1) r (omega arith) (omega arith) t (λ j m i p. before j (omega arith) i p)
          ]
    ]

pub done_true : (own : ℕ) (ts : List Task) (k : ℕ) → done_in own ts k ≡ true → DoneIn own ts k
done_true own ts k h = leb-true _ _ h

pub true_done : (own : ℕ) (ts : List Task) (k : ℕ) → DoneIn own ts k → done_in own ts k ≡ true
true_done own ts k h = le-leb _ _ h

pub none_is : (own : ℕ) (ts : List Task) (high : ℕ) → Never (DoneIn own ts) high → None ≡ least (done_in own ts) high
unfolding least
none_is own ts high never = sym (first_none (done_in own ts) high 1 (λ j l h t. never j l (omega arith) (done_true own ts j t)))

pub least_is : (own : ℕ) (ts : List Task) (high r : ℕ) → Least (DoneIn own ts) high r → Some r ≡ least (done_in own ts) high
unfolding least
least_is own ts high r h =
    sym (first_some (done_in own ts) high 1 r h.from (omega (arith, h.to)) (true_done own ts r h.holds)
    (λ j l i t. let m = h.least j l (done_true own ts j t) in omega arith))

last_is : (test : ℕ → Bool) (n k r : ℕ) → n ≤ k → k - n ≤ r → r ≤ k → test r ≡ true → ((j : ℕ) → r < j → j ≤ k → test j ≡ true → ⊥) → last_from test n k ≡ r
last_is test zero k r w l h t above = omega arith
last_is test (suc n) k r w l h t above =
    elim (cases_eq k r) [
      | inl e ↦ cond-true (test k) k (last_from test n (k - 1)) (ap test e ∙ t) ∙ e
      | inr d ↦
          elim (cases_Bool (test k)) [
            | inl p ↦ absurd (above k (omega arith) (omega arith) p)
            | inr f ↦ cond-false (test k) k (last_from test n (k - 1)) f ∙ last_is test n (k - 1) r (omega arith) (omega arith) (omega arith) t (λ j i u p. above j i (omega arith) p)
          ]
    ]

pub largest_is : (test : ℕ → Bool) (low high r : ℕ) → low ≤ r → r ≤ high → test r ≡ true → ((j : ℕ) → r < j → j ≤ high → test j ≡ true → ⊥) → r ≡ largest test low high
unfolding largest
largest_is test low high r l h t above = sym (last_is test (high - low) high r (omega arith) (omega arith) h t above)

-- a shorter period fits where a longer one does
pub words_fall : (m : Room) (ts : List Task) (a b : ℕ) → EachSized ts → a ≤ b → words_fit m ts b ≡ true → words_fit m ts a ≡ true
words_fall m ts a b l h t =
    let d = demand_rises (part_of Words) (a + m.lateness) (b + m.lateness) (omega arith) ts l in
    le-leb _ _ (omega (arith, leb-true (m.live_words + demand (part_of Words) (b + m.lateness) ts) m.space t))

pub handles_fall : (m : Room) (ts : List Task) (a b : ℕ) → EachSized ts → a ≤ b → handles_fit m ts b ≡ true → handles_fit m ts a ≡ true
handles_fall m ts a b l h t =
    let d = demand_rises (part_of Objects) (a + m.lateness) (b + m.lateness) (omega arith) ts l in
    le-leb _ _ (omega (arith, leb-true (m.live_objects + 2 * demand (part_of Objects) (b + m.lateness) ts) m.handles t))

pub fits_fall : (m : Room) (ts : List Task) (a b : ℕ) → EachSized ts → a ≤ b → fits m ts b ≡ true → fits m ts a ≡ true
fits_fall m ts a b l h t =
    let p = and_parts (words_fit m ts b) (handles_fit m ts b) t in
    and_from (words_fit m ts a) (handles_fit m ts a) (words_fall m ts a b l h p.0) (handles_fall m ts a b l h p.1)
