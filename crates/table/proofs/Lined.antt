-- Lines that begin with one word: one more, and the ways to their end.
use Rattle.std.proofs.Common.{◌≡◌, ℕ, zero, suc, ◌+◌, ◌<◌, true, false, cond, List, [], ◌∷◌, ◌++◌, sym, refl, ap, ◌∙◌, add-one, arith}
use Rattle.std.proofs.lemmas.List.{append_assoc, append-nil}
use Rattle.fault.specs.Told.{answered, refused, Refusal}
use Rattle.table.specs.Checking.{Spot, Read, then, leads, past_word, more_lines}

-- rows that were read before others
abbrev pub following : {R : Type 0} → List R → Read (List R) → Read (List R)
following qs r = then r (λ rs s. answered (qs ++ rs, s))

following_push : {R : Type 0} (qs : List R) (q : R) (r : Read (List R)) → following qs (then r (λ rs s. answered (q ∷ rs, s))) ≡ following (qs ++ (q ∷ [])) r
following_push qs q (answered x) = ap (λ y. answered (y, x.1)) (sym (append_assoc qs (q ∷ []) x.0))
following_push qs q (refused e) = refl

module _ {R : Type 0} (w : List ℕ) (read : Spot → Read R) where
  -- a line that begins with the word, and the lines after it
  abbrev line_then : ℕ → Spot → Read (List R)
  line_then m s = then {B = List R × Spot} (read (past_word w s)) (λ r s1. then {B = List R × Spot} (more_lines w read m s1) (λ rs s2. answered (r ∷ rs, s2)))

  pub lines_turn : (m k : ℕ) (s s1 : Spot) (r : R) (qs : List R) → k ≡ m + 1 → leads w s ≡ true → read (past_word w s) ≡ answered (r, s1) → following qs (more_lines w read k s) ≡ following (qs ++ (r ∷ [])) (more_lines w read m s1)
  unfolding more_lines
  lines_turn m k s s1 r qs e l h =
      ap (λ n. following qs (more_lines w read n s)) (e ∙ add-one m)
      ∙ ap (λ b. following qs (cond b (line_then m s) (answered ([], s)))) l
      ∙ ap (λ x. following qs (then {B = List R × Spot} x (λ r s1. then {B = List R × Spot} (more_lines w read m s1) (λ rs s2. answered (r ∷ rs, s2))))) h
      ∙ following_push qs r (more_lines w read m s1)

  pub lines_fail : (k : ℕ) (s : Spot) (e : Refusal) (qs : List R) → 0 < k → leads w s ≡ true → read (past_word w s) ≡ refused e → following qs (more_lines w read k s) ≡ refused e
  unfolding more_lines
  lines_fail zero s e qs p l h = absurd (omega arith)
  lines_fail (suc k) s e qs p l h =
      ap (λ b. following qs (cond b (line_then k s) (answered ([], s)))) l
      ∙ ap (λ x. following qs (then {B = List R × Spot} x (λ r s1. then {B = List R × Spot} (more_lines w read k s1) (λ rs s2. answered (r ∷ rs, s2))))) h

  pub lines_full : (k : ℕ) (s : Spot) (qs : List R) → k ≡ 0 → following qs (more_lines w read k s) ≡ answered (qs, s)
  unfolding more_lines
  lines_full k s qs e = ap (λ n. following qs (more_lines w read n s)) e ∙ ap (λ x. answered (x, s)) (append-nil qs)

  pub lines_other : (k : ℕ) (s : Spot) (qs : List R) → leads w s ≡ false → following qs (more_lines w read k s) ≡ answered (qs, s)
  unfolding more_lines
  lines_other zero s qs l = ap (λ x. answered (x, s)) (append-nil qs)
  lines_other (suc k) s qs l =
      ap (λ b. following qs (cond b (line_then k s) (answered ([], s)))) l ∙ ap (λ x. answered (x, s)) (append-nil qs)
