-- What a memory answers, over the list of words that it means.
use Rattle.std.specs.Prelude.{◌≡◌, ℕ, ◌<◌, ◌≤◌, min, cond, List, ◌++◌, length, drop, replicate, Result, MatchResult, nat_le, slice_index, slice_set}
use Rattle.fault.specs.declared.Fault.{Fault}
use Rattle.fault.specs.Told.{Told, answered, refused, refusal, past_end}

-- Reading answers the word at the place, or refusal 1 and the place where there is none.
abbrev pub Reads : List ℕ → ℕ → Result ℕ Fault → Type 0
Reads ws place r =
    MatchResult r (λ v. (place < length ws) × (v ≡ slice_index ws place))
    (λ e. (length ws ≤ place) × (refusal e ≡ past_end place))

-- Setting changes that word only; refused, it changes nothing.
abbrev pub Sets : List ℕ → ℕ → ℕ → Result (Unit {0}) Fault → List ℕ → Type 0
Sets ws place value r after =
    MatchResult r (λ _. (place < length ws) × (after ≡ slice_set ws place value))
    (λ e. (length ws ≤ place) × (refusal e ≡ past_end place) × (after ≡ ws))

-- The first n words are 0, or all of them where there are fewer.
unfoldable pub zeroed : List ℕ → ℕ → List ℕ
zeroed ws n = replicate (min n (length ws)) 0 ++ drop n ws

-- Zeroing n words meets the end of a memory that has fewer.
abbrev pub zeroing : List ℕ → ℕ → Told (Unit {0})
zeroing ws n = cond (nat_le n (length ws)) (answered tt) (refused (past_end (length ws)))
