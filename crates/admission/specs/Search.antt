-- The least and the largest number that passes a test.
use Rattle.std.specs.Prelude.{ℕ, zero, suc, ◌+◌, ◌-◌, Bool, cond, Some, None, Option}

-- the first of n numbers from k on that passes
abbrev pub first_from : (ℕ → Bool) → ℕ → ℕ → Option ℕ
first_from test zero k = None
first_from test (suc n) k = cond (test k) (Some k) (first_from test n (k + 1))

-- the least number from 1 to high that passes, or none
unfoldable pub least : (ℕ → Bool) → ℕ → Option ℕ
least test high = first_from test high 1

-- the first of n numbers from k down that passes, or the one below them
abbrev pub last_from : (ℕ → Bool) → ℕ → ℕ → ℕ
last_from test zero k = k
last_from test (suc n) k = cond (test k) k (last_from test n (k - 1))

-- the largest number from low to high that passes, where low does
unfoldable pub largest : (ℕ → Bool) → ℕ → ℕ → ℕ
largest test low high = last_from test (high - low) high
