-- The words of a kind: which are references, how many, and the next from a word on.
use Rattle.std.specs.Prelude.{◌≡◌, ℕ, zero, suc, ◌+◌, ◌/◌, ◌%◌, ◌^◌, ◌<◌, ◌≤◌, Bool, true, false, cond, ◌&&◌, ◌==◌, nat_le, nat_lt}
use Rattle.kinds.specs.declared.Kind.{Kind}

-- bit j, of value 2 ^ j, is set
abbrev pub bit : ℕ → ℕ → Bool
bit n j = n / 2 ^ j % 2 == 1

-- word j is a reference
unfoldable pub refers : Kind → ℕ → Bool
refers k j = nat_lt j k.size && bit k.map j

-- a kind has 1 to 32 words, and its map no bit past them
abbrev pub fits : Kind → Bool
fits k = nat_le 1 k.size && nat_le k.size 32 && nat_lt k.map (2 ^ k.size)

-- how many of the lowest n bits are set
unfoldable pub bits_set : ℕ → ℕ → ℕ
bits_set map zero = 0
bits_set map (suc n) = bits_set map n + cond (bit map n) 1 0

-- r is the first set bit from a bit on, or 32 where none of the 32 is set from there on
pub record Next (map from r : ℕ) : Type 0 where
  pub within : r ≤ 32
  pub later : r < 32 → from ≤ r
  pub is_set : r < 32 → bit map r ≡ true
  pub none_before : (i : ℕ) → from ≤ i → i < r → bit map i ≡ false
