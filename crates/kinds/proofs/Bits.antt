-- The bits of a number by its trailing zeros.
use Rattle.std.proofs.Common.{◌≡◌, ℕ, zero, suc, ◌+◌, ◌-◌, ◌/◌, ◌%◌, ◌^◌, ◌<◌, ◌≤◌, true, false, ltb, sym, ap, ◌∙◌, inl, inr, mul_comm, pow-suc, div-one, arith, pow_mono}
use native.Mathlib.Nat.{div-eq_of_lt, div-div-eq-div-mul}
use lib.Count.{count_trailing_zeros}
use Rattle.std.proofs.lemmas.Nat.{shr-shr}
use Rattle.std.proofs.lemmas.Bool.{cases_eq, ltb-true, and_parts}
use Rattle.kinds.specs.declared.Kind.{Kind}
use Rattle.kinds.specs.Maps.{bit, refers}

-- a reference word is a word of the object
pub refers_below : (k : Kind) (j : ℕ) → refers k j ≡ true → j < k.size
unfolding refers
refers_below k j e = ltb-true j k.size (and_parts (ltb j k.size) (bit k.map j) e).0

-- a map of 32 bits has none from 32 on
pub no_high_bit : (m j : ℕ) → m < 4294967296 → 32 ≤ j → bit m j ≡ false
no_high_bit m j h l =
    let p : 2 ^ 32 ≤ 2 ^ j = pow_mono l in
    let q : m < 2 ^ j = omega arith in
    let z : m / 2 ^ j ≡ 0 = div-eq_of_lt q in
    rw z

trailing_odd : (k n : ℕ) → n % 2 ≡ 1 → count_trailing_zeros (suc k) n ≡ 0
unfolding count_trailing_zeros
trailing_odd k n h = rw h

trailing_even : (k n : ℕ) → n % 2 ≡ 0 → count_trailing_zeros (suc k) n ≡ suc (count_trailing_zeros k (n / 2))
unfolding count_trailing_zeros
trailing_even k n h = rw h

pub halved : (n i : ℕ) → n / 2 ^ (suc i) ≡ n / 2 / 2 ^ i
halved n i = ap (λ m. n / m) (pow-suc 2 i ∙ mul_comm (2 ^ i) 2) ∙ sym (div-div-eq-div-mul n 2 (2 ^ i))

-- below the lowest set bit no bit is set
low_bits : (k n i : ℕ) → i < count_trailing_zeros k n → n / 2 ^ i % 2 ≡ 0
unfolding count_trailing_zeros
low_bits zero n i h = absurd (omega arith)
low_bits (suc k) n zero h =
    elim (cases_eq (n % 2) 1) [
      | inl o ↦ (let e = trailing_odd k n o in absurd (omega arith))
      | inr o ↦ (let e : n / 1 ≡ n = div-one n in rw e (omega arith))
    ]
low_bits (suc k) n (suc i) h =
    elim (cases_eq (n % 2) 1) [
      | inl o ↦ (let e = trailing_odd k n o in absurd (omega arith))
      | inr o ↦
          (let z : n % 2 ≡ 0 = omega arith in
          let e = trailing_even k n z in
          let r = low_bits k (n / 2) i (omega arith) in
          rw (halved n i) r)
    ]

-- that bit is set
set_bit : (k n : ℕ) → count_trailing_zeros k n < k → n / 2 ^ (count_trailing_zeros k n) % 2 ≡ 1
unfolding count_trailing_zeros
set_bit zero n h = absurd (omega arith)
set_bit (suc k) n h =
    elim (cases_eq (n % 2) 1) [
      | inl o ↦ (let e = trailing_odd k n o in let d : n / 1 ≡ n = div-one n in rw (e, d) o)
      | inr o ↦
          (let z : n % 2 ≡ 0 = omega arith in
          let e = trailing_even k n z in
          let r = set_bit k (n / 2) (omega arith) in
          rw (e, halved n (count_trailing_zeros k (n / 2))) r)
    ]

shifted : (m from i : ℕ) → from ≤ i → m / 2 ^ from / 2 ^ (i - from) ≡ m / 2 ^ i
shifted m from i l = let e : from + (i - from) ≡ i = omega arith in shr-shr m from (i - from) ∙ ap (λ k. m / 2 ^ k) e

pub gap : (m from i : ℕ) → from ≤ i → i < from + count_trailing_zeros 32 (m / 2 ^ from) → bit m i ≡ false
gap m from i l h =
    let r = low_bits 32 (m / 2 ^ from) (i - from) (omega arith) in
    let z : m / 2 ^ i % 2 ≡ 0 = rw (← shifted m from i l) r in
    rw z

pub lowest : (m from : ℕ) → count_trailing_zeros 32 (m / 2 ^ from) < 32 → bit m (from + count_trailing_zeros 32 (m / 2 ^ from)) ≡ true
lowest m from h =
    let t = count_trailing_zeros 32 (m / 2 ^ from) in
    let r = set_bit 32 (m / 2 ^ from) h in
    let z : m / 2 ^ (from + t) % 2 ≡ 1 = rw (← shr-shr m from t) r in
    rw z
