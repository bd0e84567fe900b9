-- The set bits of a number, one by one.
use Rattle.std.proofs.Common.{◌≡◌, ℕ, zero, suc, ◌+◌, ◌/◌, ◌%◌, ◌^◌, ◌<◌, ◌≤◌, true, false, cond, sym, refl, ap, ◌∙◌, inl, inr, pow-suc, div-one, add-one, arith}
use lib.Count.{ones, ones_in, ones_step}
use Rattle.std.proofs.lemmas.Bool.{cases_eq, cases_lt, cases_Bool}
use Rattle.kinds.specs.Maps.{bit, bits_set, Next}
use Rattle.kinds.proofs.Bits.{halved}

bit_up : (n j : ℕ) → bit n (suc j) ≡ bit (n / 2) j
bit_up n j = rw (halved n j)

bit_low : (n : ℕ) → cond {A = ℕ} (bit n 0) 1 0 ≡ n % 2
bit_low n =
    let d : n / 1 ≡ n = div-one n in
    elim (cases_eq (n % 2) 1) [ inl o ↦ (rw (d, o)) | inr o ↦ (let z : n % 2 ≡ 0 = omega arith in rw (d, z)) ]

-- the lowest bit apart
bits_shift : (n k : ℕ) → bits_set n (suc k) ≡ n % 2 + bits_set (n / 2) k
unfolding bits_set
bits_shift n zero = let b = bit_low n in omega arith
bits_shift n (suc k) = let a = bits_shift n k in let u = bit_up n k in rw u (omega arith)

pub ones_count : (k n : ℕ) → n < 2 ^ k → ones n ≡ bits_set n k
unfolding bits_set ones ones_in
ones_count zero n h = let e : n ≡ 0 = omega arith in rw e
ones_count (suc k) n h =
    let s = pow-suc 2 k in
    let i = ones_count k (n / 2) (omega arith) in
    let o = ones_step n in
    let c = bits_shift n k in
    omega arith

pub bits_none : (n : ℕ) → bits_set n 0 ≡ 0
unfolding bits_set
bits_none n = refl

pub bits_more : (n k : ℕ) → bits_set n (k + 1) ≡ bits_set n k + cond (bit n k) 1 0
unfolding bits_set
bits_more n k = rw add-one

-- none set from a on: no more are set below b than below a
quiet : (n a b : ℕ) → a ≤ b → ((i : ℕ) → a ≤ i → i < b → bit n i ≡ false) → bits_set n b ≡ bits_set n a
unfolding bits_set
quiet n a zero l f = let e : a ≡ 0 = omega arith in rw e
quiet n a (suc b) l f =
    elim (cases_lt b a) [
      | inl p ↦ (let e : a ≡ suc b = omega arith in rw e)
      | inr q ↦
          (let i = quiet n a b q (λ j h k. f j h (omega arith)) in
          let z = f b q (omega arith) in
          rw z (omega arith))
    ]

grow : (n a b : ℕ) → a ≤ b → bits_set n a ≤ bits_set n b
unfolding bits_set
grow n a zero l = let e : a ≡ 0 = omega arith in rw e (omega arith)
grow n a (suc b) l =
    elim (cases_lt b a) [
      | inl p ↦ (let e : a ≡ suc b = omega arith in rw e (omega arith))
      | inr q ↦ (let r = grow n a b q in omega arith)
    ]

-- a bit that is set from a on is counted below b
counted : (n a b i : ℕ) → a ≤ i → i < b → bit n i ≡ true → bits_set n a + 1 ≤ bits_set n b
unfolding bits_set
counted n a zero i l h e = absurd (omega arith)
counted n a (suc b) i l h e =
    elim (cases_eq i b) [
      | inl q ↦
          (let g = grow n a b (omega arith) in
          let z : bit n b ≡ true = ap (bit n) (sym q) ∙ e in
          rw z (omega arith))
      | inr q ↦ (let r = counted n a b i l (omega arith) e in omega arith)
    ]

-- A scan that has met i set bits below `from`, and not all of them: the next is below 32, and is met as the one more.
pub scan_more : (map from r i : ℕ) → Next map from r → from ≤ 32 → bits_set map from ≡ i → i < bits_set map 32 → (r < 32) × (bits_set map (r + 1) ≡ i + 1)
scan_more map from r i n l e h =
    elim (cases_lt r 32) [
      | inl p ↦
          (let q = quiet map from r (n.later p) n.none_before in
          let m = bits_more map r in
          let z = n.is_set p in
          let m' : bits_set map (r + 1) ≡ bits_set map r + 1 = rw z at m in
          (p, omega arith))
      | inr p ↦
          (let b : r ≡ 32 = let w = n.within in omega arith in
          let q = quiet map from 32 l (λ j u v. n.none_before j u (omega arith)) in
          absurd (omega arith))
    ]

-- when all are met, none is left
pub scan_all : (map from j : ℕ) → bits_set map from ≡ bits_set map 32 → from ≤ j → j < 32 → bit map j ≡ false
scan_all map from j e l h =
    elim (cases_Bool (bit map j)) [
      | inl t ↦ (let c = counted map from 32 j l h t in absurd (omega arith))
      | inr f ↦ f
    ]
