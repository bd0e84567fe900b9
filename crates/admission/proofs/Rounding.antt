-- Division that rounds up.
use Rattle.std.proofs.Common.{◌≡◌, ℕ, ◌+◌, ◌-◌, ◌*◌, ◌/◌, ◌%◌, ◌<◌, ◌≤◌, min, lt_of_mul-lt-mul_right, le_trans, mod-lt, div-lt_iff_lt-mul, add-mul, mul-le-mul_left, one-mul, div-add-mod', mul-one, arith}
use Rattle.std.proofs.lemmas.Grind.{div_ceil_times}
use Rattle.admission.specs.Demand.{up}

pub up_covers : (p q : ℕ) → 1 ≤ q → p ≤ up p q * q
up_covers p q h =
    let a = div-add-mod' (p + (q - 1)) q in
    let b : (p + (q - 1)) % q < q = mod-lt (p + (q - 1)) h in
    omega arith

pub up_least : (p q k : ℕ) → 1 ≤ q → p ≤ k * q → up p q ≤ k
up_least p q k h l =
    let e : (k + 1) * q ≡ k * q + 1 * q = add-mul k 1 q in
    let o : 1 * q ≡ q = one-mul q in
    let b : p + (q - 1) < (k + 1) * q = omega arith in
    let d : (p + (q - 1)) / q < k + 1 = (div-lt_iff_lt-mul h).1 b in
    omega arith

pub up_small : (p q : ℕ) → 1 ≤ q → up p q ≤ p
up_small p q h =
    let m : p * 1 ≤ p * q = mul-le-mul_left p h in
    let e : p * 1 ≡ p = mul-one p in
    up_least p q p h (omega arith)

pub up_rises : (a b q : ℕ) → 1 ≤ q → a ≤ b → up a q ≤ up b q
up_rises a b q h l = up_least a q (up b q) h (le_trans l (up_covers b q h))

-- a quotient, and one more where something is left
pub ceil_is : (p q : ℕ) → 1 ≤ q → p / q + min 1 (p % q) ≡ up p q
ceil_is p q h =
    let c = div_ceil_times p q h in
    let k = up_covers p q h in
    let e : (up p q + 1) * q ≡ up p q * q + 1 * q = add-mul (up p q) 1 q in
    let o : 1 * q ≡ q = one-mul q in
    let b : (p / q + min 1 (p % q)) * q < (up p q + 1) * q = omega arith in
    let l = lt_of_mul-lt-mul_right q b in
    let m = up_least p q (p / q + min 1 (p % q)) h c.0 in
    omega arith
