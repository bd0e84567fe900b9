-- Fields that write numbers.
use Rattle.std.proofs.Common.{◌≡◌, ℕ, zero, suc, ◌+◌, ◌/◌, ◌%◌, ◌^◌, ◌<◌, ◌≤◌, true, false, eqb, leb, List, [], ◌∷◌, ◌++◌, length, get_or, decimal, sym, refl, ap, arith, rules}
use native.Mathlib.Nat.{pow-succ', one-le-pow}
use Rattle.std.specs.Fmt.{digits, digits_onto, digit_glyph}
use Rattle.std.specs.Char.{is_ascii_digit}
use Rattle.std.specs.List.{prefix_len}
use Rattle.std.specs.Str.{all_ascii_digits}
use Rattle.std.proofs.lemmas.Bool.{and_parts, and_right, leb-true, ne_eqb, cond_both, lt-ltb}
use Rattle.std.proofs.lemmas.Bool.Decides.{nat_tests}
use Rattle.std.proofs.lemmas.List.{take-append-drop, take_at, drop_at}
use Rattle.std.proofs.lemmas.Str.Parse.{IsNumeralModel, numerals_by_fold, digits_value_short}
use Rattle.std.proofs.lemmas.Fmt.{decimal_digit, digits_value-decimal, decimal-digits_value, decimal_nonempty, length-decimal-le, first_decimal}
use Rattle.table.specs.Checking.{inside, front, after, shaped, is_number, digits_value, within}

-- limits

pub within_true : (low high n : ℕ) → within low high n ≡ true → (low ≤ n) × (n ≤ high)
within_true low high n h = let p = and_parts (leb low n) (leb n high) h in (leb-true low n p.0, leb-true n high p.1)

pub true_within : (low high n : ℕ) → low ≤ n → n ≤ high → within low high n ≡ true
true_within low high n a b = grind (arith, nat_tests)

-- a field is what stands before the next comma or line end

pub front_after : (text : List ℕ) → front text ++ after text ≡ text
front_after text = take-append-drop (prefix_len inside text) text

digit_inside : (c : ℕ) → is_ascii_digit c ≡ true → inside c ≡ true
digit_inside c h = grind (arith, nat_tests)

leading_digits : (ds s : List ℕ) → all_ascii_digits ds ≡ true → prefix_len inside s ≡ 0 → prefix_len inside (ds ++ s) ≡ length ds
leading_digits [] s h z = z
leading_digits (c ∷ cs) s h z =
    let p = and_parts (is_ascii_digit c) (all_ascii_digits cs) h in
    rw (digit_inside c p.0) (omega (arith, leading_digits cs s p.1 z))

pub front_digits : (ds s : List ℕ) → all_ascii_digits ds ≡ true → prefix_len inside s ≡ 0 → front (ds ++ s) ≡ ds
front_digits ds s h z = take_at ds s (prefix_len inside (ds ++ s)) (sym (leading_digits ds s h z))

pub after_digits : (ds s : List ℕ) → all_ascii_digits ds ≡ true → prefix_len inside s ≡ 0 → after (ds ++ s) ≡ s
after_digits ds s h z = drop_at ds s (prefix_len inside (ds ++ s)) (sym (leading_digits ds s h z))

-- every number is written by digits

glyph_digit : (n : ℕ) → is_ascii_digit (digit_glyph false (n % 10)) ≡ true
glyph_digit n =
    let d : n % 10 < 10 = omega arith in
    rw (lt-ltb (n % 10) 10 d) (grind (arith, nat_tests))

spelled_digits : (k n : ℕ) (acc : List ℕ) → all_ascii_digits acc ≡ true → all_ascii_digits (digits_onto k 10 false n acc) ≡ true
spelled_digits zero n acc h = h
spelled_digits (suc k) n acc h =
    let g : all_ascii_digits (digit_glyph false (n % 10) ∷ acc) ≡ true = rw (glyph_digit n, h) in
    cond_both (eqb (n / 10) 0) _ _ (λ x. all_ascii_digits x ≡ true) (λ e. g) (λ e. spelled_digits k (n / 10) (digit_glyph false (n % 10) ∷ acc) g)

pub decimal_digits : (n : ℕ) → all_ascii_digits (decimal n) ≡ true
unfolding digits
decimal_digits n = spelled_digits 64 n [] refl

-- and a large one by many

spelled_grows : (k n : ℕ) (acc : List ℕ) → length acc ≤ length (digits_onto k 10 false n acc)
spelled_grows zero n acc = omega arith
spelled_grows (suc k) n acc =
    let g = spelled_grows k (n / 10) (digit_glyph false (n % 10) ∷ acc) in
    cond_both (eqb (n / 10) 0) _ _ (λ x. length acc ≤ length x) (λ e. omega arith) (λ e. omega arith)

spelled_long : (j k n : ℕ) (acc : List ℕ) → j < k → 10 ^ j ≤ n → length acc + (j + 1) ≤ length (digits_onto k 10 false n acc)
spelled_long j zero n acc h p = absurd (omega arith)
spelled_long zero (suc k) n acc h p =
    let g = spelled_grows k (n / 10) (digit_glyph false (n % 10) ∷ acc) in
    cond_both (eqb (n / 10) 0) _ _ (λ x. length acc + (0 + 1) ≤ length x) (λ e. omega arith) (λ e. omega arith)
spelled_long (suc j) (suc k) n acc h p =
    let e = pow-succ' 10 j in
    let r : 10 ^ j ≤ n / 10 = omega arith in
    let s = spelled_long j k (n / 10) (digit_glyph false (n % 10) ∷ acc) (omega arith) r in
    let z = one-le-pow j 10 (omega arith) in
    rw (ne_eqb (n / 10) 0 (λ e. omega arith)) (omega arith)

pub decimal_long : (k n : ℕ) → k < 64 → 10 ^ k ≤ n → k + 1 ≤ length (decimal n)
unfolding digits
decimal_long k n s h = omega (arith, spelled_long k 64 n [] s h)

pub not_number : (n : ℕ) → 10 ^ 10 ≤ n → is_number (decimal n) ≡ false
not_number n h =
    let l = decimal_long 10 n (omega arith) h in
    and_right (all_ascii_digits (decimal n)) (shaped (decimal n)) (grind (arith, nat_tests))

-- numbers of at most ten digits

own : IsNumeralModel (λ ds. all_ascii_digits ds ≡ true) (digits_value 0)
own = numerals_by_fold _ (search rules) digits_value (search rules)

single : (n : ℕ) → n < 10 ^ 10 → (get_or (decimal n) 0 0 ≡ 48 → length (decimal n) ≡ 1)
single zero h e = ap length (decimal_digit 0 (omega arith))
single (suc n) h e = absurd (omega (arith, first_decimal (suc n) (omega arith) (omega arith)))

pub is_decimal : (n : ℕ) → n < 10 ^ 10 → is_number (decimal n) ≡ true
is_decimal n h =
    let some = decimal_nonempty n (omega arith) in
    let few = length-decimal-le 10 n (omega arith) h (omega arith) in
    let one = single n h in
    rw (decimal_digits n) (grind (arith, nat_tests))

pub value_of : (n : ℕ) → n < 10 ^ 10 → digits_value 0 (decimal n) ≡ n
value_of n h = digits_value-decimal own n (omega arith)

pub decimal_number : (ds : List ℕ) → is_number ds ≡ true → decimal (digits_value 0 ds) ≡ ds
decimal_number ds h =
    let p = and_parts (all_ascii_digits ds) _ h in
    let short : length ds ≤ 10 = grind (arith, nat_tests) in
    let some : 0 < length ds = grind (arith, nat_tests) in
    decimal-digits_value own ds p.0 some (λ e. grind (arith, nat_tests)) (omega (arith, digits_value_short own ds 10 p.0 short))
