-- What stands next in a text.
use Rattle.std.proofs.Common.{◌≡◌, ℕ, ◌≤◌, Bool, false, true, eqb, List, [], ◌∷◌, length, get_or, Some, refl, ap, ◌∙◌, arith}
use Rattle.std.specs.List.{prefix_len}
use Rattle.std.proofs.lemmas.List.Sums.{prefix_len-le-length}
use Rattle.std.proofs.lemmas.List.{length-take-le}
use Rattle.std.proofs.lemmas.Bool.{ne_eqb}
use Rattle.std.proofs.lemmas.Bool.Decides.{nat_tests}
use Rattle.table.specs.declared.lexer.Class.TheVariants.{Comma, LineEnd}
use Rattle.table.specs.Lexing.{class_of, class_ahead}
use Rattle.table.specs.Checking.{inside, front, none}

-- a comma or a line end, or none

pub comma_ahead : (xs : List ℕ) → class_ahead xs ≡ Some Comma → eqb (get_or xs 0 0) 44 ≡ true
comma_ahead [] h = absurd (cc)
comma_ahead (x ∷ xs) h =
    let e : class_of x ≡ Comma = cc in
    grind (arith, nat_tests)

pub no_comma : (xs : List ℕ) → (class_ahead xs ≡ Some Comma → ⊥) → eqb (get_or xs 0 0) 44 ≡ false
no_comma [] h = refl
no_comma (x ∷ xs) h =
    let f : class_of x ≡ Comma → ⊥ = λ e. h (ap Some e) in
    grind (arith, nat_tests)

pub end_ahead : (xs : List ℕ) → class_ahead xs ≡ Some LineEnd → eqb (get_or xs 0 0) 10 ≡ true
end_ahead [] h = absurd (cc)
end_ahead (x ∷ xs) h =
    let e : class_of x ≡ LineEnd = cc in
    grind (arith, nat_tests)

pub no_end : (xs : List ℕ) → (class_ahead xs ≡ Some LineEnd → ⊥) → eqb (get_or xs 0 0) 10 ≡ false
no_end [] h = refl
no_end (x ∷ xs) h =
    let f : class_of x ≡ LineEnd → ⊥ = λ e. h (ap Some e) in
    grind (arith, nat_tests)

-- a field

length_front : (rest : List ℕ) → length (front rest) ≡ prefix_len inside rest
length_front rest = length-take-le (prefix_len inside rest) rest (prefix_len-le-length inside rest)

pub front_fits : (rest part : List ℕ) → part ≡ front rest → length part ≤ length rest
front_fits rest part e = omega (arith, ap length e, length_front rest, prefix_len-le-length inside rest)

-- the end of a text

pub none_length : {A : Type 0} (xs : List A) (b : Bool) → b ≡ eqb (length xs) 0 → b ≡ none xs
none_length [] b h = h
none_length (x ∷ xs) b h = h ∙ ne_eqb (length (x ∷ xs)) 0 (λ e. omega arith)
