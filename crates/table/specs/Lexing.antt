-- What a byte of a table is.
use Rattle.std.specs.Prelude.{ℕ, ◌-◌, cond, ◌&&◌, List, [], ◌∷◌, Option, Some, None, ◌==◌, nat_le}
use Rattle.table.specs.declared.lexer.Class.{Class}
use Rattle.table.specs.declared.lexer.Class.TheVariants.{Letter, Digit, Comma, LineEnd, Other}

abbrev pub class_of : ℕ → Class
class_of b =
    cond (nat_le 97 b && nat_le b 122) Letter
    (cond (nat_le 48 b && nat_le b 57) (Digit (b - 48)) (cond (b == 44) Comma (cond (b == 10) LineEnd Other)))

-- what the next byte of a text is, if there is one
abbrev pub class_ahead : List ℕ → Option Class
class_ahead [] = None
class_ahead (b ∷ bs) = Some (class_of b)
