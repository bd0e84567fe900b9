use Rattle.std.proofs.Common.{◌≡◌, ◌^◌, ◌<◌, drop}
use Rattle.std.specs.Str.{all_ascii_digits}
use Rattle.table.specs.Checking.{digits_value}
use Rattle.table.proofs.field.sum.Given as goal

-- what is left gives the whole number, and tells whether all are digits
abbrev pub invariant-loop-digit : goal.invariant-loop-digit
invariant-loop-digit l =
    (digits_value l.n (drop l.digit-index l.digits) ≡ digits_value 0 l.digits)
    × (all_ascii_digits (drop l.digit-index l.digits) ≡ all_ascii_digits l.digits)
    × (l.n < 10 ^ l.digit-index)
