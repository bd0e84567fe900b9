-- What a table ends as, one handle of which was lent.
use Rattle.std.specs.Prelude.{ℕ, List, Option, slice_set}
use Rattle.std.specs.Borrow.{LendsIf, MutBor, Fml, Array}
use Rattle.heap.specs.declared.Handle.{Handle}
use Rattle.heap.specs.contracts.Handle.{the_row}

-- the handle of a number is what was left there; where none was lent the table stays
abbrev pub LendsHandle : MutBor (List Handle) → ℕ → Option (MutBor Handle) → Fml
LendsHandle s x r = LendsIf (Array the_row 0) the_row s r (slice_set s.now x) s.now
