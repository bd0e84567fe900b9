use Rattle.std.proofs.Common.{◌≡◌, ◌+◌, ◌*◌, ◌≤◌, take}
use Rattle.std.specs.List.{fold}
use Rattle.table.specs.Checking.{past}
use Rattle.table.proofs.consumers.column_of.Given as goal

abbrev pub invariant-loop-n : goal.invariant-loop-n
invariant-loop-n l = (l.column ≡ fold past 5 (take l.n-index l.n-items)) × (l.column ≤ 5 + 11 * l.n-index)
