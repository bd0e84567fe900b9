use Rattle.std.proofs.Common.{◌≡◌, ◌≤◌}
use Rattle.heap.specs.Room.{spares_to}
use Rattle.heap.proofs.Table.spares.Given as goal

abbrev pub invariant-loop-i : goal.invariant-loop-i
invariant-loop-i l = (l.spares ≡ spares_to l.self l.i) × (l.spares ≤ l.i)
