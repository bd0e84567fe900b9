use Rattle.std.proofs.Common.{◌≡◌, ◌-◌, ◌≤◌, length}
use Rattle.census.specs.Finds.{found, GoesOn, Closed}
use Rattle.census.proofs.Walk.trace.Given as goal

abbrev pub invariant-loop-object : goal.invariant-loop-object
invariant-loop-object g l =
    (l.self.heap ≡ l.initial.self.heap) × (l.self.memory ≡ l.initial.self.memory)
    × GoesOn l.initial.self.heap.now (g.R.Readable.words l.initial.self.memory.now) l.initial.self.finds l.self.finds
    × Closed l.initial.self.heap.now (g.R.Readable.words l.initial.self.memory.now) l.self.finds l.next
    × (l.next ≤ length (found l.self.finds))

abbrev pub decreases-loop-object : goal.decreases-loop-object
decreases-loop-object g l = 257 - l.next
