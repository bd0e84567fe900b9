use Rattle.std.proofs.Common.{◌≡◌, ◌≤◌}
use Rattle.kinds.specs.Maps.{bits_set}
use Rattle.census.specs.Finds.{GoesOn, FollowedTo}
use Rattle.census.proofs.Walk.follow.Given as goal

abbrev pub invariant-loop-met : goal.invariant-loop-met
invariant-loop-met g l =
    (l.self.heap ≡ l.initial.self.heap) × (l.self.memory ≡ l.initial.self.memory)
    × GoesOn l.initial.self.heap.now (g.R.Readable.words l.initial.self.memory.now) l.initial.self.finds l.self.finds
    × FollowedTo l.initial.self.heap.now (g.R.Readable.words l.initial.self.memory.now) l.self.finds l.object l.from
    × (bits_set l.kind.map l.from ≡ l._met) × (l.from ≤ 32)
