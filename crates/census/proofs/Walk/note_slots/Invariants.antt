use Rattle.std.proofs.Common.{◌≡◌}
use Rattle.census.specs.Finds.{GoesOn, Rooted}
use Rattle.census.proofs.Walk.note_slots.Given as goal

abbrev pub invariant-loop-held : goal.invariant-loop-held
invariant-loop-held g l =
    (l.self.heap ≡ l.initial.self.heap) × (l.self.memory ≡ l.initial.self.memory)
    × GoesOn l.initial.self.heap.now (g.R.Readable.words l.initial.self.memory.now) l.initial.self.finds l.self.finds
    × Rooted l.initial.self.heap.now l.self.finds l.held-index
