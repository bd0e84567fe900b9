use Rattle.std.proofs.Common.{◌≡◌, get_or}
use Rattle.heap.specs.Objects.{in_slot}
use Rattle.census.proofs.Walk.note_slots.Goals as goal

pub visit-requires-clause-reached : goal.visit-requires-clause-reached
visit-requires-clause-reached g c =
    let i = c.loop-held.held-index in
    let held : get_or c.loop-held.self.heap.now.slots i 0 ≡ get_or c.slots-held-items.result.now i 0 = cc in
    in_slot i held
