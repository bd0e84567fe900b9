use Rattle.std.proofs.Common.{◌≡◌, take}
use Rattle.heap.specs.Handles.{mark_all}
use Rattle.heap.specs.Calls.{with_table}
use Rattle.heap.proofs.Heap.mark_slots.Given as goal

abbrev pub invariant-loop-object : goal.invariant-loop-object
invariant-loop-object l =
    l.self ≡ with_table l.initial.self (mark_all l.initial.self.table (take l.object-index l.object-items))
