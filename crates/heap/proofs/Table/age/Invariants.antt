use Rattle.std.proofs.Common.{◌≡◌, ◌++◌, map, take, drop}
use Rattle.heap.specs.Handles.{age}
use Rattle.heap.proofs.Table.age.Given as goal

abbrev pub invariant-loop-handle : goal.invariant-loop-handle
invariant-loop-handle l =
    l.handle-items ≡ map age (take l.handle-index l.initial.handle-items) ++ drop l.handle-index l.initial.handle-items
