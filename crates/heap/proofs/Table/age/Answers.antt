use Rattle.std.proofs.Common.{rules}
use Rattle.std.proofs.lemmas.List.Edits.{map_over_more}
use Rattle.heap.specs.Handles.{age}
use Rattle.heap.proofs.Table.age.Goals as goal

pub loop-handle-preserved : goal.loop-handle-preserved
loop-handle-preserved c = search (rules, map_over_more age)
