use Rattle.std.proofs.Common.{rules}
use Rattle.heap.proofs.Begins.{spares_none, spares_more}
use Rattle.heap.proofs.Table.spares.Goals as goal

pub loop-i-init : goal.loop-i-init
loop-i-init c = search (rules, spares_none)

pub loop-i-preserved : goal.loop-i-preserved
loop-i-preserved c = search (rules, spares_more)
