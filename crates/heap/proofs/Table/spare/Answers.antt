use Rattle.std.proofs.Common.{rules}
use Rattle.heap.proofs.Begins.{spares_laid}
use Rattle.heap.proofs.Table.spare.Goals as goal

pub returns : goal.returns
returns c =
    let rows = spares_laid _ _ c.args.last 257 c.from_fn.result c.from_fn.ensures.items (λ x r q k. search rules) in
    rw rows
