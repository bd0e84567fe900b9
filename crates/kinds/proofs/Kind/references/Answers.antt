use Rattle.std.proofs.Common.{rules}
use Rattle.kinds.proofs.Ones.{ones_count}
use Rattle.kinds.proofs.Kind.references.Goals as goal

pub returns : goal.returns
returns c = search (rules, ones_count)
