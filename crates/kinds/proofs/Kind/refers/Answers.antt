use Rattle.std.proofs.Common.{rules}
use Rattle.kinds.specs.Maps.{refers}
use Rattle.kinds.proofs.Bits.{no_high_bit}
use Rattle.kinds.proofs.Kind.refers.Goals as goal

pub returns-else-word-lt32 : goal.returns-else-word-lt32
unfolding refers
returns-else-word-lt32 c = search (rules, no_high_bit)

pub returns-then-word-lt32 : goal.returns-then-word-lt32
unfolding refers
returns-then-word-lt32 c = search rules
