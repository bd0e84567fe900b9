use Rattle.std.proofs.Common.{rules}
use Rattle.table.proofs.Decimal.{length_logarithm}
use Rattle.table.proofs.consumers.digits.Goals as goal

pub returns-clause-value : goal.returns-clause-value
returns-clause-value c = search (rules, length_logarithm)
