use Rattle.std.proofs.Common.{arith}
use Rattle.table.proofs.Lined.{lines_fail}
use Rattle.table.proofs.reader.Reader.rows.Goals as goal

pub returns-in_err-read-clause-answer : goal.returns-in_err-read-clause-answer
returns-in_err-read-clause-answer g c = grind (arith, lines_fail)
