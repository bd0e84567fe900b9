use Rattle.std.proofs.Common.{refl, rules}
use Rattle.heap.proofs.Begins.{fit_each}
use Rattle.heap.proofs.Measures.new.Goals as goal

pub returns-in-Ok : goal.returns-in-Ok
returns-in-Ok c = (search (rules, fit_each), refl, search rules)
