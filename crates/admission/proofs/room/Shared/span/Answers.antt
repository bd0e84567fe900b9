use Rattle.std.proofs.Common.{arith}
use Rattle.admission.specs.Admission.{steps_of}
use Rattle.admission.proofs.Searching.{none_is}
use Rattle.admission.proofs.room.Shared.span.Goals as goal

pub returns-then-steps-clause-value : goal.returns-then-steps-clause-value
returns-then-steps-clause-value c =
    none_is (steps_of c.args.self.now.room) c.args.self.now.tasks.list.now 1000000 (λ j one le done. omega (arith, c.steps-steps.ensures))
