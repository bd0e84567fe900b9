use Rattle.table.specs.Filling.{rows_in}
use Rattle.admission.proofs.Rows.{rows_sized}
use Rattle.admission.proofs.Sounding.{sound, not_blank}
use Rattle.admission.proofs.plan.makes.admit.Goals as goal

pub invariant_of-accepted : goal.invariant_of-accepted
invariant_of-accepted c =
    record { sized = rows_sized (rows_in c.in_ok-heap.field-0 c.read.new.kinds c.read.new.tasks) c.in_ok-heap.ensures.loaded.limits }

pub invariant_of-plan : goal.invariant_of-plan
invariant_of-plan c =
    record { sound = sound (rows_in c.in_ok-heap.field-0 c.read.new.kinds c.read.new.tasks) c.in_ok-figures.field-0 c.in_ok-heap.ensures.loaded.limits c.in_ok-figures.ensures }

pub returns-clause-some : goal.returns-clause-some
returns-clause-some c =
    not_blank (rows_in c.in_ok-heap.field-0 c.read.new.kinds c.read.new.tasks) c.in_ok-figures.field-0 c.in_ok-heap.ensures.loaded.limits c.in_ok-figures.ensures
