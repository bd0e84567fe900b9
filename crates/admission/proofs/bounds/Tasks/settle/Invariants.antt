use Rattle.std.proofs.Common.{◌≡◌, ◌+◌, ◌-◌, ◌*◌, ◌≤◌, take, sum_by}
use Rattle.admission.specs.Demand.{asked, units_of}
use Rattle.admission.proofs.Rising.{NoneBelow}
use Rattle.admission.proofs.bounds.Tasks.settle.Given as goal

abbrev pub invariant-settle : goal.invariant-settle
invariant-settle l = (1 ≤ l.r) × NoneBelow l.own l.self.list.now l.r

abbrev pub decreases-settle : goal.decreases-settle
decreases-settle l = l.bound + 1 - l.r

abbrev pub invariant-loop-t : goal.invariant-loop-t
invariant-loop-t l = (l.demand ≡ l.own + sum_by (asked units_of l.r) (take l.t-index l.self.list.now)) × (l.demand ≤ l.own + 1000000000000 * l.t-index)
