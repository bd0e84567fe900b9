use Rattle.std.proofs.Common.{ℕ, ◌<◌, List, arith}
use Rattle.admission.specs.declared.task.Task.{Task}
use Rattle.admission.specs.Demand.{DoneIn, Never}
use Rattle.admission.proofs.Rising.{none_more, all_asked, least_found, NoneBelow}
use Rattle.admission.proofs.Searching.{none_is, least_is}
use Rattle.admission.proofs.bounds.Tasks.settle.Goals as goal

pub settle-preserved : goal.settle-preserved
settle-preserved c =
    let ts = c.args.self.now.list.now in
    let e = all_asked c.args.own c.settle.r c.loop-t.t-index c.loop-t.demand ts c.loop-t.invariant.0 c.loop-t-test.false in
    (omega arith, none_more c.args.own c.settle.r c.loop-t.demand ts c.args.self.now.few.1 e c.settle.invariant.1)

-- none up to the bound
none : (own bound r : ℕ) (ts : List Task) → NoneBelow own ts r → bound < r → Never (DoneIn own ts) bound
none own bound r ts below h k one le done = below k one (omega arith) done

pub returns-then-r-bound-clause-value : goal.returns-then-r-bound-clause-value
returns-then-r-bound-clause-value c =
    let ts = c.args.self.now.list.now in
    none_is c.args.own ts c.args.bound (none c.args.own c.args.bound c.settle.r ts c.settle.invariant.1 (omega arith))

pub returns-in_err-r-clause-value : goal.returns-in_err-r-clause-value
returns-in_err-r-clause-value c =
    rw c.from_residual.ensures (none_is c.args.own c.args.self.now.list.now c.args.bound (λ k one le done. c.in_err-r.ensures k done))

pub returns-clause-value : goal.returns-clause-value
returns-clause-value c =
    let ts = c.args.self.now.list.now in
    let e = all_asked c.args.own c.settle.r c.loop-t.t-index c.loop-t.demand ts c.loop-t.invariant.0 c.loop-t-test.false in
    least_is c.args.own ts c.args.bound c.settle.r
    (least_found c.args.own c.args.bound c.settle.r c.loop-t.demand ts c.settle.invariant.0 c.if-r-bound.false e c.if-demand-r.true c.settle.invariant.1)
