use Rattle.std.proofs.Common.{◌∙◌}
use Rattle.queue.specs.Lent.{lent}
use Rattle.releases.proofs.Forecasts.{advanced}
use Rattle.releases.proofs.agenda.Agenda.advance.Goals as goal

pub invariant_of-self-2 : goal.invariant_of-self-2
invariant_of-self-2 c =
    let a = c.args.self.now in
    let s = advanced a.figures.now c.in_ok-release.release c.after-after.result (lent a.queue) (lent c.take.new.self) (lent c.put.new.self) a.queue.within c.in_ok-release.ensures.value c.in_ok-release.ensures.after c.after-after.ensures c.put.ensures.after in
    record { listed = a.listed; room = s.0 ∙ a.room }

pub returns-clause-step : goal.returns-clause-step
returns-clause-step c =
    let a = c.args.self.now in
    (advanced a.figures.now c.in_ok-release.release c.after-after.result (lent a.queue) (lent c.take.new.self) (lent c.put.new.self) a.queue.within c.in_ok-release.ensures.value c.in_ok-release.ensures.after c.after-after.ensures c.put.ensures.after).2
