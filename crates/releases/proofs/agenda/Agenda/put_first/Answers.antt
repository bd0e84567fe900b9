use Rattle.std.proofs.Common.{◌∙◌, arith}
use Rattle.queue.specs.Lent.{lent}
use Rattle.releases.proofs.Forecasts.{held_put}
use Rattle.releases.proofs.agenda.Agenda.put_first.Goals as goal

pub invariant_of-self : goal.invariant_of-self
invariant_of-self c =
    let q = c.args.self.now in
    record {
      listed = q.listed;
      room = (held_put _ (lent q.queue) (lent c.put.new.self) (omega (arith, q.room, c.requires)) c.put.ensures.after).2 ∙ q.room;
    }
