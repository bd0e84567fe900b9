use Rattle.std.proofs.Common.{◌≡◌, ◌+◌, ◌∙◌, subst, arith}
use Rattle.queue.specs.Lists.{held}
use Rattle.queue.specs.Lent.{lent}
use Rattle.releases.specs.Releases.{Firsts}
use Rattle.releases.proofs.Forecasts.{first_put}
use Rattle.releases.proofs.agenda.Agenda.new.Goals as goal

pub loop-rank-preserved : goal.loop-rank-preserved
loop-rank-preserved c =
    let v = c.loop-rank.invariant in
    let p = c.put_first.ensures in
    (p.figures ∙ v.0, omega (arith, p.len, v.1), first_put c.args.figures.now c.loop-rank.agenda.figures.now c.loop-rank.rank _ _ v.0 p.waits v.2)

pub returns-2-clause-firsts : goal.returns-2-clause-firsts
returns-2-clause-firsts c =
    let f = c.args.figures.now in
    let v = c.loop-rank.invariant in
    let e : c.loop-rank.rank + 1 ≡ f.task_count + 1 = omega arith in
    subst (λ n. Firsts f n (held (lent c.put_first.new.self.queue))) e (first_put f c.loop-rank.agenda.figures.now c.loop-rank.rank _ _ v.0 c.put_first.ensures.waits v.2)
