use Rattle.std.proofs.Common.{◌≡◌}
use Rattle.queue.specs.Lists.{held}
use Rattle.queue.specs.Lent.{lent}
use Rattle.releases.specs.Releases.{Firsts}
use Rattle.releases.proofs.agenda.Agenda.new.Given as goal

abbrev pub invariant-loop-rank : goal.invariant-loop-rank
invariant-loop-rank l =
    (l.agenda.figures.now ≡ l.figures)
    × ((lent l.agenda.queue).len ≡ l.rank)
    × Firsts l.figures l.rank (held (lent l.agenda.queue))
