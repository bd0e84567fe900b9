use Rattle.std.proofs.Common.{◌≡◌, ◌+◌, ◌*◌, length, take}
use Rattle.std.specs.List.{AllByRecursion}
use Rattle.queue.specs.Lists.{held}
use Rattle.queue.specs.Lent.{lent}
use Rattle.admission.specs.Planned.{figures_in}
use Rattle.releases.specs.Releases.{Listed}
use Rattle.releases.proofs.Forecasts.{Good, Slight, some_period}
use Rattle.releases.proofs.first_releases.Given as goal

abbrev pub invariant-loop-entry : goal.invariant-loop-entry
invariant-loop-entry l =
    (length l.entry-items ≡ 8)
    × (l.agenda.figures.now ≡ figures_in l.fn.plan)
    × ((lent l.agenda.queue).len ≡ (figures_in l.fn.plan).task_count + 1)
    × AllByRecursion (Slight (figures_in l.fn.plan) (l.entry-index * 1000000)) (held (lent l.agenda.queue))
    × ((h : Listed (figures_in l.fn.plan)) → Good (figures_in l.fn.plan) (some_period (figures_in l.fn.plan) h) (take l.entry-index l.entry-items) (held (lent l.agenda.queue)))
