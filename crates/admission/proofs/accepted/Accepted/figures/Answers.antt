use Rattle.std.proofs.Common.{sym, ap, ◌∙◌, subst}
use Rattle.std.proofs.lemmas.Result.{err_from_is_err_and}
use Rattle.fault.specs.Told.{answered}
use Rattle.table.specs.Format.{Rows}
use Rattle.admission.specs.declared.accepted.Accepted.{Accepted}
use Rattle.admission.specs.Demand.{Few, Timed, Numbers}
use Rattle.admission.proofs.Plans.{weighed_part, same_figures}
use Rattle.admission.proofs.Ranking.{few_ranked, timed_ranked, numbers_ranked}
use Rattle.admission.proofs.accepted.Accepted.figures.Goals as goal

rows_of : Accepted → Rows
rows_of a = record { heap = a.heap; statics = a.statics; kinds = a.kinds.now; tasks = a.tasks.now }

pub invariant_of-weigh : goal.invariant_of-weigh
invariant_of-weigh c =
    let rows = c.args.self.now.tasks.now in
    let tabled = c.args.self.now.sized.tasks in
    let e = c.deref.ensures.0 ∙ c.rank_tasks-ranked.ensures in
    record {
      few = subst Few (sym e) (few_ranked rows tabled);
      timed = subst Timed (sym e) (timed_ranked rows tabled);
      numbers = subst Numbers (sym e) (numbers_ranked rows tabled);
    }

pub returns-in_err-tasks : goal.returns-in_err-tasks
unfolding rows_of
returns-in_err-tasks c =
    let e = c.deref.ensures.0 ∙ c.rank_tasks-ranked.ensures in
    let p = err_from_is_err_and c.from_residual.result c.from_residual.ensures.1 in
    rw (p.1, p.2) (weighed_part (rows_of c.args.self.now) _ _ e c.in_err-tasks.ensures.value)

pub returns : goal.returns
unfolding rows_of
returns c =
    let rows = rows_of c.args.self.now in
    let e = c.deref.ensures.0 ∙ c.rank_tasks-ranked.ensures in
    ap answered (same_figures rows c.in_ok-tasks.field-0 c.all_kinds.result c.steps.result c.all_kinds.ensures c.steps.ensures)
    ∙ weighed_part rows _ _ e c.in_ok-tasks.ensures.value
