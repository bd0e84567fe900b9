use Rattle.std.proofs.Common.{◌≡◌, ◌+◌, ◌*◌, ◌≤◌, List, [], ◌∷◌, ◌++◌, take, set, sym, refl, ap, ◌∙◌, subst, arith}
use Rattle.std.specs.List.{AllByRecursion}
use Rattle.std.proofs.lemmas.List.{length-set, take_more_set, take_all}
use Rattle.std.proofs.ByRecursion.{All-weaker}
use Rattle.queue.specs.declared.entries.Release.{Release}
use Rattle.queue.specs.Lists.{held}
use Rattle.queue.specs.Lent.{lent}
use Rattle.admission.specs.declared.figures.Figures.{Figures}
use Rattle.admission.specs.declared.plan.Plan.{Plan}
use Rattle.admission.specs.Planned.{figures_in}
use Rattle.releases.specs.Releases.{Listed, Firsts, Advanced}
use Rattle.releases.proofs.Forecasts.{listed, Slight, slight_start, slight_step, Good, some_period, good_start, good_more, good_end}
use Rattle.releases.proofs.first_releases.Goals as goal

listed_plan : (p : Plan) (g : Figures) → g ≡ figures_in p → (g.period ≡ 0 → ⊥) → Listed (figures_in p)
listed_plan p g e n = listed (figures_in p) p.sound (λ z. n (ap (λ h. h.period) e ∙ z))

pub loop-entry-init : goal.loop-entry-init
loop-entry-init c =
    let f = figures_in c.args.plan.now in
    let waits = held (lent c.new-agenda.result.queue) in
    let e = c.figures-figures.ensures in
    let a = c.new-agenda.ensures in
    let s = subst (λ g. Firsts g (g.task_count + 1) waits) e a.firsts in
    (refl, a.figures ∙ e, a.len ∙ ap (λ g. g.task_count + 1) e, slight_start f waits s, λ h. good_start f (some_period f h) waits s)

pub advance-requires : goal.advance-requires
advance-requires c =
    let f = figures_in c.args.plan.now in
    let v = c.loop-entry.invariant in
    let waits = held (lent c.loop-entry.agenda.queue) in
    subst (λ g. AllByRecursion (λ y. (y.rank ≤ g.task_count) × (y.tick ≤ 8000000)) waits) (sym v.1)
    (All-weaker (Slight f (c.loop-entry.entry-index * 1000000)) (Slight f 8000000) (λ y p. (p.0, omega (arith, p.1))) waits v.3)

pub loop-entry-preserved : goal.loop-entry-preserved
loop-entry-preserved c =
    let f = figures_in c.args.plan.now in
    let l = listed_plan c.args.plan.now c.figures-figures.result.now c.figures-figures.ensures c.if-figures-eq0.false in
    let v = c.loop-entry.invariant in
    let k = c.loop-entry.entry-index in
    let list = c.loop-entry.entry-items in
    let a = c.in_ok-entry.ensures in
    let r = c.in_ok-entry.field-0 in
    let before = held (lent c.loop-entry.agenda.queue) in
    let after = held (lent c.advance.new.self.queue) in
    let s : Advanced f before r after = subst (λ g. Advanced g before r after) v.1 a.step in
    let t : k * 1000000 + 1000000 ≡ (k + 1) * 1000000 = omega arith in
    let m : take (k + 1) (set list k r) ≡ take k list ++ r ∷ [] = take_more_set list k r (omega (arith, v.0)) in (
      length-set list k r ∙ v.0,
      a.figures ∙ v.1,
      a.len ∙ v.2,
      subst (λ n. AllByRecursion (Slight f n) after) t (slight_step f l (k * 1000000) before after r s v.3),
      λ h. subst (λ (rs : List Release). Good f (some_period f h) rs after) (sym m) (good_more f h before after (take k list) r s (v.4 h)),
    )

pub returns : goal.returns
returns c =
    let f = figures_in c.args.plan.now in
    let l = listed_plan c.args.plan.now c.figures-figures.result.now c.figures-figures.ensures c.if-figures-eq0.false in
    let v = c.loop-entry.invariant in
    let list = c.loop-entry.entry-items in
    let waits = held (lent c.loop-entry.agenda.queue) in
    let g = subst (λ (rs : List Release). Good f (some_period f l) rs waits) (take_all c.loop-entry.entry-index list (omega (arith, v.0))) (v.4 l) in
    good_end f (some_period f l) 8 list waits v.0 g
