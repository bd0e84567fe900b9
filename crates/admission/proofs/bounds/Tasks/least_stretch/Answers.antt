use Rattle.std.proofs.Common.{◌≡◌, ◌-◌, ◌*◌, ◌^◌, ◌<◌, sum_by, sym, ◌∙◌, subst, rules, arith}
use Rattle.std.proofs.lemmas.List.{get_or_default}
use Rattle.std.proofs.lemmas.Iterator.{YieldsList-from_slice}
use Rattle.std.proofs.lemmas.Iterator.Adapters.{serves_from_places}
use Rattle.admission.specs.Demand.{Sized, no_task}
use Rattle.admission.proofs.Rising.{parts, taken_by, taken_small, sum_small, no_room, first_stretch, stretch_from}
use Rattle.admission.proofs.Rounding.{ceil_is}
use Rattle.admission.proofs.bounds.Tasks.least_stretch.Goals as goal

pub sum-taken-requires-clause-can : goal.sum-taken-requires-clause-can
sum-taken-requires-clause-can c = (
  tt,
  serves_from_places (YieldsList-from_slice c.args.self.now.list.now cc) (λ x q r. search rules)
      (λ x k h e.
      let s : Sized x.now = subst Sized (sym (e ∙ get_or_default c.args.self.now.list.now k x.now no_task h)) (c.args.self.now.few.1 k h) in
      let p = s.some in
      let q = s.units in
      search rules),
)

pub sum-taken-requires-clause-fits : goal.sum-taken-requires-clause-fits
sum-taken-requires-clause-fits c =
    let ts = c.args.self.now.list.now in
    let s = sum_small taken_by 1099511627776000000 ts taken_small c.args.self.now.few in
    let h : sum_by taken_by ts < 2 ^ 64 = omega (arith, s) in
    search rules

pub returns-then-taken-ge-PARTS : goal.returns-then-taken-ge-PARTS
returns-then-taken-ge-PARTS c k h =
    let ts = c.args.self.now.list.now in
    let e : c.sum-taken.result ≡ sum_by taken_by ts = search rules in
    no_room c.args.own k c.sum-taken.result ts c.args.self.now.few.1 e (omega arith) (omega arith) h

pub returns : goal.returns
returns c =
    let ts = c.args.self.now.list.now in
    let left = parts - c.sum-taken.result in
    let e : c.sum-taken.result ≡ sum_by taken_by ts = search rules in
    let r = c.div_ceil.ensures ∙ ceil_is (c.args.own * parts) left (omega arith) in (
      omega (arith, r, stretch_from c.args.own left c.requires.some (omega arith)),
      λ k h. omega (arith, r, first_stretch c.args.own k c.sum-taken.result ts c.args.self.now.few.1 e (omega arith) h),
    )
