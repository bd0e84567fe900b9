use Rattle.std.proofs.Common.{rules, arith, ◌≡◌, ◌∙◌, sym, subst}
use Rattle.std.proofs.lemmas.List.{get_or_default}
use Rattle.std.proofs.lemmas.Iterator.{YieldsList-from_slice}
use Rattle.std.proofs.lemmas.Iterator.Adapters.{serves_from_places}
use Rattle.admission.specs.Demand.{Sized, no_task, demand, asked, part_of}
use Rattle.admission.proofs.Rising.{sum_small, births_small}
use Rattle.admission.proofs.bounds.Tasks.births.Goals as goal

pub sum-requires-clause-can : goal.sum-requires-clause-can
sum-requires-clause-can c = (
  tt,
  serves_from_places (YieldsList-from_slice c.args.self.now.list.now cc) (λ x q r. search rules)
      (λ x k h e.
      let s : Sized x.now = subst Sized (sym (e ∙ get_or_default c.args.self.now.list.now k x.now no_task h)) (c.args.self.now.few.1 k h) in
      let p = s.some in
      let q = s.period in
      search rules),
)

pub returns-clause-small : goal.returns-clause-small
returns-clause-small c =
    let ts = c.args.self.now.list.now in
    let v : c.sum.result ≡ demand (part_of c.args.share) c.args.stretch ts = search rules in
    omega (arith, v, sum_small (asked (part_of c.args.share) c.args.stretch) 16384000000 ts (λ t s. births_small c.args.share c.args.stretch t s c.requires) c.args.self.now.few)
