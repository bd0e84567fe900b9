use Rattle.std.proofs.Common.{◌≡◌, ◌*◌, ◌^◌, ◌<◌, sum_by, rules, arith}
use Rattle.admission.specs.Demand.{part_of}
use Rattle.admission.proofs.Rising.{sum_small, lives_small}
use Rattle.admission.proofs.bounds.Tasks.live_bound.Goals as goal

pub sum-living-requires-clause-fits : goal.sum-living-requires-clause-fits
sum-living-requires-clause-fits c =
    let ts = c.args.self.now.list.now in
    let s = sum_small (λ t. t.life * part_of c.args.share t) 16384000000 ts (lives_small c.args.share) c.args.self.now.few in
    let h : sum_by (λ t. t.life * part_of c.args.share t) ts < 2 ^ 64 = omega (arith, s) in
    search rules

pub overflow_add-result : goal.overflow_add-result
overflow_add-result c =
    let ts = c.args.self.now.list.now in
    let v : c.sum-living.result ≡ sum_by (λ t. t.life * part_of c.args.share t) ts = search rules in
    omega (arith, v, sum_small (λ t. t.life * part_of c.args.share t) 16384000000 ts (lives_small c.args.share) c.args.self.now.few)

pub returns-clause-small : goal.returns-clause-small
returns-clause-small c =
    let ts = c.args.self.now.list.now in
    let v : c.sum-living.result ≡ sum_by (λ t. t.life * part_of c.args.share t) ts = search rules in
    omega (arith, v, sum_small (λ t. t.life * part_of c.args.share t) 16384000000 ts (lives_small c.args.share) c.args.self.now.few)
