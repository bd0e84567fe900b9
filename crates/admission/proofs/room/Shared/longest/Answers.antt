use Rattle.std.proofs.Common.{sym, arith}
use Rattle.std.proofs.lemmas.Bool.{both_ways}
use Rattle.admission.specs.Admission.{fits}
use Rattle.admission.proofs.Searching.{fits_fall, largest_is}
use Rattle.admission.proofs.room.Shared.longest.Goals as goal

pub loop-bad-preserved : goal.loop-bad-preserved
loop-bad-preserved c =
    let m = c.args.self.now.room in
    let ts = c.args.self.now.tasks.list.now in
    let v = c.loop-bad.invariant in (
      v.0,
      omega arith,
      omega arith,
      v.3,
      λ j l h t. both_ways _ (sym c.if-fits.ensures) (fits_fall m ts _ j c.args.self.now.tasks.few.1 l t),
    )

pub returns-clause-value : goal.returns-clause-value
returns-clause-value c =
    let v = c.loop-bad.invariant in
    largest_is (fits c.args.self.now.room c.args.self.now.tasks.list.now) c.args.least 1000000 c.loop-bad.good v.0 (omega (arith, v.1, v.2)) v.3
    (λ j i u t. v.4 j (omega arith) u t)
