use Rattle.std.proofs.Common.{◌≡◌, refl, arith, rules}
use Rattle.kinds.specs.Maps.{bits_set}
use Rattle.kinds.proofs.Ones.{bits_none, scan_more}
use Rattle.census.proofs.Searches.{grown_on, same_grown, reached_by, followed_more, followed_all}
use Rattle.census.proofs.Walk.follow.Goals as goal

pub loop-met-init : goal.loop-met-init
loop-met-init g c =
    (refl, refl, (c.requires.sound, same_grown c.args.self.now.finds), (λ j l. absurd (omega arith)), bits_none c.kind_of-kind.result.map, omega arith)

pub visit-requires-clause-reached : goal.visit-requires-clause-reached
visit-requires-clause-reached g c =
    let v = c.loop-met.invariant in
    let names = rw (v.0, v.1) at c.named_by.ensures in
    rw (v.0, v.1) (reached_by c.args.self.now.heap.now (g.R.Readable.words c.args.self.now.memory.now) c.args.object c.next_reference-word.result c.named_by.result names c.requires.here)

pub loop-met-preserved : goal.loop-met-preserved
loop-met-preserved g c =
    let h = c.args.self.now.heap.now in
    let m = g.R.Readable.words c.args.self.now.memory.now in
    let k = c.kind_of-kind.result in
    let w = c.next_reference-word.result in
    let v = c.loop-met.invariant in
    let e = rw (v.0, v.1) at c.in_ok-visit.ensures.finds in
    let names = rw (v.0, v.1) at c.named_by.ensures in
    let here = rw names at e.1 in
    let b = scan_more k.map c.loop-met.from w c.loop-met._met c.next_reference-word.ensures v.5 v.4 (search rules) in (
      search rules,
      search rules,
      (e.0.0, grown_on c.args.self.now.finds c.loop-met.self.finds c.visit.new.self.finds v.2.1 e.0.1),
      followed_more h m k c.loop-met.self.finds c.visit.new.self.finds c.args.object c.loop-met.from w c.kind_of-kind.ensures c.next_reference-word.ensures e.0.1 here v.3,
      b.1,
      (let l = b.0 in omega arith),
    )

pub returns-clause-finds : goal.returns-clause-finds
returns-clause-finds g c =
    let k = c.kind_of-kind.result in
    let v = c.loop-met.invariant in
    let e = c.references-met-end.ensures in
    let b : bits_set k.map c.loop-met.from ≡ bits_set k.map 32 = let a = v.4 in omega arith in
    (v.2, followed_all c.args.self.now.heap.now (g.R.Readable.words c.args.self.now.memory.now) k c.loop-met.self.finds c.args.object c.loop-met.from c.kind_of-kind.ensures (search rules) b v.3)
