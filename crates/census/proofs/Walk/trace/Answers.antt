use Rattle.std.proofs.Common.{◌≡◌, ◌<◌, length, get_or, arith, rules}
use Rattle.census.specs.Finds.{found}
use Rattle.census.proofs.Searches.{grown_on, next_reached, closed_more}
use Rattle.census.proofs.Walk.trace.Goals as goal

pub follow-requires-clause-here : goal.follow-requires-clause-here
follow-requires-clause-here g c =
    let v = c.loop-object.invariant in
    let f = c.loop-object.self.finds in
    let n = c.loop-object.next in
    let l : n < length (found f) = search rules in
    let e : c.in-Some.object ≡ get_or (found f) n 0 = search rules in
    rw (v.0, v.1, e) (next_reached c.args.self.now.heap.now (g.R.Readable.words c.args.self.now.memory.now) f n v.2.0 l)

pub loop-object-preserved : goal.loop-object-preserved
loop-object-preserved g c =
    let h = c.args.self.now.heap.now in
    let m = g.R.Readable.words c.args.self.now.memory.now in
    let v = c.loop-object.invariant in
    let f = c.loop-object.self.finds in
    let q = c.follow.new.self.finds in
    let n = c.loop-object.next in
    let l : n < length (found f) = search rules in
    let is : c.in-Some.object ≡ get_or (found f) n 0 = search rules in
    let e = rw (v.0, v.1, is) at c.in_ok-follow.ensures.finds in (
      search rules,
      search rules,
      (e.0.0, grown_on c.args.self.now.finds f q v.2.1 e.0.1),
      closed_more h m f q n l e.0.1 e.1 v.3,
      (let t = e.0.1.count in omega arith),
    )
