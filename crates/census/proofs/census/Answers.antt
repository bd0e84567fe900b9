use Rattle.std.proofs.Common.{length, sym, refl, subst, rules}
use Rattle.census.specs.Finds.{Sound}
use Rattle.census.proofs.Searches.{begins, rooted_on, counted}
use Rattle.census.proofs.census.Goals as goal

pub note_slots-requires : goal.note_slots-requires
note_slots-requires g c =
    let h = c.args.heap.now in
    let m = g.R.Readable.words c.args.memory.now in
    subst (Sound h m) (sym c.new.ensures) (begins h m)

pub returns : goal.returns
returns g c =
    let h = c.args.heap.now in
    let m = g.R.Readable.words c.args.memory.now in
    let s = c.note_slots.new.self in
    let f = c.trace.new.self.finds in
    let a = c.in_ok-note_slots.ensures in
    let b = rw (a.over.0, a.over.1) at c.in_ok-trace.ensures.finds in
    (search rules, search rules, counted h m f _ b.0.0 (rooted_on h s.finds f (length h.slots) b.0.1 a.finds.1) b.1 (search rules) refl)
