use Rattle.std.proofs.Common.{rules}
use Rattle.census.proofs.Searches.{visited}
use Rattle.census.proofs.Walk.visit.Goals as goal

pub returns-clause-finds : goal.returns-clause-finds
returns-clause-finds g c =
    let f = c.args.self.now.finds in
    let v = visited c.args.self.now.heap.now (g.R.Readable.words c.args.self.now.memory.now) f c.note.new.self c.args.number c.kind_of-size.result.size
    c.requires.sound (search rules) (search rules) (search rules) (search rules) c.requires.reached (search rules) in
    ((v.sound, v.grown), v.here)
