use Rattle.std.proofs.Common.{◌≡◌, length, arith, rules}
use Rattle.census.proofs.Searches.{room}
use Rattle.census.proofs.Finds.note.Goals as goal

pub push-requires : goal.push-requires
push-requires c =
    let n : length c.args.self.now.seen ≡ 257 = search rules in
    let r = room c.args.self.now.seen c.args.number (omega arith) c.if-not-self-number.true in
    omega (arith, c.requires.tidy.count)
