use Rattle.std.proofs.Common.{◌≡◌, [], ◌∷◌, length, take, ap, arith}
use Rattle.std.proofs.lemmas.List.{take_all, length-append}
use Rattle.table_writer.proofs.Pens.{line_put}
use Rattle.table_writer.proofs.page.put_line.Goals as goal

pub returns : goal.returns
returns c =
    let numbers = c.args.numbers.now in
    let all : take c.loop-n.n-index numbers ≡ numbers = take_all c.loop-n.n-index numbers c.loop-n-test.false in
    let ended = c.push-2.ensures.ascii (omega arith) in
    record {
      text_is = cc (line_put c.args.page.now.bytes c.args.word.now numbers);
      grows = omega (arith, ap length ended, length-append c.loop-n.page.bytes (10 ∷ []));
    }
