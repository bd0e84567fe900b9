use Rattle.std.proofs.Common.{rules, arith}
use Rattle.memory.proofs.WordBytes.{length_words, put_mid4, words_put_mid, tail_put_mid}
use Rattle.memory.proofs.BytesWritable.set.Goals as goal

pub returns-clause-sets : goal.returns-clause-sets
returns-clause-sets c =
    let l = length_words c.args.self.now.bytes.now in
    (omega arith, words_put_mid c.args.self.now.bytes.now _ c.args.place _ c.args.value (search rules) (omega arith) (omega arith) c.ranges.value.fits)

pub returns-clause-bytes : goal.returns-clause-bytes
returns-clause-bytes c = search (rules, length_words, put_mid4)

pub returns-clause-tail : goal.returns-clause-tail
returns-clause-tail c =
    let l = length_words c.args.self.now.bytes.now in
    tail_put_mid c.args.self.now.bytes.now _ c.args.place _ c.args.value (search rules) (omega arith) (omega arith)
