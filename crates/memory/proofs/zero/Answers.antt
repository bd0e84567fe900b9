use Rattle.std.proofs.Common.{◌≡◌, length, ap, ◌∙◌, arith}
use Rattle.std.proofs.lemmas.Result.{err_from_is_err_and}
use Rattle.std.proofs.lemmas.Bool.{lt-leb}
use Rattle.fault.specs.Told.{refused, past_end}
use Rattle.memory.proofs.Zeros.{zeroed_none, zeroed_more, length_zeroed, zeroed_past}
use Rattle.memory.proofs.zero.Goals as goal

pub loop-place-init : goal.loop-place-init
loop-place-init g c = (zeroed_none (g.M.Readable.words c.args.memory.now), omega arith)

pub loop-place-preserved : goal.loop-place-preserved
loop-place-preserved g c =
    let e = c.in_ok-set.ensures in
    let ws = g.M.Readable.words c.args.memory.now in
    let l = length_zeroed ws c.loop-place.place in
    let k = ap length c.loop-place.invariant.0 in
    let m = zeroed_more ws c.loop-place.place (omega arith) in
    (cc, omega arith)

pub returns-in_err-set : goal.returns-in_err-set
returns-in_err-set g c =
    let e = c.in_err-set.ensures in
    let ws = g.M.Readable.words c.args.memory.now in
    let l = length_zeroed ws c.loop-place.place in
    let k = ap length c.loop-place.invariant.0 in
    let f : c.loop-place.place ≡ length ws = omega arith in
    let n = zeroed_past ws c.args.count (omega arith) in
    let t = lt-leb c.args.count (length ws) (omega arith) in
    let p = err_from_is_err_and c.from_residual.result c.from_residual.ensures.1 in
    rw (p.1, p.2, t) (record { answer = ap refused (e.1 ∙ ap past_end f); after = cc })
