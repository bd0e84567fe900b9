use Rattle.std.proofs.Common.{◌≡◌, ℕ, ◌≤◌, List, ◌++◌, length, take, drop, sym, refl, ap, ◌∙◌, subst, arith}
use Rattle.std.proofs.lemmas.Result.{err_from_is_err_and}
use Rattle.fault.specs.Told.{refused, refusal, answered}
use Rattle.table.specs.Format.{render}
use Rattle.table.specs.Filling.{overlaid}
use Rattle.table.proofs.Complete.{one_to_one}
use Rattle.table_writer.specs.Writing.{rows_of, written, Written}
use Rattle.table_writer.proofs.Clips.{clip}
use Rattle.table_writer.proofs.Writes.{taken, refused_is, too_long, fitting, whole_text, read_back, copied}
use Rattle.table_writer.proofs.write.Goals as goal

pub returns-in_err-read : goal.returns-in_err-read
returns-in_err-read c =
    let rows = rows_of c.args.heap c.args.statics c.args.kinds.now c.args.tasks.now in
    let text = c.as_bytes-text.result.now in
    let room = length c.args.buffer.now in
    let drawn : text ≡ render (clip rows) = c.as_bytes-text.ensures.value ∙ c.as_str.ensures.value ∙ c.draw-page.ensures in
    let short : length text ≤ 8192 = omega (arith, c.as_bytes-text.ensures.len, c.as_str.ensures.fits) in
    let a : refused (refusal c.in_err-read.field-0.0) ≡ written rows room = refused_is rows text drawn short room _ c.in_err-read.ensures.answer in
    let p = err_from_is_err_and c.from_residual.result c.from_residual.ensures.1 in
    rw (p.1, p.2) (record { answer = a; buffer = refl; back = tt; limits = taken rows room _ a; apart = one_to_one })

pub returns-then-text-buffer : goal.returns-then-text-buffer
returns-then-text-buffer c =
    let rows = rows_of c.args.heap c.args.statics c.args.kinds.now c.args.tasks.now in
    let text = c.as_bytes-text.result.now in
    let room = length c.args.buffer.now in
    let drawn : text ≡ render (clip rows) = c.as_bytes-text.ensures.value ∙ c.as_str.ensures.value ∙ c.draw-page.ensures in
    let short : length text ≤ 8192 = omega (arith, c.as_bytes-text.ensures.len, c.as_str.ensures.fits) in
    let a : refused (refusal c.nowhere.result) ≡ written rows room =
    ap refused c.nowhere.ensures ∙ too_long rows text drawn short _ c.in_ok-read.ensures.answer room c.if-text-buffer.true in
    record { answer = a; buffer = refl; back = tt; limits = taken rows room _ a; apart = one_to_one }

pub returns : goal.returns
returns c =
    let rows = rows_of c.args.heap c.args.statics c.args.kinds.now c.args.tasks.now in
    let text = c.as_bytes-text.result.now in
    let old = c.args.buffer.now in
    let drawn : text ≡ render (clip rows) = c.as_bytes-text.ensures.value ∙ c.as_str.ensures.value ∙ c.draw-page.ensures in
    let short : length text ≤ 8192 = omega (arith, c.as_bytes-text.ensures.len, c.as_str.ensures.fits) in
    let h = c.in_ok-read.ensures.answer in
    let a : answered (length text) ≡ written rows (length old) = fitting rows text drawn short _ h (length old) c.if-text-buffer.false in
    let same = c.copy_from_slice.ensures.after in
    let t : text ≡ take (length text) (c.copy_from_slice.new.self ++ drop (length text) old) = sym (copied text c.copy_from_slice.new.self (drop (length text) old) same) in
    record {
      answer = a;
      buffer = ap (λ x. x ++ drop (length text) old) same ∙ ap (λ x. overlaid x old) (whole_text rows text drawn short _ h);
      back = subst (λ (x : List ℕ). Written rows x) t (read_back rows text drawn short _ h);
      limits = taken rows (length old) _ a;
      apart = one_to_one;
    }
