use Rattle.std.proofs.Common.{[], length, sym, ap, ◌∙◌}
use Rattle.std.proofs.lemmas.Result.{err_from_is_err_and}
use Rattle.fault.specs.Told.{refused}
use Rattle.admission.specs.Admission.{responses}
use Rattle.admission.proofs.Verdicts.{not_found, timed_ok, timed_err, says_7, says_8_flip, no_span, words_break, handles_break, bounds_are}
use Rattle.admission.proofs.accepted.Accepted.weigh.Goals as goal

pub returns-in_err-scheduled-clause-value : goal.returns-in_err-scheduled-clause-value
returns-in_err-scheduled-clause-value c =
    let a = c.args.self.now in
    let ts = c.args.tasks.now.list.now in
    let t = timed_err (length a.kinds.now) ts (responses [] ts) _ c.in_err-scheduled.ensures in
    let p = err_from_is_err_and c.from_residual.result c.from_residual.ensures.1 in
    rw (p.1, p.2) (ap refused t.2 ∙ sym (says_7 a.heap a.statics (length a.kinds.now) ts t.0 t.1))

pub returns-in_err-lateness-clause-value : goal.returns-in_err-lateness-clause-value
returns-in_err-lateness-clause-value c =
    let a = c.args.self.now in
    let ts = c.args.tasks.now.list.now in
    let t = timed_ok (length a.kinds.now) ts (responses [] ts) _ c.in_ok-scheduled.ensures in
    let o = not_found c.settle.result c.nowhere-overload.result c.in_err-lateness.field-0.0 c.in_err-lateness.ensures.value in
    let p = err_from_is_err_and c.from_residual-in_err-lateness.result c.from_residual-in_err-lateness.ensures.1 in
    rw (p.1, p.2, ← o.1)
    (ap refused c.nowhere-overload.ensures ∙ sym (says_8_flip a.heap a.statics (length a.kinds.now) ts t.0 t.1 (o.0 ∙ c.settle.ensures.value)))

pub returns-in_err-span-clause-value : goal.returns-in_err-span-clause-value
returns-in_err-span-clause-value c =
    let a = c.args.self.now in
    let m = c.room_for-shared in
    let late = sym c.in_ok-lateness.ensures.ok_part ∙ c.settle.ensures.value in
    let o = not_found c.span.result c.nowhere-overload.result c.in_err-span.field-0.0 c.in_err-span.ensures.value in
    let p = err_from_is_err_and c.from_residual-in_err-span.result c.from_residual-in_err-span.ensures.1 in
    rw (p.1, p.2, ← o.1)
    (ap refused c.nowhere-overload.ensures
    ∙ no_span a.heap a.statics (length a.kinds.now) c.args.tasks.now.list.now _ c.in_ok-lateness.lateness m.result.room _ c.in_ok-scheduled.ensures late m.ensures.room m.ensures.tasks (o.0 ∙ c.span.ensures.value))

pub returns-then-not-words_fit-clause-value : goal.returns-then-not-words_fit-clause-value
returns-then-not-words_fit-clause-value c =
    let a = c.args.self.now in
    let m = c.room_for-shared in
    let late = sym c.in_ok-lateness.ensures.ok_part ∙ c.settle.ensures.value in
    let span = sym c.in_ok-span.ensures.ok_part ∙ c.span.ensures.value in
    ap refused c.nowhere.ensures
    ∙ words_break a.heap a.statics (length a.kinds.now) c.args.tasks.now.list.now _ c.in_ok-lateness.lateness m.result.room _ c.in_ok-scheduled.ensures late m.ensures.room m.ensures.tasks c.in_ok-span.span span c.if-not-words_fit.ensures

pub returns-then-not-handles_fit-clause-value : goal.returns-then-not-handles_fit-clause-value
returns-then-not-handles_fit-clause-value c =
    let a = c.args.self.now in
    let m = c.room_for-shared in
    let late = sym c.in_ok-lateness.ensures.ok_part ∙ c.settle.ensures.value in
    let span = sym c.in_ok-span.ensures.ok_part ∙ c.span.ensures.value in
    ap refused c.nowhere-then-not-handles_fit.ensures
    ∙ handles_break a.heap a.statics (length a.kinds.now) c.args.tasks.now.list.now _ c.in_ok-lateness.lateness m.result.room _ c.in_ok-scheduled.ensures late m.ensures.room m.ensures.tasks c.in_ok-span.span span c.if-not-words_fit.ensures c.if-not-handles_fit.ensures

pub returns-clause-value : goal.returns-clause-value
returns-clause-value c =
    let a = c.args.self.now in
    let m = c.room_for-shared in
    let late = sym c.in_ok-lateness.ensures.ok_part ∙ c.settle.ensures.value in
    let span = sym c.in_ok-span.ensures.ok_part ∙ c.span.ensures.value in
    bounds_are a.heap a.statics (length a.kinds.now) c.args.tasks.now.list.now _ c.in_ok-lateness.lateness m.result.room _ c.in_ok-scheduled.ensures late m.ensures.room m.ensures.tasks c.in_ok-span.span c.longest.result span c.if-not-words_fit.ensures c.if-not-handles_fit.ensures c.longest.ensures.value
