use Rattle.std.proofs.Common.{◌≡◌, ◌+◌, [], ◌∷◌, ◌++◌, map, length, get_or, take, drop, set, replicate, None, Some, Ok, sym, ap, ◌∙◌, arith}
use Rattle.std.proofs.lemmas.List.{length-set, length-take-le, take_more, take_more_set, take_all, map-append}
use Rattle.std.proofs.lemmas.Result.{err_from_is_err_and}
use Rattle.fault.specs.Told.{answered, refused}
use Rattle.admission.specs.declared.task.Scheduled.{Scheduled}
use Rattle.admission.specs.Demand.{no_task}
use Rattle.admission.specs.Search.{least}
use Rattle.admission.specs.Admission.{done_in, responses, timetabled, scheduled, unscheduled, padded}
use Rattle.admission.proofs.Padding.{keep_next}
use Rattle.admission.proofs.Timing.{after, time_more, time_none, time_all, scheduled_from}
use Rattle.admission.proofs.Verdicts.{not_found}
use Rattle.admission.proofs.accepted.Accepted.schedule.Goals as goal

pub loop-i-preserved : goal.loop-i-preserved
loop-i-preserved c =
    let ts = c.args.tasks.now.list.now in
    let i = c.loop-i.i in
    let t = get_or ts i no_task in
    let v = c.loop-i.invariant in
    let r = c.in_ok-response.response in
    let x : Scheduled = record { task = t; response = r } in
    let o : c.settle.result ≡ Some r = c.in_ok-response.ensures.ok_part in
    let e : Some r ≡ least (done_in t.units (take i ts)) t.deadline = sym o ∙ c.settle.ensures.value ∙ ap (λ l. least (done_in t.units l) t.deadline) c.best.ensures in
    let m : take (i + 1) (set c.loop-i.scheduled i x) ≡ take i c.loop-i.scheduled ++ x ∷ [] = take_more_set c.loop-i.scheduled i x (omega (arith, v.0, c.args.tasks.now.few.0)) in
    let tasks : map (λ s. s.task) (take (i + 1) (set c.loop-i.scheduled i x)) ≡ map (λ s. s.task) (take i c.loop-i.scheduled) ++ t ∷ [] = ap (map (λ s. s.task)) m ∙ map-append (λ s. s.task) (take i c.loop-i.scheduled) (x ∷ []) in
    let times : map (λ s. s.response) (take (i + 1) (set c.loop-i.scheduled i x)) ≡ map (λ s. s.response) (take i c.loop-i.scheduled) ++ r ∷ [] = ap (map (λ s. s.response)) m ∙ map-append (λ s. s.response) (take i c.loop-i.scheduled) (x ∷ []) in (
      length-set c.loop-i.scheduled i x ∙ v.0,
      keep_next 16 unscheduled x c.loop-i.scheduled i v.0 (omega (arith, c.args.tasks.now.few.0)) v.1,
      tasks ∙ ap (λ l. l ++ t ∷ []) v.2 ∙ sym (take_more ts i no_task c.loop-i-test.true),
      ap (λ l. after l (responses (take (i + 1) ts) (drop (i + 1) ts))) times ∙ time_more ts _ i r c.loop-i-test.true e v.3,
    )

pub returns-in_err-response : goal.returns-in_err-response
returns-in_err-response c =
    let ts = c.args.tasks.now.list.now in
    let i = c.loop-i.i in
    let t = get_or ts i no_task in
    let o = not_found c.settle.result c.misses.result c.in_err-response.field-0.0 c.in_err-response.ensures.value in
    let e : None ≡ least (done_in t.units (take i ts)) t.deadline = o.0 ∙ c.settle.ensures.value ∙ ap (λ l. least (done_in t.units l) t.deadline) c.best.ensures in
    let n = time_none ts _ i c.loop-i-test.true e c.loop-i.invariant.3 in
    let p = err_from_is_err_and c.from_residual.result c.from_residual.ensures.1 in
    rw (p.1, p.2, ← o.1) (ap refused c.misses.ensures ∙ ap (timetabled (length c.args.self.now.kinds.now) ts) n)

pub returns : goal.returns
returns c =
    let ts = c.args.tasks.now.list.now in
    let i = c.loop-i.i in
    let v = c.loop-i.invariant in
    let xs = take i c.loop-i.scheduled in
    let rs = map (λ s. s.response) xs in
    let e : responses [] ts ≡ Ok rs = time_all ts rs i (omega arith) v.3 in
    let l : length xs ≡ i = length-take-le i c.loop-i.scheduled (omega (arith, v.0, c.args.tasks.now.few.0)) in
    let a : map (λ s. s.task) xs ≡ ts = v.2 ∙ take_all i ts (omega arith) in
    let s : scheduled ts rs ≡ xs = ap (λ q. scheduled q rs) (sym a) ∙ scheduled_from xs in
    let p : c.loop-i.scheduled ≡ padded 16 unscheduled xs = v.1 ∙ ap (λ k. xs ++ drop k (replicate 16 unscheduled)) (sym l) in
    ap answered (p ∙ ap (padded 16 unscheduled) (sym s)) ∙ sym (ap (timetabled (length c.args.self.now.kinds.now) ts) e)
