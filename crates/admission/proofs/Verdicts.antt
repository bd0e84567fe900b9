-- What the bounds are, once each search is known.
use Rattle.std.proofs.Common.{◌≡◌, ℕ, ◌+◌, true, false, List, [], Some, None, Ok, Err, Option, Result, ok_or, sym, refl, ap, ◌∙◌}
use Rattle.std.proofs.lemmas.Bool.{cond-true, cond-false}
use Rattle.fault.specs.declared.Fault.{Fault}
use Rattle.fault.specs.Told.{Refusal, answered, refused, nowhere}
use Rattle.fault.specs.Told.{admission as in_admission}
use Rattle.table.specs.declared.rows.HeapRow.{HeapRow}
use Rattle.table.specs.declared.rows.StaticRow.{StaticRow}
use Rattle.admission.specs.declared.task.Task.{Task}
use Rattle.admission.specs.declared.task.Scheduled.{Scheduled}
use Rattle.admission.specs.declared.figures.Room.{Room}
use Rattle.admission.specs.declared.figures.Bounds.{Bounds}
use Rattle.admission.specs.Search.{least, largest}
use Rattle.admission.specs.Admission.{weighed, responded, flipped, collected, sized, responses, done_in, room_for, steps_of, words_fit, handles_fit, fits, padded, scheduled, unscheduled, timetabled, misses_deadline}

same_bounds : (rs : List Scheduled) {ss : List Scheduled} {m : Room} {q p r : ℕ} → rs ≡ ss → p ≡ r → ◌≡◌ {A = Bounds} (record { tasks = rs; room = m; span = q; period = p }) (record { tasks = ss; room = m; span = q; period = r })
same_bounds rs {ss} {m} {q} {p} {r} e h =
    let bounds : List Scheduled → ℕ → Bounds = λ a b. record { tasks = a; room = m; span = q; period = b } in
    ap (λ a. bounds a p) e ∙ ap (bounds ss) h

-- a search that found nothing, as an error
pub not_found : (o : Option ℕ) (e f : Fault) → ◌≡◌ {A = Result ℕ Fault} (Err f) (ok_or o e) → (None ≡ o) × (e ≡ f)
not_found None e f h = (refl, (cc))
not_found (Some n) e f h = cc

pub timed_ok : (kinds : ℕ) (ts : List Task) (x : Result (List ℕ) ℕ) (tasks : List Scheduled) → answered tasks ≡ timetabled kinds ts x → (rs : List ℕ) × (x ≡ Ok rs) × (tasks ≡ padded 16 unscheduled (scheduled ts rs))
timed_ok kinds ts (Ok rs) tasks e = (rs, refl, (cc))
timed_ok kinds ts (Err n) tasks e = cc

pub timed_err : (kinds : ℕ) (ts : List Task) (x : Result (List ℕ) ℕ) (r : Refusal) → refused r ≡ timetabled kinds ts x → (n : ℕ) × (x ≡ Err n) × (r ≡ misses_deadline (2 + kinds + n))
timed_err kinds ts (Ok rs) r e = cc
timed_err kinds ts (Err n) r e = (n, refl, (cc))

module _ (heap : HeapRow) (statics : StaticRow) (kinds : ℕ) (ts : List Task) where
  pub says_7 : (n : ℕ) → responses [] ts ≡ Err n → weighed heap statics kinds ts ≡ refused (misses_deadline (2 + kinds + n))
  unfolding weighed responded
  says_7 n e = ap (responded heap statics kinds ts) e

  -- all tasks have response times
  after_times : (rs : List ℕ) → responses [] ts ≡ Ok rs → weighed heap statics kinds ts ≡ flipped heap statics ts rs (least (done_in 1 ts) 1000000)
  unfolding weighed responded
  after_times rs e = ap (responded heap statics kinds ts) e

  pub says_8_flip : (rs : List ℕ) → responses [] ts ≡ Ok rs → None ≡ least (done_in 1 ts) 1000000 → weighed heap statics kinds ts ≡ refused (nowhere 8 in_admission)
  unfolding flipped
  says_8_flip rs e f = after_times rs e ∙ ap (flipped heap statics ts rs) (sym f)

  -- a flip is at most so late
  after_flip : (rs : List ℕ) (f : ℕ) → responses [] ts ≡ Ok rs → Some f ≡ least (done_in 1 ts) 1000000 → weighed heap statics kinds ts ≡ collected ts rs (room_for heap statics ts f) (least (done_in (steps_of (room_for heap statics ts f)) ts) 1000000)
  unfolding flipped
  after_flip rs f e h = after_times rs e ∙ ap (flipped heap statics ts rs) (sym h)

  module _ (rs : List ℕ) (f : ℕ) (m : Room) (e : responses [] ts ≡ Ok rs) (h : Some f ≡ least (done_in 1 ts) 1000000) (r : m ≡ room_for heap statics ts f) where
    with_room : weighed heap statics kinds ts ≡ collected ts rs m (least (done_in (steps_of m) ts) 1000000)
    with_room = after_flip rs f e h ∙ ap (λ o. collected ts rs o (least (done_in (steps_of o) ts) 1000000)) (sym r)

    says_8_whole : None ≡ least (done_in (steps_of m) ts) 1000000 → weighed heap statics kinds ts ≡ refused (nowhere 8 in_admission)
    unfolding collected
    says_8_whole n = with_room ∙ ap (collected ts rs m) (sym n)

    -- a whole collection takes at most so long
    after_whole : (q : ℕ) → Some q ≡ least (done_in (steps_of m) ts) 1000000 → weighed heap statics kinds ts ≡ sized ts rs m q
    unfolding collected
    after_whole q n = with_room ∙ ap (collected ts rs m) (sym n)

    pub says_9 : (q : ℕ) → Some q ≡ least (done_in (steps_of m) ts) 1000000 → false ≡ words_fit m ts q → weighed heap statics kinds ts ≡ refused (nowhere 9 in_admission)
    unfolding sized
    says_9 q n w = after_whole q n ∙ cond-false _ _ _ (sym w)

    pub says_10 : (q : ℕ) → Some q ≡ least (done_in (steps_of m) ts) 1000000 → true ≡ words_fit m ts q → false ≡ handles_fit m ts q → weighed heap statics kinds ts ≡ refused (nowhere 10 in_admission)
    unfolding sized
    says_10 q n w o = after_whole q n ∙ cond-true _ _ _ (sym w) ∙ cond-false _ _ _ (sym o)

    pub says_plan : (q : ℕ) → Some q ≡ least (done_in (steps_of m) ts) 1000000 → true ≡ words_fit m ts q → true ≡ handles_fit m ts q → weighed heap statics kinds ts ≡ answered (record { tasks = padded 16 unscheduled (scheduled ts rs); room = m; span = q; period = largest (fits m ts) q 1000000 })
    unfolding sized
    says_plan q n w o = after_whole q n ∙ cond-true _ _ _ (sym w) ∙ cond-true _ _ _ (sym o)

-- The same of what the calls answer: the tasks with their times, how late a flip is, the room, and the tasks that share it.
module _ (heap : HeapRow) (statics : StaticRow) (kinds : ℕ) (ts : List Task) (tasks : List Scheduled) (f : ℕ) (m : Room) (ls : List Task) (e : answered tasks ≡ timetabled kinds ts (responses [] ts)) (h : Some f ≡ least (done_in 1 ts) 1000000) (r : m ≡ room_for heap statics ts f) (s : ls ≡ ts) where
  spans : (o : Option ℕ) → o ≡ least (done_in (steps_of m) ls) 1000000 → o ≡ least (done_in (steps_of m) ts) 1000000
  spans o n = n ∙ ap (λ l. least (done_in (steps_of m) l) 1000000) s

  pub no_span : None ≡ least (done_in (steps_of m) ls) 1000000 → refused (nowhere 8 in_admission) ≡ weighed heap statics kinds ts
  no_span n =
      let t = timed_ok kinds ts (responses [] ts) tasks e in
      sym (says_8_whole heap statics kinds ts t.0 f m t.1 h r (spans None n))

  pub words_break : (q : ℕ) → Some q ≡ least (done_in (steps_of m) ls) 1000000 → false ≡ words_fit m ls q → refused (nowhere 9 in_admission) ≡ weighed heap statics kinds ts
  words_break q n w =
      let t = timed_ok kinds ts (responses [] ts) tasks e in
      sym (says_9 heap statics kinds ts t.0 f m t.1 h r q (spans (Some q) n) (w ∙ ap (λ l. words_fit m l q) s))

  pub handles_break : (q : ℕ) → Some q ≡ least (done_in (steps_of m) ls) 1000000 → true ≡ words_fit m ls q → false ≡ handles_fit m ls q → refused (nowhere 10 in_admission) ≡ weighed heap statics kinds ts
  handles_break q n w o =
      let t = timed_ok kinds ts (responses [] ts) tasks e in
      sym (says_10 heap statics kinds ts t.0 f m t.1 h r q (spans (Some q) n) (w ∙ ap (λ l. words_fit m l q) s) (o ∙ ap (λ l. handles_fit m l q) s))

  pub bounds_are : (q p : ℕ) → Some q ≡ least (done_in (steps_of m) ls) 1000000 → true ≡ words_fit m ls q → true ≡ handles_fit m ls q → p ≡ largest (fits m ls) q 1000000 → answered (record { tasks = tasks; room = m; span = q; period = p }) ≡ weighed heap statics kinds ts
  bounds_are q p n w o l =
      let t = timed_ok kinds ts (responses [] ts) tasks e in
      ap (λ (b : Bounds). answered b) (same_bounds tasks t.2 (l ∙ ap (λ k. largest (fits m k) q 1000000) s))
      ∙ sym (says_plan heap statics kinds ts t.0 f m t.1 h r q (spans (Some q) n) (w ∙ ap (λ k. words_fit m k q) s) (o ∙ ap (λ k. handles_fit m k q) s))
