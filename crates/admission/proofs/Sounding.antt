-- The figures of an accepted table are sound.
use Rattle.std.proofs.Common.{◌≡◌, ℕ, ◌+◌, ◌-◌, ◌*◌, ◌<◌, ◌≤◌, true, eqb, List, [], map, length, get_or, take, drop, replicate, sym, ap, ◌∙◌, subst, inl, inr, arith}
use Rattle.std.proofs.lemmas.List.{get_or_append_left, take-append-le, take-map}
use Rattle.std.proofs.ByRecursion.{All-get_or}
use Rattle.std.proofs.lemmas.Bool.{and_parts, and_from, leb-true, le-leb, cond-true, cond-false, eq-eqb, ne_eqb, cases_lt}
use Rattle.fault.specs.Told.{answered}
use Rattle.queue.specs.Entries.{better}
use Rattle.table.specs.Format.{Rows}
use Rattle.table.specs.Limits.{Limits, TaskLimits, KindLimits}
use Rattle.admission.specs.declared.task.Task.{Task}
use Rattle.admission.specs.declared.task.Scheduled.{Scheduled}
use Rattle.admission.specs.declared.task.Share.TheVariants.{Words, Objects}
use Rattle.admission.specs.declared.figures.Bounds.{Bounds}
use Rattle.admission.specs.declared.figures.Figures.{Figures}
use Rattle.admission.specs.Demand.{up, DoneIn, Least, no_task, demand, part_of}
use Rattle.admission.specs.Ranks.{ranked, row_at, life_of, no_row}
use Rattle.admission.specs.Admission.{admission, weighed, figures_of, padded, scheduled, unscheduled, no_kind, live, steps_of, words_fit, handles_fit, fits}
use Rattle.admission.specs.Sound.{Sound, task, response, tasks_of, ahead, rank, WordsFit, HandlesFit, KindsKept, TimesKept, SharesKept, RanksKept, NumbersKept, LivesKept, OthersKept, ConsumersKept, Responds, RespondsFirst, LivesCounted, StepsCounted, FlipsLate, FlipsFirst, Spans, SpansFirst, PeriodFits, PeriodLongest}
use Rattle.admission.proofs.Padding.{take_padded}
use Rattle.admission.proofs.Ranking.{length_ranked}
use Rattle.admission.proofs.Timing.{length_scheduled, scheduled_at, scheduled_tasks}
use Rattle.admission.proofs.Rows.{consumers_at}
use Rattle.admission.proofs.Inverse.{least_holds, Largest, largest_holds, respond_at, length_responses, Weighed, inv_weighed, inv_figured}
use Rattle.admission.proofs.Ordering.{ranks_ascend, numbers_differ, Known, known_at}

module _ (rows : Rows) (b : Bounds) (l : Limits rows) (w : Weighed rows.heap rows.statics (ranked rows.tasks) b) where
  abbrev n : ℕ
  n = length rows.tasks

  abbrev ts : List Task
  ts = ranked rows.tasks

  abbrev f : Figures
  f = figures_of rows b

  -- Parts of arrays.

  abbrev xs : List Scheduled
  xs = scheduled ts w.rs

  length_rs : length w.rs ≡ length ts
  length_rs = length_responses [] ts w.rs w.times

  length_xs : length xs ≡ n
  length_xs = length_scheduled ts w.rs length_rs ∙ length_ranked rows.tasks

  place_is : (i : ℕ) → i < n → get_or b.tasks i unscheduled ≡ record { task = get_or ts i no_task; response = get_or w.rs i 0 }
  place_is i h =
      let m = length_ranked rows.tasks in
      let k = length_xs in
      ap (λ (l : List Scheduled). get_or l i unscheduled) w.tasks_are
      ∙ get_or_append_left xs (drop (length xs) (replicate 16 unscheduled)) unscheduled i (omega arith)
      ∙ scheduled_at ts w.rs i length_rs (omega arith)

  task_is : (i : ℕ) → i < n → task f i ≡ get_or ts i no_task
  task_is i h = ap (λ s. s.task) (place_is i h)

  tasks_are : tasks_of f ≡ ts
  tasks_are =
      ap (λ (l : List Scheduled). map (λ s. s.task) (take n l)) w.tasks_are
      ∙ ap (λ k. map (λ s. s.task) (take k (padded 16 unscheduled xs))) (sym length_xs)
      ∙ ap (map (λ s. s.task)) (take_padded 16 unscheduled xs)
      ∙ scheduled_tasks ts w.rs length_rs

  ahead_is : (i : ℕ) → i < n → ahead f i ≡ take i ts
  ahead_is i h =
      let k = length_xs in
      ap (λ (l : List Scheduled). map (λ s. s.task) (take i l)) w.tasks_are
      ∙ ap (map (λ s. s.task)) (take-append-le i xs (drop (length xs) (replicate 16 unscheduled)) (omega arith))
      ∙ sym (take-map (λ s. s.task) i xs)
      ∙ ap (take i) (scheduled_tasks ts w.rs length_rs)

  response_is : (i : ℕ) → i < n → response f i ≡ get_or w.rs i 0
  response_is i h = ap (λ s. s.response) (place_is i h)

  -- Each task.

  limits_at : (k : ℕ) → 1 ≤ k → k ≤ n → TaskLimits (row_at rows.tasks k)
  limits_at k h m = All-get_or TaskLimits rows.tasks (k - 1) no_row (omega arith) l.tasks

  known : (i : ℕ) → i < n → Known rows.tasks (task f i)
  known i h = subst (Known rows.tasks) (sym (task_is i h)) (known_at rows.tasks i h)

  times : TimesKept f
  times i h =
      let k = known i h.1 in
      let r = limits_at (task f i).number k.from k.to in
      let row = row_at rows.tasks (task f i).number in
      let p : (task f i).period ≡ row.period = ap (λ t. t.period) k.is in
      let d : (task f i).deadline ≡ row.deadline = ap (λ t. t.deadline) k.is in
      let c : (task f i).units ≡ row.units = ap (λ t. t.units) k.is in
      (omega (arith, r.period.1), omega (arith, r.deadline.1), omega (arith, r.units.0), omega (arith, r.units.1))

  shares : SharesKept f
  shares i h =
      let k = known i h.1 in
      let r = limits_at (task f i).number k.from k.to in
      let row = row_at rows.tasks (task f i).number in
      let a : (task f i).words ≡ row.words = ap (λ t. t.words) k.is in
      let o : (task f i).objects ≡ row.objects = ap (λ t. t.objects) k.is in
      (omega (arith, r.words), omega (arith, r.objects), k.from, k.to)

  kinds : KindsKept f
  kinds i h =
      let e : get_or (padded 32 no_kind rows.kinds) i no_kind ≡ get_or rows.kinds i no_kind = get_or_append_left rows.kinds (drop (length rows.kinds) (replicate 32 no_kind)) no_kind i h.1 in
      let r = subst KindLimits (sym e) (All-get_or KindLimits rows.kinds i no_kind h.1 l.kinds) in
      (r.size.0, r.size.1, r.map)

  ranks_rise : RanksKept f
  ranks_rise i j h =
      let p = ap rank (task_is i (omega (arith, h.1, h.2))) in
      let q = ap rank (task_is j h.2) in
      subst (λ x. better x (rank (task f j)) ≡ true) (sym p) (subst (λ y. better (rank (get_or ts i no_task)) y ≡ true) (sym q) (ranks_ascend rows.tasks i j h.1 h.2))

  numbers : NumbersKept f
  numbers i j h e =
      let p = ap (λ t. t.number) (task_is i (omega (arith, h.1, h.2))) in
      let q = ap (λ t. t.number) (task_is j h.2) in
      numbers_differ rows.tasks i j h.1 h.2 (sym p ∙ e ∙ q)

  life_is : (i : ℕ) → i < n → (task f i).life ≡ life_of rows.tasks (row_at rows.tasks (task f i).number)
  life_is i h = ap (λ t. t.life) (known i h).is

  consumer_is : (i : ℕ) → i < n → (task f i).consumer ≡ (row_at rows.tasks (task f i).number).consumer
  consumer_is i h = ap (λ t. t.consumer) (known i h).is

  lives : LivesKept f
  lives i h =
      let k = known i h.1 in
      let r = limits_at (task f i).number k.from k.to in
      let row = row_at rows.tasks (task f i).number in
      let z : row.consumer ≡ 0 = sym (consumer_is i h.1) ∙ h.2 in
      let e : (task f i).life ≡ row.life = life_is i h.1 ∙ cond-true (eqb row.consumer 0) row.life _ (eq-eqb row.consumer 0 z) in
      elim r.either [
        | inl a ↦ absurd (omega (arith, a.1))
        | inr a ↦ (omega (arith, a.0), omega (arith, r.life))
      ]

  others : OthersKept f
  others i h =
      let k = known i h.1 in
      let c = consumers_at n 1 rows.tasks ((task f i).number - 1) l.consumers (omega (arith, k.from, k.to)) in
      let e = consumer_is i h.1 in
      (omega (arith, c.0), λ q. c.1 (omega (arith, k.from)))

  consumers : ConsumersKept f
  consumers i j h =
      let k = known i h.1 in
      let m = known j h.2 in
      let row = row_at rows.tasks (task f i).number in
      let c : row.consumer ≡ (task f j).number = sym (consumer_is i h.1) ∙ h.3 in
      let d : row.consumer ≡ 0 → ⊥ = λ z. omega (arith, m.from) in
      let e : (task f i).life ≡ up (2 * (row_at rows.tasks row.consumer).period) row.period = life_is i h.1 ∙ cond-false (eqb row.consumer 0) row.life _ (ne_eqb row.consumer 0 d) in
      let p : (task f j).period ≡ (row_at rows.tasks (task f j).number).period = ap (λ t. t.period) m.is in
      let q : (task f i).period ≡ row.period = ap (λ t. t.period) k.is in
      let a : (row_at rows.tasks row.consumer).period ≡ (task f j).period = ap (λ x. (row_at rows.tasks x).period) c ∙ sym p in
      e ∙ ap (λ x. up (2 * x) row.period) a ∙ ap (up (2 * (task f j).period)) (sym q)

  -- Bounds.

  responding : (i : ℕ) → i < n → Least (DoneIn (task f i).units (ahead f i)) (task f i).deadline (response f i)
  responding i h =
      let m = length_ranked rows.tasks in
      let a = respond_at [] ts w.rs w.times i (omega arith) in
      let P : Task → List Task → ℕ → Type 0 = λ t better r. Least (DoneIn t.units better) t.deadline r in
      subst (λ t. P t (ahead f i) (response f i)) (sym (task_is i h))
      (subst (λ v. P (get_or ts i no_task) v (response f i)) (sym (ahead_is i h)) (subst (P (get_or ts i no_task) (take i ts)) (sym (response_is i h)) a))

  responds : Responds f
  responds i h = let r = responding i h.1 in (r.from, r.to, r.holds)

  first : RespondsFirst f
  first i k h = (responding i h.1).least k h.2 h.3

  late : Least (DoneIn 1 ts) 1000000 b.room.lateness
  late = least_holds 1 ts 1000000 b.room.lateness w.late

  whole : Least (DoneIn (steps_of b.room) ts) 1000000 b.span
  whole = least_holds (steps_of b.room) ts 1000000 b.span w.whole

  longest : Largest (fits b.room ts) b.span 1000000 b.period
  longest =
      subst (λ p. Largest (fits b.room ts) b.span 1000000 p) (sym w.period)
      (largest_holds (fits b.room ts) b.span 1000000 whole.to (and_from (words_fit b.room ts b.span) (handles_fit b.room ts b.span) w.words w.handles))

  period_some : 1 ≤ b.period
  period_some = omega (arith, whole.from, longest.from)

  room_space : b.room.space ≡ rows.heap.space
  room_space = ap (λ m. m.space) w.room

  room_handles : b.room.handles ≡ rows.heap.handles
  room_handles = ap (λ m. m.handles) w.room

  counted : LivesCounted f
  counted h = (
    ap (λ m. m.live_words) w.room ∙ ap (live Words rows.statics.words) (sym tasks_are),
    ap (λ m. m.live_objects) w.room ∙ ap (live Objects rows.statics.objects) (sym tasks_are),
  )

  steps : StepsCounted f
  steps h = let a = room_space in let c = room_handles in omega arith

  done_tasks : (own k : ℕ) → DoneIn own (tasks_of f) k → DoneIn own ts k
  done_tasks own k h = subst (λ v. DoneIn own v k) tasks_are h

  flips : FlipsLate f
  flips h = (late.from, late.to, subst (λ v. DoneIn 1 v b.room.lateness) (sym tasks_are) late.holds)

  flips_first : FlipsFirst f
  flips_first k h = late.least k h.1 (done_tasks 1 k h.2)

  spans : Spans f
  spans h = (whole.from, whole.to, subst (λ v. DoneIn (steps_of b.room) v b.span) (sym tasks_are) whole.holds)

  spans_first : SpansFirst f
  spans_first k h = whole.least k h.1 (done_tasks (steps_of b.room) k h.2)

  words_to : (p : ℕ) → words_fit b.room ts p ≡ true → WordsFit f p
  words_to p t =
      let a = leb-true (b.room.live_words + demand (part_of Words) (p + b.room.lateness) ts) b.room.space t in
      let e = room_space in
      subst (λ v. b.room.live_words + demand (part_of Words) (p + b.room.lateness) v ≤ rows.heap.space) (sym tasks_are) (omega arith)

  words_from : (p : ℕ) → WordsFit f p → words_fit b.room ts p ≡ true
  words_from p h =
      let a = subst (λ v. b.room.live_words + demand (part_of Words) (p + b.room.lateness) v ≤ rows.heap.space) tasks_are h in
      let e = room_space in
      le-leb _ _ (omega arith)

  handles_to : (p : ℕ) → handles_fit b.room ts p ≡ true → HandlesFit f p
  handles_to p t =
      let a = leb-true (b.room.live_objects + 2 * demand (part_of Objects) (p + b.room.lateness) ts) b.room.handles t in
      let e = room_handles in
      subst (λ v. b.room.live_objects + 2 * demand (part_of Objects) (p + b.room.lateness) v ≤ rows.heap.handles) (sym tasks_are) (omega arith)

  handles_from : (p : ℕ) → HandlesFit f p → handles_fit b.room ts p ≡ true
  handles_from p h =
      let a = subst (λ v. b.room.live_objects + 2 * demand (part_of Objects) (p + b.room.lateness) v ≤ rows.heap.handles) tasks_are h in
      let e = room_handles in
      le-leb _ _ (omega arith)

  period_fits : PeriodFits f
  period_fits h =
      let p = and_parts (words_fit b.room ts b.period) (handles_fit b.room ts b.period) longest.holds in
      (longest.from, longest.to, words_to b.period p.0, handles_to b.period p.1)

  period_longest : PeriodLongest f
  period_longest k h =
      elim (cases_lt b.period k) [
        | inl m ↦ absurd (longest.none k m h.2 (and_from (words_fit b.room ts k) (handles_fit b.room ts k) (words_from k h.3) (handles_from k h.4)))
        | inr m ↦ m
      ]

  sound_figures : Sound f
  sound_figures =
      record {
        blank_rows = λ z. absurd (omega (arith, period_some));
        blank_counts = λ z. absurd (omega (arith, period_some));
        blank_times = λ z. absurd (omega (arith, period_some));
        heap = λ h. (l.heap.space.0, l.heap.space.1, l.heap.handles.0, l.heap.handles.1);
        statics = λ h. (l.statics.words, l.statics.objects);
        counts = λ h. (l.kind_count.0, l.kind_count.1, l.task_count.0, l.task_count.1);
        kinds = kinds;
        times = times;
        shares = shares;
        ranks = ranks_rise;
        numbers = numbers;
        lives = lives;
        others = others;
        consumers = consumers;
        responds = responds;
        first = first;
        live = counted;
        steps = steps;
        flips = flips;
        flips_first = flips_first;
        spans = spans;
        spans_first = spans_first;
        fits = period_fits;
        longest = period_longest;
      }

pub sound : (rows : Rows) (g : Figures) → Limits rows → answered g ≡ admission rows → Sound g
unfolding admission
sound rows g l e =
    let v = weighed rows.heap rows.statics (length rows.kinds) (ranked rows.tasks) in
    let i = inv_figured rows v g e in
    subst Sound (sym i.2) (sound_figures rows i.0 l (inv_weighed rows.heap rows.statics (length rows.kinds) (ranked rows.tasks) i.0 i.1))

-- and their period is not 0
pub not_blank : (rows : Rows) (g : Figures) → Limits rows → answered g ≡ admission rows → 1 ≤ g.period
unfolding admission
not_blank rows g l e =
    let v = weighed rows.heap rows.statics (length rows.kinds) (ranked rows.tasks) in
    let i = inv_figured rows v g e in
    subst (λ h. 1 ≤ h.period) (sym i.2) (period_some rows i.0 l (inv_weighed rows.heap rows.statics (length rows.kinds) (ranked rows.tasks) i.0 i.1))
