-- What is known of figures that admission answers.
use Rattle.std.proofs.Common.{◌≡◌, ℕ, zero, suc, ◌+◌, ◌-◌, ◌<◌, ◌≤◌, Bool, true, ltb, List, [], ◌∷◌, ◌++◌, length, get_or, take, Some, None, Ok, Err, Option, Result, sym, refl, ap, ◌∙◌, subst, inl, inr, arith}
use Rattle.std.proofs.lemmas.List.{append-nil, append_assoc}
use Rattle.std.proofs.lemmas.Bool.{cases_Bool, cases_eq, cond-true, cond-false, both_ways, ltb-true, ltb-false}
use Rattle.fault.specs.Told.{Told, answered, refused, nowhere}
use Rattle.fault.specs.Told.{admission as in_admission}
use Rattle.table.specs.declared.rows.HeapRow.{HeapRow}
use Rattle.table.specs.declared.rows.StaticRow.{StaticRow}
use Rattle.table.specs.Format.{Rows}
use Rattle.admission.specs.declared.task.Task.{Task}
use Rattle.admission.specs.declared.figures.Room.{Room}
use Rattle.admission.specs.declared.figures.Bounds.{Bounds}
use Rattle.admission.specs.declared.figures.Figures.{Figures}
use Rattle.admission.specs.Demand.{DoneIn, Least, no_task}
use Rattle.admission.specs.Search.{first_from, least, last_from, largest}
use Rattle.admission.specs.Admission.{done_in, timed, responses, room_for, steps_of, words_fit, handles_fit, fits, padded, scheduled, unscheduled, sized, collected, flipped, responded, weighed, figured, figures_of}
use Rattle.admission.proofs.Searching.{done_true, true_done}

answer_or : {A : Type 0} → A → Told A → A
answer_or d (answered x) = x
answer_or d (refused e) = d

answered_same : {A : Type 0} (x y : A) → answered x ≡ answered y → x ≡ y
unfolding answer_or
answered_same x y e = ap (answer_or x) e

-- The searches.

found : (test : ℕ → Bool) (n k r : ℕ) → first_from test n k ≡ Some r → (k ≤ r) × (r < k + n) × (test r ≡ true) × ((j : ℕ) → k ≤ j → j < r → test j ≡ true → ⊥)
found test zero k r e = let z : ◌≡◌ {A = ℕ} 0 1 = cc in absurd (omega arith)
found test (suc n) k r e =
    elim (cases_Bool (test k)) [
      | inl t ↦
          (let s : Some k ≡ Some r = sym (cond-true (test k) (Some k) (first_from test n (k + 1)) t) ∙ e in
          let q : k ≡ r = cc in
          (omega arith, omega arith, ap test (sym q) ∙ t, λ j l h p. omega arith))
      | inr f ↦
          (let m = found test n (k + 1) r (sym (cond-false (test k) (Some k) (first_from test n (k + 1)) f) ∙ e) in (
            omega (arith, m.0),
            omega (arith, m.1),
            m.2,
            λ j l h p. elim (cases_eq j k) [ inl q ↦ both_ways (test k) f (ap test (sym q) ∙ p) | inr d ↦ m.3 j (omega arith) h p ],
          ))
    ]

pub least_holds : (own : ℕ) (ts : List Task) (high n : ℕ) → least (done_in own ts) high ≡ Some n → Least (DoneIn own ts) high n
unfolding least
least_holds own ts high n e =
    let m = found (done_in own ts) high 1 n e in
    record {
      from = m.0;
      to = omega (arith, m.1);
      holds = done_true own ts n m.2;
      least = λ k o d. elim (cases_Bool (ltb k n)) [ inl t ↦ absurd (m.3 k o (ltb-true k n t) (true_done own ts k d)) | inr f ↦ ltb-false k n f ];
    }

pub record Largest (test : ℕ → Bool) (low high r : ℕ) : Type 0 where
  pub from : low ≤ r
  pub to : r ≤ high
  pub holds : test r ≡ true
  pub none : (j : ℕ) → r < j → j ≤ high → test j ≡ true → ⊥

lasts : (test : ℕ → Bool) (n k : ℕ) → n ≤ k → test (k - n) ≡ true → Largest test (k - n) k (last_from test n k)
lasts test zero k h t =
    let e : k - 0 ≡ k = omega arith in
    record { from = omega arith; to = omega arith; holds = ap test (sym e) ∙ t; none = λ j l u p. omega arith }
lasts test (suc n) k h t =
    elim (cases_Bool (test k)) [
      | inl y ↦
          (let e : last_from test (suc n) k ≡ k = cond-true (test k) k (last_from test n (k - 1)) y in
          subst (λ r. Largest test (k - suc n) k r) (sym e) (record { from = omega arith; to = omega arith; holds = y; none = λ j l u p. omega arith }))
      | inr f ↦
          (let e : last_from test (suc n) k ≡ last_from test n (k - 1) = cond-false (test k) k (last_from test n (k - 1)) f in
          let s : k - suc n ≡ k - 1 - n = omega arith in
          let m = lasts test n (k - 1) (omega arith) (ap test (sym s) ∙ t) in
          subst (λ r. Largest test (k - suc n) k r) (sym e)
          (record {
            from = omega (arith, m.from);
            to = omega (arith, m.to);
            holds = m.holds;
            none = λ j l u p. elim (cases_eq j k) [ inl q ↦ both_ways (test k) f (ap test (sym q) ∙ p) | inr d ↦ m.none j l (omega arith) p ];
          }))
    ]

pub largest_holds : (test : ℕ → Bool) (low high : ℕ) → low ≤ high → test low ≡ true → Largest test low high (largest test low high)
unfolding largest
largest_holds test low high h t =
    let e : high - (high - low) ≡ low = omega arith in
    subst (λ l. Largest test l high (last_from test (high - low) high)) e (lasts test (high - low) high (omega arith) (ap test e ∙ t))

-- Response times.

inv_timed : (n : ℕ) (o : Option ℕ) (rest : Result (List ℕ) ℕ) (rs : List ℕ) → timed n o rest ≡ Ok rs → (r : ℕ) × (ss : List ℕ) × (o ≡ Some r) × (rest ≡ Ok ss) × (rs ≡ r ∷ ss)
inv_timed n None rest rs e = let z : ◌≡◌ {A = ℕ} 0 1 = cc in absurd (omega arith)
inv_timed n (Some r) (Ok ss) rs e = (r, ss, refl, refl, (cc))
inv_timed n (Some r) (Err m) rs e = let z : ◌≡◌ {A = ℕ} 0 1 = cc in absurd (omega arith)

pub respond_at : (best ts : List Task) (rs : List ℕ) → responses best ts ≡ Ok rs → (i : ℕ) → i < length ts → Least (DoneIn (get_or ts i no_task).units (best ++ take i ts)) (get_or ts i no_task).deadline (get_or rs i 0)
respond_at best [] rs e i h = absurd (omega arith)
respond_at best (t ∷ ts) rs e zero h =
    let v = inv_timed t.number (least (done_in t.units best) t.deadline) (responses (best ++ t ∷ []) ts) rs e in
    let a = least_holds t.units best t.deadline v.0 v.2 in
    let b : get_or rs 0 0 ≡ v.0 = ap (λ (l : List ℕ). get_or l 0 0) v.4 in
    let P : List Task → ℕ → Type 0 = λ l r. Least (DoneIn t.units l) t.deadline r in
    subst (λ l. P l (get_or rs 0 0)) (sym (append-nil best)) (subst (P best) (sym b) a)
respond_at best (t ∷ ts) rs e (suc i) h =
    let v = inv_timed t.number (least (done_in t.units best) t.deadline) (responses (best ++ t ∷ []) ts) rs e in
    let a = respond_at (best ++ t ∷ []) ts v.1 v.3 i (omega arith) in
    let b : get_or rs (suc i) 0 ≡ get_or v.1 i 0 = ap (λ (l : List ℕ). get_or l (suc i) 0) v.4 in
    let u = get_or ts i no_task in
    let P : List Task → ℕ → Type 0 = λ l r. Least (DoneIn u.units l) u.deadline r in
    subst (λ l. P l (get_or rs (suc i) 0)) (append_assoc best (t ∷ []) (take i ts)) (subst (P ((best ++ t ∷ []) ++ take i ts)) (sym b) a)

pub length_responses : (best ts : List Task) (rs : List ℕ) → responses best ts ≡ Ok rs → length rs ≡ length ts
length_responses best [] rs e = let q : rs ≡ [] = cc in ap length q
length_responses best (t ∷ ts) rs e =
    let v = inv_timed t.number (least (done_in t.units best) t.deadline) (responses (best ++ t ∷ []) ts) rs e in
    ap length v.4 ∙ ap suc (length_responses (best ++ t ∷ []) ts v.1 v.3)

-- The bounds.

pub record Weighed (heap : HeapRow) (statics : StaticRow) (ts : List Task) (b : Bounds) : Type 0 where
  pub rs : List ℕ
  pub times : responses [] ts ≡ Ok rs
  pub tasks_are : b.tasks ≡ padded 16 unscheduled (scheduled ts rs)
  pub late : least (done_in 1 ts) 1000000 ≡ Some b.room.lateness
  pub room : b.room ≡ room_for heap statics ts b.room.lateness
  pub whole : least (done_in (steps_of b.room) ts) 1000000 ≡ Some b.span
  pub words : words_fit b.room ts b.span ≡ true
  pub handles : handles_fit b.room ts b.span ≡ true
  pub period : b.period ≡ largest (fits b.room ts) b.span 1000000

inv_sized : (ts : List Task) (rs : List ℕ) (m : Room) (q : ℕ) (b : Bounds) → sized ts rs m q ≡ answered b → (words_fit m ts q ≡ true) × (handles_fit m ts q ≡ true) × (b ≡ record { tasks = padded 16 unscheduled (scheduled ts rs); room = m; span = q; period = largest (fits m ts) q 1000000 })
unfolding sized
inv_sized ts rs m q b e =
    elim (cases_Bool (words_fit m ts q)) [
      | inr f ↦ (let d : refused (nowhere 9 in_admission) ≡ answered b = sym (cond-false (words_fit m ts q) _ _ f) ∙ e in let z : ◌≡◌ {A = ℕ} 0 1 = cc in absurd (omega arith))
      | inl w ↦
          elim (cases_Bool (handles_fit m ts q)) [
            | inr f ↦ (let d : refused (nowhere 10 in_admission) ≡ answered b = sym (cond-true (words_fit m ts q) _ _ w ∙ cond-false (handles_fit m ts q) _ _ f) ∙ e in let z : ◌≡◌ {A = ℕ} 0 1 = cc in absurd (omega arith))
            | inl o ↦
                (let full : Bounds = record { tasks = padded 16 unscheduled (scheduled ts rs); room = m; span = q; period = largest (fits m ts) q 1000000 } in
                let d : answered full ≡ answered b = sym (cond-true (words_fit m ts q) _ _ w ∙ cond-true (handles_fit m ts q) _ _ o) ∙ e in
                (w, o, answered_same b full (sym d)))
          ]
    ]

inv_collected : (ts : List Task) (rs : List ℕ) (m : Room) (o : Option ℕ) (b : Bounds) → collected ts rs m o ≡ answered b → (q : ℕ) × (o ≡ Some q) × (sized ts rs m q ≡ answered b)
unfolding collected
inv_collected ts rs m None b e = let z : ◌≡◌ {A = ℕ} 0 1 = cc in absurd (omega arith)
inv_collected ts rs m (Some q) b e = (q, refl, e)

inv_flipped : (heap : HeapRow) (statics : StaticRow) (ts : List Task) (rs : List ℕ) (o : Option ℕ) (b : Bounds) → flipped heap statics ts rs o ≡ answered b → (f : ℕ) × (o ≡ Some f) × (collected ts rs (room_for heap statics ts f) (least (done_in (steps_of (room_for heap statics ts f)) ts) 1000000) ≡ answered b)
unfolding flipped
inv_flipped heap statics ts rs None b e = let z : ◌≡◌ {A = ℕ} 0 1 = cc in absurd (omega arith)
inv_flipped heap statics ts rs (Some f) b e = (f, refl, e)

inv_responded : (heap : HeapRow) (statics : StaticRow) (kinds : ℕ) (ts : List Task) (o : Result (List ℕ) ℕ) (b : Bounds) → responded heap statics kinds ts o ≡ answered b → (rs : List ℕ) × (o ≡ Ok rs) × (flipped heap statics ts rs (least (done_in 1 ts) 1000000) ≡ answered b)
unfolding responded
inv_responded heap statics kinds ts (Err n) b e = let z : ◌≡◌ {A = ℕ} 0 1 = cc in absurd (omega arith)
inv_responded heap statics kinds ts (Ok rs) b e = (rs, refl, e)

pub inv_weighed : (heap : HeapRow) (statics : StaticRow) (kinds : ℕ) (ts : List Task) (b : Bounds) → weighed heap statics kinds ts ≡ answered b → Weighed heap statics ts b
unfolding weighed
inv_weighed heap statics kinds ts b e =
    let r = inv_responded heap statics kinds ts (responses [] ts) b e in
    let f = inv_flipped heap statics ts r.0 (least (done_in 1 ts) 1000000) b r.2 in
    let m = room_for heap statics ts f.0 in
    let w = inv_collected ts r.0 m (least (done_in (steps_of m) ts) 1000000) b f.2 in
    let s = inv_sized ts r.0 m w.0 b w.2 in
    let full : Bounds = record { tasks = padded 16 unscheduled (scheduled ts r.0); room = m; span = w.0; period = largest (fits m ts) w.0 1000000 } in
    subst (Weighed heap statics ts) (sym s.2)
    (record {
      rs = r.0;
      times = r.1;
      tasks_are = refl;
      late = f.1;
      room = refl;
      whole = w.1;
      words = s.0;
      handles = s.1;
      period = refl;
    })

pub inv_figured : (rows : Rows) (v : Told Bounds) (f : Figures) → answered f ≡ figured rows v → (b : Bounds) × (v ≡ answered b) × (f ≡ figures_of rows b)
inv_figured rows (answered b) f e = (b, refl, answered_same f (figures_of rows b) e)
inv_figured rows (refused r) f e = let z : ◌≡◌ {A = ℕ} 0 1 = cc in absurd (omega arith)
