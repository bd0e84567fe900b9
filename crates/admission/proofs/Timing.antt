-- Response times, one task after the other.
use Rattle.std.proofs.Common.{◌≡◌, ℕ, zero, suc, ◌+◌, ◌<◌, ◌≤◌, List, [], ◌∷◌, ◌++◌, map, length, get_or, take, drop, Some, None, Ok, Err, Result, sym, refl, ap, ◌∙◌, append_assoc, arith}
use Rattle.std.proofs.lemmas.List.{take_more, drop_more, drop_all, append-nil}
use Rattle.admission.specs.declared.task.Task.{Task}
use Rattle.admission.specs.declared.task.Scheduled.{Scheduled}
use Rattle.admission.specs.Demand.{no_task}
use Rattle.admission.specs.Search.{least}
use Rattle.admission.specs.Admission.{done_in, responses, timed, scheduled, unscheduled}

-- times with those that follow
abbrev pub after : List ℕ → Result (List ℕ) ℕ → Result (List ℕ) ℕ
after rs (Ok ss) = Ok (rs ++ ss)
after rs (Err n) = Err n

after_timed : (rs : List ℕ) (n r : ℕ) (rest : Result (List ℕ) ℕ) → after rs (timed n (Some r) rest) ≡ after (rs ++ r ∷ []) rest
after_timed rs n r (Ok ss) = ap Ok (sym (append_assoc rs (r ∷ []) ss))
after_timed rs n r (Err m) = refl

-- the tasks from the i-th on
rest_at : (ts : List Task) (i : ℕ) → i < length ts → responses (take i ts) (drop i ts) ≡ timed (get_or ts i no_task).number (least (done_in (get_or ts i no_task).units (take i ts)) (get_or ts i no_task).deadline) (responses (take (i + 1) ts) (drop (i + 1) ts))
rest_at ts i h =
    let t = get_or ts i no_task in
    let a : responses (take i ts) (drop i ts) ≡ responses (take i ts) (t ∷ drop (i + 1) ts) = ap (responses (take i ts)) (drop_more ts i no_task h) in
    let b : responses (take i ts ++ t ∷ []) (drop (i + 1) ts) ≡ responses (take (i + 1) ts) (drop (i + 1) ts) = ap (λ (l : List Task). responses l (drop (i + 1) ts)) (sym (take_more ts i no_task h)) in
    a ∙ ap (timed t.number (least (done_in t.units (take i ts)) t.deadline)) b

-- one more task has its time
pub time_more : (ts : List Task) (rs : List ℕ) (i r : ℕ) → i < length ts → Some r ≡ least (done_in (get_or ts i no_task).units (take i ts)) (get_or ts i no_task).deadline → after rs (responses (take i ts) (drop i ts)) ≡ responses [] ts → after (rs ++ r ∷ []) (responses (take (i + 1) ts) (drop (i + 1) ts)) ≡ responses [] ts
time_more ts rs i r h e inv =
    let n = (get_or ts i no_task).number in
    let rest = responses (take (i + 1) ts) (drop (i + 1) ts) in
    let a = rest_at ts i h in
    let b : timed n (least (done_in (get_or ts i no_task).units (take i ts)) (get_or ts i no_task).deadline) rest ≡ timed n (Some r) rest = ap (λ o. timed n o rest) (sym e) in
    let d : after rs (responses (take i ts) (drop i ts)) ≡ after (rs ++ r ∷ []) rest = ap (after rs) (a ∙ b) ∙ after_timed rs n r rest in
    sym d ∙ inv

-- a task has none
pub time_none : (ts : List Task) (rs : List ℕ) (i : ℕ) → i < length ts → None ≡ least (done_in (get_or ts i no_task).units (take i ts)) (get_or ts i no_task).deadline → after rs (responses (take i ts) (drop i ts)) ≡ responses [] ts → Err (get_or ts i no_task).number ≡ responses [] ts
time_none ts rs i h e inv =
    let n = (get_or ts i no_task).number in
    let rest = responses (take (i + 1) ts) (drop (i + 1) ts) in
    let a = rest_at ts i h in
    let b : timed n (least (done_in (get_or ts i no_task).units (take i ts)) (get_or ts i no_task).deadline) rest ≡ Err n = ap (λ o. timed n o rest) (sym e) in
    sym (ap (after rs) (a ∙ b)) ∙ inv

-- all have theirs
pub time_all : (ts : List Task) (rs : List ℕ) (i : ℕ) → length ts ≤ i → after rs (responses (take i ts) (drop i ts)) ≡ responses [] ts → responses [] ts ≡ Ok rs
time_all ts rs i h inv =
    let a : responses (take i ts) (drop i ts) ≡ Ok [] = ap (responses (take i ts)) (drop_all i ts h) in
    sym inv ∙ ap (after rs) a ∙ ap Ok (append-nil rs)

-- Tasks with their times.

pub length_scheduled : (ts : List Task) (rs : List ℕ) → length rs ≡ length ts → length (scheduled ts rs) ≡ length ts
length_scheduled [] rs e = refl
length_scheduled (t ∷ ts) [] e = absurd (omega arith)
length_scheduled (t ∷ ts) (r ∷ rs) e = ap suc (length_scheduled ts rs (omega arith))

pub scheduled_at : (ts : List Task) (rs : List ℕ) (i : ℕ) → length rs ≡ length ts → i < length ts → get_or (scheduled ts rs) i unscheduled ≡ record { task = get_or ts i no_task; response = get_or rs i 0 }
scheduled_at [] rs i e h = absurd (omega arith)
scheduled_at (t ∷ ts) [] i e h = absurd (omega arith)
scheduled_at (t ∷ ts) (r ∷ rs) zero e h = refl
scheduled_at (t ∷ ts) (r ∷ rs) (suc i) e h = scheduled_at ts rs i (omega arith) (omega arith)

pub scheduled_tasks : (ts : List Task) (rs : List ℕ) → length rs ≡ length ts → map (λ s. s.task) (scheduled ts rs) ≡ ts
scheduled_tasks [] rs e = refl
scheduled_tasks (t ∷ ts) [] e = absurd (omega arith)
scheduled_tasks (t ∷ ts) (r ∷ rs) e = ap (λ l. t ∷ l) (scheduled_tasks ts rs (omega arith))

pub scheduled_from : (xs : List Scheduled) → scheduled (map (λ s. s.task) xs) (map (λ s. s.response) xs) ≡ xs
scheduled_from [] = refl
scheduled_from (x ∷ xs) = ap (λ l. x ∷ l) (scheduled_from xs)
