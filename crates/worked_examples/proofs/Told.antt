-- The tables worked out by hand.
use Rattle.std.proofs.Common.{◌≡◌, ℕ, zero, suc, ◌<◌, ◌≤◌, List, [], ◌∷◌, Some, Ok, sym, refl, ◌∙◌, subst, arith}
use Rattle.std.specs.Fmt.{digits}
use Rattle.fault.specs.Told.{answered, refused, nowhere}
use Rattle.fault.specs.Told.{admission as in_admission}
use Rattle.table.specs.Format.{render, field}
use Rattle.table.specs.Checking.{check}
use Rattle.table.proofs.Complete.{check_complete}
use Rattle.table.proofs.Sound.{answer_same}
use Rattle.admission.specs.declared.task.Task as plans_task
use Rattle.admission.specs.declared.figures.Figures.{Figures}
use Rattle.admission.specs.Ranks.{ranked}
use Rattle.admission.specs.Search.{least}
use Rattle.admission.specs.Admission.{admission, misses_deadline, room_for, figures_of, padded, scheduled, unscheduled, done_in, responses}
use Rattle.admission.proofs.Rounding.{up_covers}
use Rattle.admission.proofs.Searching.{none_is}
use Rattle.admission.proofs.Verdicts.{says_7, says_8_flip, says_9, says_10}
use Rattle.std.specs.List.{ContainsAt as Has}
use Rattle.queue.specs.declared.entries.Source.TheVariants.{Task, Collector}
use Rattle.releases.specs.Releases.{period_at, FirstReleases, nth}
use Rattle.releases.proofs.Forecasts.{Good, good_start, good_step, good_end}
use Rattle.worked_examples.specs.Tables.{Plans, Tables, table, text, release, releases}
use Rattle.worked_examples.proofs.Worked.{found, limits, refuses, admits, plans}

-- the tasks in rank order
abbrev tasks : ℕ → ℕ → List plans_task.Task
tasks c d =
    record { number = 1; period = 50; deadline = 50; units = c; words = 2; objects = 1; life = 1; consumer = 0 }
    ∷ record { number = 2; period = 100; deadline = 100; units = d; words = 4; objects = 2; life = 1; consumer = 0 }
    ∷ []

ranks : (s n c d : ℕ) → ranked (table s n c d).tasks ≡ tasks c d
unfolding ranked
ranks s n c d = refl

times : responses [] (tasks 5 20) ≡ Ok (5 ∷ 25 ∷ [])
unfolding least
times = refl

-- how late a flip can be, and the stretches that hold collections of so many steps

flip : Some 26 ≡ least (done_in 1 (tasks 5 20)) 26
unfolding least
flip = refl

late : Some 26 ≡ least (done_in 1 (tasks 5 20)) 1000000
late = found (done_in 1 (tasks 5 20)) 26 (omega arith) flip

whole : (k q : ℕ) → q ≤ 1000000 → Some q ≡ least (done_in k (tasks 5 20)) q → Some q ≡ least (done_in k (tasks 5 20)) 1000000
whole k q h e = found (done_in k (tasks 5 20)) q h e

steps_120 : Some 180 ≡ least (done_in 120 (tasks 5 20)) 180
unfolding least
steps_120 = refl

plan : Plans (table 64 40 5 20) 374 26 120 180
plan = plans (table 64 40 5 20) (tasks 5 20) (ranks 64 40 5 20) (5 ∷ 25 ∷ []) 26 180 374 (limits 64 40 5 20 (omega arith) (omega arith) (omega arith) (omega arith) (omega arith) (omega arith) (omega arith) (omega arith)) times late (whole 120 180 (omega arith) steps_120) refl refl (omega arith) (omega arith) refl refl

steps_101 : Some 161 ≡ least (done_in 101 (tasks 5 20)) 161
unfolding least
steps_101 = refl

handles_21 : Plans (table 64 21 5 20) 174 26 101 161
handles_21 = plans (table 64 21 5 20) (tasks 5 20) (ranks 64 21 5 20) (5 ∷ 25 ∷ []) 26 161 174 (limits 64 21 5 20 (omega arith) (omega arith) (omega arith) (omega arith) (omega arith) (omega arith) (omega arith) (omega arith)) times late (whole 101 161 (omega arith) steps_101) refl refl (omega arith) (omega arith) refl refl

steps_82 : Some 137 ≡ least (done_in 82 (tasks 5 20)) 137
unfolding least
steps_82 = refl

words_26 : Plans (table 26 40 5 20) 174 26 82 137
words_26 = plans (table 26 40 5 20) (tasks 5 20) (ranks 26 40 5 20) (5 ∷ 25 ∷ []) 26 137 174 (limits 26 40 5 20 (omega arith) (omega arith) (omega arith) (omega arith) (omega arith) (omega arith) (omega arith) (omega arith)) times late (whole 82 137 (omega arith) steps_82) refl refl (omega arith) (omega arith) refl refl

steps_100 : Some 160 ≡ least (done_in 100 (tasks 5 20)) 160
unfolding least
steps_100 = refl

handles_20 : admission (table 64 20 5 20) ≡ refused (nowhere 10 in_admission)
handles_20 =
    let t = table 64 20 5 20 in
    refuses t (tasks 5 20) (ranks 64 20 5 20) (refused (nowhere 10 in_admission))
    (says_10 t.heap t.statics 1 (tasks 5 20) (5 ∷ 25 ∷ []) 26 (room_for t.heap t.statics (tasks 5 20) 26) times late refl 160 (whole 100 160 (omega arith) steps_100) refl refl)

steps_81 : Some 136 ≡ least (done_in 81 (tasks 5 20)) 136
unfolding least
steps_81 = refl

words_25 : admission (table 25 40 5 20) ≡ refused (nowhere 9 in_admission)
words_25 =
    let t = table 25 40 5 20 in
    refuses t (tasks 5 20) (ranks 25 40 5 20) (refused (nowhere 9 in_admission))
    (says_9 t.heap t.statics 1 (tasks 5 20) (5 ∷ 25 ∷ []) 26 (room_for t.heap t.statics (tasks 5 20) 26) times late refl 136 (whole 81 136 (omega arith) steps_81) refl)

units_41 : admission (table 64 40 30 41) ≡ refused (misses_deadline 5)
unfolding least
units_41 =
    let t = table 64 40 30 41 in
    refuses t (tasks 30 41) (ranks 64 40 30 41) (refused (misses_deadline 5)) (says_7 t.heap t.statics 1 (tasks 30 41) 2 refl)

-- the tasks take all the time: no stretch is long enough
units_40 : admission (table 64 40 30 40) ≡ refused (nowhere 8 in_admission)
unfolding least
units_40 =
    let t = table 64 40 30 40 in
    refuses t (tasks 30 40) (ranks 64 40 30 40) (refused (nowhere 8 in_admission))
    (says_8_flip t.heap t.statics 1 (tasks 30 40) (30 ∷ 100 ∷ []) refl (none_is 1 (tasks 30 40) 1000000 (λ k one le done. omega (arith, done, up_covers k 50 (omega arith), up_covers k 100 (omega arith)))))

read : check text 32 16 ≡ answered (table 64 40 5 20)
unfolding render field digits
read =
    check_complete text 32 16 (table 64 40 5 20)
    (record {
      text_is = refl;
      limits = limits 64 40 5 20 (omega arith) (omega arith) (omega arith) (omega arith) (omega arith) (omega arith) (omega arith) (omega arith);
      kind_room = omega arith;
      task_room = omega arith;
    })

-- The releases, one after the other: each step lists the first that waits, and the next of its source waits in its place.

abbrev plan_figures : Figures
plan_figures =
    figures_of (table 64 40 5 20)
    (record {
      tasks = padded 16 unscheduled (scheduled (tasks 5 20) (5 ∷ 25 ∷ []));
      room = room_for (table 64 40 5 20).heap (table 64 40 5 20).statics (tasks 5 20) 26;
      span = 180;
      period = 374;
    })

some : (i : ℕ) → i ≤ 2 → 1 ≤ period_at plan_figures i
some zero h = omega arith
some (suc zero) h = omega arith
some (suc (suc zero)) h = omega arith
some (suc (suc (suc i))) h = absurd (omega arith)

firsts_has : (i : ℕ) → i < 3 → Has (release 0 0 (Task 1) ∷ release 0 1 (Task 2) ∷ release 0 2 Collector ∷ []) (nth plan_figures i 0)
firsts_has zero h = (0, omega arith, λ d. refl)
firsts_has (suc zero) h = (1, omega arith, λ d. refl)
firsts_has (suc (suc zero)) h = (2, omega arith, λ d. refl)
firsts_has (suc (suc (suc i))) h = absurd (omega arith)

start : Good plan_figures some [] (release 0 0 (Task 1) ∷ release 0 1 (Task 2) ∷ release 0 2 Collector ∷ [])
start =
    good_start plan_figures some (release 0 0 (Task 1) ∷ release 0 1 (Task 2) ∷ release 0 2 Collector ∷ [])
    (record {
      order = ((refl, (refl, tt)), ((refl, tt), (tt, tt)));
      each = ((0, omega arith, refl), ((1, omega arith, refl), ((2, omega arith, refl), tt)));
      has = firsts_has;
    })

s1 : Good plan_figures some (release 0 0 (Task 1) ∷ []) (release 0 1 (Task 2) ∷ release 0 2 Collector ∷ release 50 0 (Task 1) ∷ [])
s1 = good_step plan_figures some ([]) (release 0 1 (Task 2) ∷ release 0 2 Collector ∷ []) (release 0 0 (Task 1)) start

s2 : Good plan_figures some (release 0 0 (Task 1) ∷ release 0 1 (Task 2) ∷ []) (release 0 2 Collector ∷ release 50 0 (Task 1) ∷ release 100 1 (Task 2) ∷ [])
s2 = good_step plan_figures some (release 0 0 (Task 1) ∷ []) (release 0 2 Collector ∷ release 50 0 (Task 1) ∷ []) (release 0 1 (Task 2)) s1

s3 : Good plan_figures some (release 0 0 (Task 1) ∷ release 0 1 (Task 2) ∷ release 0 2 Collector ∷ []) (release 50 0 (Task 1) ∷ release 100 1 (Task 2) ∷ release 374 2 Collector ∷ [])
s3 = good_step plan_figures some (release 0 0 (Task 1) ∷ release 0 1 (Task 2) ∷ []) (release 50 0 (Task 1) ∷ release 100 1 (Task 2) ∷ []) (release 0 2 Collector) s2

s4 : Good plan_figures some (release 0 0 (Task 1) ∷ release 0 1 (Task 2) ∷ release 0 2 Collector ∷ release 50 0 (Task 1) ∷ []) (release 100 0 (Task 1) ∷ release 100 1 (Task 2) ∷ release 374 2 Collector ∷ [])
s4 = good_step plan_figures some (release 0 0 (Task 1) ∷ release 0 1 (Task 2) ∷ release 0 2 Collector ∷ []) (release 100 1 (Task 2) ∷ release 374 2 Collector ∷ []) (release 50 0 (Task 1)) s3

s5 : Good plan_figures some (release 0 0 (Task 1) ∷ release 0 1 (Task 2) ∷ release 0 2 Collector ∷ release 50 0 (Task 1) ∷ release 100 0 (Task 1) ∷ []) (release 100 1 (Task 2) ∷ release 150 0 (Task 1) ∷ release 374 2 Collector ∷ [])
s5 = good_step plan_figures some (release 0 0 (Task 1) ∷ release 0 1 (Task 2) ∷ release 0 2 Collector ∷ release 50 0 (Task 1) ∷ []) (release 100 1 (Task 2) ∷ release 374 2 Collector ∷ []) (release 100 0 (Task 1)) s4

s6 : Good plan_figures some (release 0 0 (Task 1) ∷ release 0 1 (Task 2) ∷ release 0 2 Collector ∷ release 50 0 (Task 1) ∷ release 100 0 (Task 1) ∷ release 100 1 (Task 2) ∷ []) (release 150 0 (Task 1) ∷ release 200 1 (Task 2) ∷ release 374 2 Collector ∷ [])
s6 = good_step plan_figures some (release 0 0 (Task 1) ∷ release 0 1 (Task 2) ∷ release 0 2 Collector ∷ release 50 0 (Task 1) ∷ release 100 0 (Task 1) ∷ []) (release 150 0 (Task 1) ∷ release 374 2 Collector ∷ []) (release 100 1 (Task 2)) s5

s7 : Good plan_figures some (release 0 0 (Task 1) ∷ release 0 1 (Task 2) ∷ release 0 2 Collector ∷ release 50 0 (Task 1) ∷ release 100 0 (Task 1) ∷ release 100 1 (Task 2) ∷ release 150 0 (Task 1) ∷ []) (release 200 0 (Task 1) ∷ release 200 1 (Task 2) ∷ release 374 2 Collector ∷ [])
s7 = good_step plan_figures some (release 0 0 (Task 1) ∷ release 0 1 (Task 2) ∷ release 0 2 Collector ∷ release 50 0 (Task 1) ∷ release 100 0 (Task 1) ∷ release 100 1 (Task 2) ∷ []) (release 200 1 (Task 2) ∷ release 374 2 Collector ∷ []) (release 150 0 (Task 1)) s6

s8 : Good plan_figures some (release 0 0 (Task 1) ∷ release 0 1 (Task 2) ∷ release 0 2 Collector ∷ release 50 0 (Task 1) ∷ release 100 0 (Task 1) ∷ release 100 1 (Task 2) ∷ release 150 0 (Task 1) ∷ release 200 0 (Task 1) ∷ []) (release 200 1 (Task 2) ∷ release 250 0 (Task 1) ∷ release 374 2 Collector ∷ [])
s8 = good_step plan_figures some (release 0 0 (Task 1) ∷ release 0 1 (Task 2) ∷ release 0 2 Collector ∷ release 50 0 (Task 1) ∷ release 100 0 (Task 1) ∷ release 100 1 (Task 2) ∷ release 150 0 (Task 1) ∷ []) (release 200 1 (Task 2) ∷ release 374 2 Collector ∷ []) (release 200 0 (Task 1)) s7

pub first : (f : Figures) → admission (table 64 40 5 20) ≡ answered f → FirstReleases f 8 releases
first f e =
    let plan_is : admission (table 64 40 5 20) ≡ answered plan_figures = admits (table 64 40 5 20) (tasks 5 20) (ranks 64 40 5 20) (5 ∷ 25 ∷ []) 26 180 374 (limits 64 40 5 20 (omega arith) (omega arith) (omega arith) (omega arith) (omega arith) (omega arith) (omega arith) (omega arith)) times late (whole 120 180 (omega arith) steps_120) refl refl (omega arith) (omega arith) refl refl in
    let same : plan_figures ≡ f = answer_same plan_figures f (sym plan_is ∙ e) in
    subst (λ g. FirstReleases g 8 releases) same (good_end plan_figures some 8 releases _ refl s8)

pub tables : Tables
tables =
    record {
      read = read;
      plan = plan;
      first = first;
      handles_20 = handles_20;
      handles_21 = handles_21;
      words_25 = words_25;
      words_26 = words_26;
      units_41 = units_41;
      units_40 = units_40;
    }
