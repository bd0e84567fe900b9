-- Plans of tables, from what their searches find.
use Rattle.std.proofs.Common.{◌≡◌, ℕ, zero, suc, ◌+◌, ◌≤◌, Bool, true, false, cond, List, [], length, Some, Ok, sym, refl, ap, ◌∙◌, subst, inr, arith}
use Rattle.std.proofs.lemmas.Bool.{both_ways}
use Rattle.fault.specs.Told.{Told, answered}
use Rattle.table.specs.Format.{Rows}
use Rattle.table.specs.Limits.{Limits}
use Rattle.admission.specs.declared.task.Task.{Task}
use Rattle.admission.specs.declared.figures.Bounds.{Bounds}
use Rattle.admission.specs.Ranks.{ranked}
use Rattle.admission.specs.Search.{first_from, least, largest}
use Rattle.admission.specs.Admission.{admission, weighed, figured, figures_of, responses, done_in, room_for, steps_of, words_fit, handles_fit, fits, padded, scheduled, unscheduled}
use Rattle.admission.proofs.Plans.{weighed_part}
use Rattle.admission.proofs.Ranking.{few_ranked}
use Rattle.admission.proofs.Rising.{EachSized}
use Rattle.admission.proofs.Rows.{tabled}
use Rattle.admission.proofs.Searching.{largest_is, fits_fall}
use Rattle.admission.proofs.Verdicts.{says_plan}
use Rattle.worked_examples.specs.Tables.{Plans, table}

-- what is found among fewer numbers is found among more
found_more : (test : ℕ → Bool) (m n k q : ℕ) → m ≤ n → Some q ≡ first_from test m k → Some q ≡ first_from test n k
found_more test zero n k q h e = cc
found_more test (suc m) zero k q h e = absurd (omega arith)
found_more test (suc m) (suc n) k q h e =
    elim (test k) as (λ b. Some q ≡ cond b (Some k) (first_from test m (k + 1)) → Some q ≡ cond b (Some k) (first_from test n (k + 1))) [
      | true ↦ λ s. s
      | false ↦ λ s. found_more test m n (k + 1) q (omega arith) s
    ] e

-- so a search that would go far is done within few steps
pub found : (test : ℕ → Bool) (q : ℕ) → q ≤ 1000000 → Some q ≡ least test q → Some q ≡ least test 1000000
unfolding least
found test q h e = found_more test q 1000000 1 q h e

-- a table of two tasks keeps the limits
pub limits : (s n c d : ℕ) → 1 ≤ s → s ≤ 8192 → 1 ≤ n → n ≤ 256 → 1 ≤ c → c ≤ 50 → 1 ≤ d → d ≤ 100 → Limits (table s n c d)
limits s n c d s1 s2 n1 n2 c1 c2 d1 d2 =
    record {
      heap = record { space = (s1, s2); handles = (n1, n2) };
      statics = record { words = omega arith; objects = omega arith };
      kinds = (record { size = (omega arith, omega arith); map = omega arith }, tt);
      tasks = (
        record {
          period = (omega arith, omega arith);
          deadline = (omega arith, omega arith);
          units = (c1, c2);
          words = omega arith;
          objects = omega arith;
          life = omega arith;
          consumer = omega arith;
          either = inr (omega arith, refl);
        },
        (
          record {
            period = (omega arith, omega arith);
            deadline = (omega arith, omega arith);
            units = (d1, d2);
            words = omega arith;
            objects = omega arith;
            life = omega arith;
            consumer = omega arith;
            either = inr (omega arith, refl);
          },
          tt,
        ),
      );
      kind_count = (omega arith, omega arith);
      task_count = (omega arith, omega arith);
      consumers = ((omega arith, λ e. omega arith), ((omega arith, λ e. omega arith), tt));
    }

module _ (rows : Rows) (ts : List Task) (is : ranked rows.tasks ≡ ts) where
  -- the bounds of the tasks say what admission does
  pub refuses : (v : Told _) → weighed rows.heap rows.statics (length rows.kinds) ts ≡ v → admission rows ≡ figured rows v
  refuses v e =
      sym (weighed_part rows ts (weighed rows.heap rows.statics (length rows.kinds) ts) (sym is) refl)
      ∙ ap (figured rows) e

  pub admits :
      (rs : List ℕ) (f q p : ℕ)
      → Limits rows
      → responses [] ts ≡ Ok rs
      → Some f ≡ least (done_in 1 ts) 1000000
      → Some q ≡ least (done_in (steps_of (room_for rows.heap rows.statics ts f)) ts) 1000000
      → true ≡ words_fit (room_for rows.heap rows.statics ts f) ts q
      → true ≡ handles_fit (room_for rows.heap rows.statics ts f) ts q
      → q ≤ p
      → p ≤ 1000000
      → fits (room_for rows.heap rows.statics ts f) ts p ≡ true
      → fits (room_for rows.heap rows.statics ts f) ts (p + 1) ≡ false
      → admission rows ≡ answered (figures_of rows (record { tasks = padded 16 unscheduled (scheduled ts rs); room = room_for rows.heap rows.statics ts f; span = q; period = p }))
  admits rs f q p l times late whole w h from to yes_p no_p =
      let m = room_for rows.heap rows.statics ts f in
      let sized = subst EachSized is (few_ranked rows.tasks (tabled rows l)).1 in
      let e : p ≡ largest (fits m ts) q 1000000 = largest_is (fits m ts) q 1000000 p from to yes_p (λ j i u t. both_ways (fits m ts (p + 1)) no_p (fits_fall m ts (p + 1) j sized (omega arith) t)) in
      let v = says_plan rows.heap rows.statics (length rows.kinds) ts rs f m times late refl q whole w h in
      let with : ℕ → Bounds = λ n. record { tasks = padded 16 unscheduled (scheduled ts rs); room = m; span = q; period = n } in
      refuses (answered (with p)) (v ∙ ap (λ n. answered (with n)) (sym e))

  pub plans :
      (rs : List ℕ) (f q p : ℕ)
      → Limits rows
      → responses [] ts ≡ Ok rs
      → Some f ≡ least (done_in 1 ts) 1000000
      → Some q ≡ least (done_in (steps_of (room_for rows.heap rows.statics ts f)) ts) 1000000
      → true ≡ words_fit (room_for rows.heap rows.statics ts f) ts q
      → true ≡ handles_fit (room_for rows.heap rows.statics ts f) ts q
      → q ≤ p
      → p ≤ 1000000
      → fits (room_for rows.heap rows.statics ts f) ts p ≡ true
      → fits (room_for rows.heap rows.statics ts f) ts (p + 1) ≡ false
      → Plans rows p f (steps_of (room_for rows.heap rows.statics ts f)) q
  plans rs f q p l times late whole w h from to yes_p no_p =
      record {
        figures = figures_of rows (record { tasks = padded 16 unscheduled (scheduled ts rs); room = room_for rows.heap rows.statics ts f; span = q; period = p });
        admitted = admits rs f q p l times late whole w h from to yes_p no_p;
        period = refl;
        lateness = refl;
        steps = refl;
        span = refl;
      }
