-- One step of the collector: what it tells, the heap after it and the memory after it.
use Rattle.std.specs.Prelude.{ℕ, ◌+◌, ◌-◌, min, Bool, true, cond, ◌&&◌, ltb, List, ◌==◌, nat_le, nat_lt, slice_index, slice_set}
use Rattle.fault.specs.Told.{Refusal, Told, answered, refused}
use Rattle.heap.specs.declared.Course.{Course}
use Rattle.heap.specs.declared.Heap.{Heap}
use Rattle.heap.specs.declared.Phase.{Phase}
use Rattle.heap.specs.declared.Phase.TheVariants.{Idle, Tracing, Sweeping, Clearing}
use Rattle.heap.specs.declared.Report.{Report}
use Rattle.heap.specs.declared.Table.{Table}
use Rattle.heap.specs.Handles.{row, mark, mark_all, pop_marked, settle, sweep, aged}
use Rattle.heap.specs.Objects.{size_of, is_ref, target, measures_of, prepared}
use Rattle.heap.specs.Answers.{Ans, absent, ended, first, in_heap, ruled, judged}
use Rattle.heap.specs.Calls.{on_place, on_reference, with_table, with_cycle, taken}

pub record Stepped : Type 0 where
  pub told : Told Ans
  pub heap : Heap
  pub memory : List ℕ

-- a step that answers nothing yet
abbrev pub goes : Heap → List ℕ → Stepped
goes h m = record { told = answered absent; heap = h; memory = m }

-- a step that is refused and changes nothing
abbrev pub stays : Heap → List ℕ → Refusal → Stepped
stays h m r = record { told = refused r; heap = h; memory = m }

-- one step more is counted; the counter stops at the last number of 32 bits, far past the steps of any collection
abbrev pub one_more : ℕ → ℕ
one_more n = min (n + 1) 4294967295

abbrev pub tallied : Report → ℕ → ℕ → Report
tallied r o w = record { steps = one_more r.steps; objects = o; words = w }

-- a step is taken: the phase and the course after it, and the objects and words taken up so far
abbrev pub moved : Heap → Phase → Course → ℕ → ℕ → Heap
moved h p c o w = with_cycle h (record { phase = p; flipped = h.cycle.flipped; course = c; tally = tallied h.cycle.tally o w })

-- a step that takes nothing up
abbrev pub passed : Heap → Phase → Course → Heap
passed h p c = moved h p c h.cycle.tally.objects h.cycle.tally.words

-- with none marked, sweeping begins
abbrev pub phase_after : Table → Phase
phase_after t = cond (t.marked == 0) (Sweeping 1) Tracing

-- ---- the flip

abbrev pub turned : ℕ → Course → Course
turned space c = record { base = space - c.base; born = 0; settled = 0; mover = 0; done = 0 }

-- handles in use become old, and those in slots are marked in slot order, each once
abbrev pub flipped_table : Heap → Table
flipped_table h = mark_all (aged h.table) h.slots

-- the spaces exchange roles
abbrev pub after_flip : Heap → Heap
after_flip h =
    with_cycle (with_table h (flipped_table h))
    (record {
      phase = phase_after (flipped_table h);
      flipped = true;
      course = turned (measures_of h).limits.space h.cycle.course;
      tally = record { steps = 1; objects = 0; words = 0 };
    })

-- ---- taking up

abbrev pub starts : Course → ℕ → Course
starts c x = record { base = c.base; born = c.born; settled = c.settled; mover = x; done = 0 }

-- the size of the last marked object
abbrev pub next_size : Heap → ℕ
next_size h = size_of (measures_of h) h.table h.table.marked

-- one more object, and its words, keep the declared bounds
abbrev pub keeps_bounds : Heap → Bool
keeps_bounds h =
    nat_le (h.cycle.tally.objects + 1) (measures_of h).limits.live_objects
    && nat_le (h.cycle.tally.words + next_size h) (measures_of h).limits.live_words

abbrev pub taken_up : Heap → Heap
taken_up h =
    moved (with_table h (pop_marked h.table)) Tracing (starts h.cycle.course h.table.marked)
    (h.cycle.tally.objects + 1) (h.cycle.tally.words + next_size h)

-- 21: they would be passed
abbrev pub on_bounds : Heap → ℕ
on_bounds h = cond (keeps_bounds h) 0 21

abbrev pub take_step : Heap → List ℕ → Stepped
take_step h m = record { told = judged (on_bounds h) absent; heap = taken (on_bounds h) (taken_up h) h; memory = m }

-- ---- copying a word

abbrev pub one_copied : Course → Course
one_copied c = record { base = c.base; born = c.born; settled = c.settled; mover = c.mover; done = c.done + 1 }

-- the object has arrived: all words taken up are settled
abbrev pub arrived : Course → ℕ → Course
arrived c w = record { base = c.base; born = c.born; settled = w; mover = 0; done = 0 }

-- one more word of the object that moves is copied: after the last its handle names the copy
abbrev pub advanced : Heap → Heap
advanced h =
    let t = h.table in
    let c = h.cycle.course in
    cond (nat_lt (c.done + 1) (size_of (measures_of h) t c.mover))
    (passed h Tracing (one_copied c))
    (passed (with_table h (settle t c.mover (target c))) (phase_after t) (arrived c h.cycle.tally.words))

-- where the next word of the object that moves is read, and where it is written
abbrev pub source : Heap → ℕ
source h = (row h.table h.cycle.course.mover).place + h.cycle.course.done

abbrev pub destination : Heap → ℕ
destination h = target h.cycle.course + h.cycle.course.done

-- the handle that this word names, 0 for none and for a number
abbrev pub next_named : Heap → List ℕ → ℕ
next_named h m = cond (is_ref (measures_of h) h.table h.cycle.course.mover h.cycle.course.done) (slice_index m (source h)) 0

-- 1, 20: it is read, and judged if it is a reference
unfoldable pub on_next : Heap → List ℕ → ℕ
on_next h m = on_place m (source h) (on_reference h.table (next_named h m) 0)

-- 1: then it is written
abbrev pub on_copy : Heap → List ℕ → ℕ
on_copy h m = first (on_next h m) (on_place m (destination h) 0)

-- the place that a refusal 1 names
abbrev pub copy_place : Heap → List ℕ → ℕ
copy_place h m = cond (on_next h m == 0) (destination h) (source h)

abbrev pub copy_step : Heap → List ℕ → Stepped
copy_step h m = record {
  told = ruled (on_copy h m) (copy_place h m) absent;
  heap = taken (on_copy h m) (advanced (with_table h (mark h.table (next_named h m)))) h;
  memory = taken (on_copy h m) (slice_set m (destination h) (slice_index m (source h))) m;
}

-- ---- sweeping a handle, clearing a word

abbrev pub swept : Heap → ℕ → Heap
swept h n =
    passed (with_table h (sweep h.table n)) (cond (nat_lt n (measures_of h).limits.handles) (Sweeping (n + 1)) (Clearing 0))
    h.cycle.course

-- the place of word n of the other space
abbrev pub clear_place : Heap → ℕ → ℕ
clear_place h n = (measures_of h).limits.space - h.cycle.course.base + n

-- 1: that place is past the end of the memory
abbrev pub on_clear : Heap → List ℕ → ℕ → ℕ
on_clear h m n = on_place m (clear_place h n) 0

-- the steps of the collection with this one, and what it took up
abbrev pub closing : Report → Ans
closing r = ended (one_more r.steps) r.objects r.words

-- word n of the other space becomes 0; the last one ends the collection
abbrev pub clear_step : Heap → List ℕ → ℕ → Stepped
clear_step h m n =
    let more = ltb (n + 1) (measures_of h).limits.space in
    record {
      told = ruled (on_clear h m n) (clear_place h n) (cond more absent (closing h.cycle.tally));
      heap = taken (on_clear h m n) (passed h (cond more (Clearing (n + 1)) Idle) h.cycle.course) h;
      memory = taken (on_clear h m n) (slice_set m (clear_place h n) 0) m;
    }

-- ---- the step that the phase, the object that moves and the marked chain call for

abbrev pub step_by : Phase → ℕ → ℕ → Heap → List ℕ → Stepped
step_by Idle mover chain h m = goes (after_flip h) m
step_by Tracing mover chain h m = cond (mover == 0) (cond (chain == 0) (goes (swept h 1) m) (take_step h m)) (copy_step h m)
step_by (Sweeping n) mover chain h m = goes (swept h n) m
step_by (Clearing n) mover chain h m = clear_step h m n

abbrev pub step : Heap → List ℕ → Stepped
step h m = cond (prepared h) (step_by h.cycle.phase h.cycle.course.mover h.table.marked h m) (stays h m (in_heap 12))
