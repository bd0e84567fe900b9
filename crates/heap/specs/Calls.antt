-- The nine calls. Checks and answers are read off a view, which heap and object graph both have.
use Rattle.std.specs.Prelude.{ℕ, ◌+◌, ◌-◌, Bool, true, false, cond, List, length, ◌==◌, nat_le, nat_lt, slice_index, slice_set}
use Rattle.std.specs.Bool.{beq}
use Rattle.fault.specs.Told.{Told}
use Rattle.heap.specs.declared.Call.{Call}
use Rattle.heap.specs.declared.Call.TheVariants.{New, Copy, Drop, Fetch, Put, Read, Write, Same, Kind}
use Rattle.heap.specs.declared.Course.{Course}
use Rattle.heap.specs.declared.Cycle.{Cycle}
use Rattle.heap.specs.declared.Heap.{Heap}
use Rattle.heap.specs.declared.Measures.{Measures}
use Rattle.heap.specs.declared.Phase.{Phase}
use Rattle.heap.specs.declared.Phase.TheVariants.{Idle, Tracing, Sweeping, Clearing}
use Rattle.heap.specs.declared.Table.{Table}
use Rattle.heap.specs.Handles.{row, stray, mark, pop_spare}
use Rattle.heap.specs.Objects.{View, view, word_of, is_kind, size_in, loc, measures_of, prepared}
use Rattle.heap.specs.Answers.{Ans, ok, absent, num, says, first, ruled, judged}

-- ---- what heap and graph check and answer alike

-- 13: slots are numbered below 192
abbrev pub on_slot : ℕ → ℕ → ℕ
on_slot s more = cond (nat_lt s 192) more 13

-- 14, 15, 16: word j of object x is wanted, as a reference or as a number
unfoldable pub on_object : View → ℕ → ℕ → Bool → ℕ
on_object v x j b = cond (x == 0) 14 (cond (nat_lt j (v.size x)) (cond (beq (v.is_reference x j) b) 0 16) 15)

abbrev pub on_word : View → ℕ → ℕ → Bool → ℕ
on_word v s j b = on_object v (v.slot s) j b

-- the number that refuses a call, 0 for none
abbrev pub check : Measures → View → Call → ℕ
check a v (New s k) = on_slot s (cond (is_kind a k) 0 17)
check a v (Copy s t) = on_slot s (on_slot t 0)
check a v (Drop s) = on_slot s 0
check a v (Fetch s j t) = on_slot s (on_slot t (on_word v s j true))
check a v (Put s j t) = on_slot s (on_slot t (on_word v s j true))
check a v (Read s j) = on_slot s (on_word v s j false)
check a v (Write s j n) = on_slot s (on_word v s j false)
check a v (Same s t) = on_slot s (on_slot t 0)
check a v (Kind s) = on_slot s 0

-- what a call answers; w shows the words of the objects
abbrev pub answer : View → (ℕ → ℕ → ℕ) → Call → Ans
answer v w (New s k) = ok
answer v w (Copy s t) = ok
answer v w (Drop s) = ok
answer v w (Fetch s j t) = ok
answer v w (Put s j t) = ok
answer v w (Read s j) = num (w (v.slot s) j)
answer v w (Write s j n) = ok
answer v w (Same s t) = says (v.slot s == v.slot t)
answer v w (Kind s) = cond (v.slot s == 0) absent (num (v.kind (v.slot s)))

-- ---- what only the heap refuses

abbrev pub is_tracing : Phase → Bool
is_tracing Idle = false
is_tracing Tracing = true
is_tracing (Sweeping n) = false
is_tracing (Clearing n) = false

-- the words that may be born between two flips
abbrev pub birth_limit : Heap → ℕ
birth_limit h = cond h.cycle.flipped ((measures_of h).limits.space - (measures_of h).limits.live_words) (measures_of h).limits.space

-- 18, 19: an object of n words has no room, or no handle
abbrev pub on_room : Heap → ℕ → ℕ
on_room h n = cond (nat_le (h.cycle.course.born + n) (birth_limit h)) (cond (h.table.spare == 0) 19 0) 18

-- 12 comes first
abbrev pub on_heap : Heap → ℕ → ℕ
on_heap h more = cond (prepared h) more 12

-- the first refusal before the memory is looked at, 0 for none
abbrev pub barred : Heap → Call → ℕ
barred h (New s k) = on_heap h (first (check (measures_of h) (view h) (New s k)) (on_room h (size_in (measures_of h) k)))
barred h (Copy s t) = on_heap h (check (measures_of h) (view h) (Copy s t))
barred h (Drop s) = on_heap h (check (measures_of h) (view h) (Drop s))
barred h (Fetch s j t) = on_heap h (check (measures_of h) (view h) (Fetch s j t))
barred h (Put s j t) = on_heap h (check (measures_of h) (view h) (Put s j t))
barred h (Read s j) = on_heap h (check (measures_of h) (view h) (Read s j))
barred h (Write s j n) = on_heap h (check (measures_of h) (view h) (Write s j n))
barred h (Same s t) = on_heap h (check (measures_of h) (view h) (Same s t))
barred h (Kind s) = on_heap h (check (measures_of h) (view h) (Kind s))

-- what slot s holds
abbrev pub held : Heap → ℕ → ℕ
held h s = slice_index h.slots s

-- the kind of what slot s holds
abbrev pub kind_held : Heap → ℕ → Ans
kind_held h s = cond (held h s == 0) absent (num (row h.table (held h s)).kind)

-- the place of word j of what slot s holds, and the word that stands there
abbrev pub spot : Heap → ℕ → ℕ → ℕ
spot h s j = loc h.table h.cycle.course (held h s) j

abbrev pub found : Heap → List ℕ → ℕ → ℕ → ℕ
found h m s j = word_of h m (held h s) j

-- 1: a place is past the end of the memory
abbrev pub on_place : List ℕ → ℕ → ℕ → ℕ
on_place m p more = cond (nat_lt p (length m)) more 1

-- 20: a reference names no handle in use
abbrev pub on_reference : Table → ℕ → ℕ → ℕ
on_reference t x more = cond (stray t x) 20 more

-- 1, 20: the reference at a place is read
unfoldable pub on_reading : Table → List ℕ → ℕ → ℕ
on_reading t m p = on_place m p (on_reference t (slice_index m p) 0)

-- the reference at a place is overwritten: while the collector traces it is read first
abbrev pub on_overwriting : Heap → List ℕ → ℕ → ℕ
on_overwriting h m p = cond (is_tracing h.cycle.phase) (on_reading h.table m p) (on_place m p 0)

-- the first refusal of a call over a memory, 0 for none
abbrev pub verdict : Heap → List ℕ → Call → ℕ
verdict h m (New s k) = barred h (New s k)
verdict h m (Copy s t) = barred h (Copy s t)
verdict h m (Drop s) = barred h (Drop s)
verdict h m (Fetch s j t) = first (barred h (Fetch s j t)) (on_reading h.table m (spot h s j))
verdict h m (Put s j t) = first (barred h (Put s j t)) (on_overwriting h m (spot h s j))
verdict h m (Read s j) = first (barred h (Read s j)) (on_place m (spot h s j) 0)
verdict h m (Write s j n) = first (barred h (Write s j n)) (on_place m (spot h s j) 0)
verdict h m (Same s t) = barred h (Same s t)
verdict h m (Kind s) = barred h (Kind s)

-- ---- what a call does, where nothing refuses it

abbrev pub with_table : Heap → Table → Heap
with_table h t = record { measures = h.measures; table = t; slots = h.slots; cycle = h.cycle }

abbrev pub with_cycle : Heap → Cycle → Heap
with_cycle h y = record { measures = h.measures; table = h.table; slots = h.slots; cycle = y }

abbrev pub with_slot : Heap → ℕ → ℕ → Heap
with_slot h s x = record { measures = h.measures; table = h.table; slots = slice_set h.slots s x; cycle = h.cycle }

abbrev pub with_course : Cycle → Course → Cycle
with_course y c = record { phase = y.phase; flipped = y.flipped; course = c; tally = y.tally }

-- n more words are born
abbrev pub more_born : Course → ℕ → Course
more_born c n = record { base = c.base; born = c.born + n; settled = c.settled; mover = c.mover; done = c.done }

-- objects are born downward from the top of the current space
abbrev pub birthplace : Heap → ℕ → ℕ
birthplace h n = h.cycle.course.base + (measures_of h).limits.space - (h.cycle.course.born + n)

-- slot s takes a fresh object of kind k, of n words
abbrev pub birth : Heap → ℕ → ℕ → ℕ → Heap
birth h s k n =
    with_slot
    (with_cycle (with_table h (pop_spare h.table k (birthplace h n))) (with_course h.cycle (more_born h.cycle.course n)))
    s h.table.spare

-- the handle that put overwrites is marked, while the collector traces
abbrev pub guarded : Heap → ℕ → Heap
guarded h x = cond (is_tracing h.cycle.phase) (with_table h (mark h.table x)) h

-- one value where the call is taken, another where it is refused
abbrev pub taken : {A : Type 0} → ℕ → A → A → A
taken n x y = cond (n == 0) x y

abbrev pub heap_after : Heap → List ℕ → Call → Heap
heap_after h m (New s k) = taken (barred h (New s k)) (birth h s k (size_in (measures_of h) k)) h
heap_after h m (Copy s t) = taken (barred h (Copy s t)) (with_slot h t (held h s)) h
heap_after h m (Drop s) = taken (barred h (Drop s)) (with_slot h s 0) h
heap_after h m (Fetch s j t) = taken (verdict h m (Fetch s j t)) (with_slot h t (found h m s j)) h
heap_after h m (Put s j t) = taken (verdict h m (Put s j t)) (guarded h (found h m s j)) h
heap_after h m (Read s j) = h
heap_after h m (Write s j n) = h
heap_after h m (Same s t) = h
heap_after h m (Kind s) = h

abbrev pub memory_after : Heap → List ℕ → Call → List ℕ
memory_after h m (New s k) = m
memory_after h m (Copy s t) = m
memory_after h m (Drop s) = m
memory_after h m (Fetch s j t) = m
memory_after h m (Put s j t) = taken (verdict h m (Put s j t)) (slice_set m (spot h s j) (held h t)) m
memory_after h m (Read s j) = m
memory_after h m (Write s j n) = taken (verdict h m (Write s j n)) (slice_set m (spot h s j) n) m
memory_after h m (Same s t) = m
memory_after h m (Kind s) = m

-- what a call answers over a memory
abbrev pub answers : Heap → List ℕ → Call → Ans
answers h m k = answer (view h) (word_of h m) k

-- what a call tells
abbrev pub telling : Heap → List ℕ → Call → Told Ans
telling h m (New s k) = judged (barred h (New s k)) (answers h m (New s k))
telling h m (Copy s t) = judged (barred h (Copy s t)) (answers h m (Copy s t))
telling h m (Drop s) = judged (barred h (Drop s)) (answers h m (Drop s))
telling h m (Fetch s j t) = ruled (verdict h m (Fetch s j t)) (spot h s j) (answers h m (Fetch s j t))
telling h m (Put s j t) = ruled (verdict h m (Put s j t)) (spot h s j) (answers h m (Put s j t))
telling h m (Read s j) = ruled (verdict h m (Read s j)) (spot h s j) (answers h m (Read s j))
telling h m (Write s j n) = ruled (verdict h m (Write s j n)) (spot h s j) (answers h m (Write s j n))
telling h m (Same s t) = judged (barred h (Same s t)) (answers h m (Same s t))
telling h m (Kind s) = judged (barred h (Kind s)) (answers h m (Kind s))

-- a call: what it tells, the heap after it and the memory after it
pub record Called : Type 0 where
  pub told : Told Ans
  pub heap : Heap
  pub memory : List ℕ

abbrev pub calling : Heap → List ℕ → Call → Called
calling h m k = record { told = telling h m k; heap = heap_after h m k; memory = memory_after h m k }
