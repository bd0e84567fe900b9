-- What a heap tells of itself: what is left, whether a collection is under way, and where its objects are.
use Rattle.std.specs.Prelude.{ℕ, zero, suc, ◌+◌, ◌-◌, Bool, true, false, cond, not}
use Rattle.heap.specs.declared.Heap.{Heap}
use Rattle.heap.specs.declared.Phase.{Phase}
use Rattle.heap.specs.declared.Phase.TheVariants.{Idle, Tracing, Sweeping, Clearing}
use Rattle.heap.specs.declared.Table.{Table}
use Rattle.heap.specs.Handles.{is_spare, state_of}
use Rattle.heap.specs.Objects.{is_kind, size_in, copied, footprint, measures_of, prepared}
use Rattle.heap.specs.Answers.{Ans, absent, num}

-- how many of the handles 1 to n are spare
unfoldable pub spares_to : Table → ℕ → ℕ
spares_to t zero = 0
spares_to t (suc n) = spares_to t n + cond (is_spare (state_of t (suc n))) 1 0

abbrev pub spare_handles : Heap → ℕ
spare_handles h = spares_to h.table (measures_of h).limits.handles

-- free words are those of a space less the words born and copied since the last flip
abbrev pub free_words : Heap → ℕ
free_words h = (measures_of h).limits.space - (h.cycle.course.born + copied h.cycle.course)

abbrev pub is_idle : Phase → Bool
is_idle Idle = true
is_idle Tracing = false
is_idle (Sweeping n) = false
is_idle (Clearing n) = false

-- the size of a kind, where there is such a kind
abbrev pub kind_size : Heap → ℕ → Ans
kind_size h k = cond (is_kind (measures_of h) k) (num (size_in (measures_of h) k)) absent

-- the words of memory that the two spaces take, once the heap is prepared
abbrev pub extent : Heap → Ans
extent h = cond (prepared h) (num (footprint (measures_of h).limits)) absent

-- a number is that of a handle in use
abbrev pub in_use : Heap → ℕ → Bool
in_use h x = not (is_spare (state_of h.table x))
