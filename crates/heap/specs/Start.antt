-- A bare heap, the measures, and what prepare makes of them.
use Rattle.std.specs.Prelude.{ℕ, ◌+◌, Bool, true, false, cond, ◌&&◌, List, [], ◌∷◌, map, length, replicate, Some, None, nat_le, nat_lt}
use Rattle.std.specs.List.{range_with_len}
use Rattle.fault.specs.Told.{Told, answered, refused, past_end}
use Rattle.memory.specs.Words.{zeroed}
use Rattle.kinds.specs.declared.Kind.{Kind}
use Rattle.kinds.specs.Maps.{fits}
use Rattle.heap.specs.declared.Cycle.{Cycle}
use Rattle.heap.specs.declared.Handle.{Handle}
use Rattle.heap.specs.declared.Heap.{Heap}
use Rattle.heap.specs.declared.Limits.{Limits}
use Rattle.heap.specs.declared.Phase.TheVariants.{Idle}
use Rattle.heap.specs.declared.Table.{Table}
use Rattle.heap.specs.declared.State.TheVariants.{Spare}
use Rattle.heap.specs.Handles.{blank}
use Rattle.heap.specs.Objects.{footprint}
use Rattle.heap.specs.Answers.{Ans, ok, in_heap}

-- a space has 1 to 8,192 words, there are 1 to 256 handles, and no more is declared to live than there is
abbrev pub limits_fit : Limits → Bool
limits_fit l =
    nat_le 1 l.space && nat_le l.space 8192 && nat_le 1 l.handles && nat_le l.handles 256
    && nat_le l.live_words l.space && nat_le l.live_objects l.handles

unfoldable pub all_fit : List Kind → Bool
all_fit [] = true
all_fit (k ∷ ks) = fits k && all_fit ks

-- 1 to 32 kinds, each within its limits
abbrev pub measures_fit : Limits → List Kind → Bool
measures_fit l ks = limits_fit l && nat_le 1 (length ks) && nat_le (length ks) 32 && all_fit ks

-- the spare chain first reads 1, 2, .. n
abbrev pub spare_row : ℕ → ℕ → Handle
spare_row n x = record { kind = 0; place = 0; link = cond (nat_lt x n) (x + 1) 0; state = Spare }

unfoldable pub spare_rows : ℕ → ℕ → List Handle
spare_rows rows n = map (spare_row n) (range_with_len 0 rows)

-- the spare chain reads 1, 2, .. n, and none is marked
abbrev pub spare_table : ℕ → Table
spare_table n = record { handles = spare_rows 257 n; spare = 1; marked = 0 }

-- no collection yet, and nothing born
abbrev pub still : Cycle
still = record {
  phase = Idle;
  flipped = false;
  course = record { base = 0; born = 0; settled = 0; mover = 0; done = 0 };
  tally = record { steps = 0; objects = 0; words = 0 };
}

abbrev pub bare : Heap
bare = record {
  measures = None;
  table = record { handles = replicate 257 blank; spare = 0; marked = 0 };
  slots = replicate 192 0;
  cycle = still;
}

abbrev pub fresh : Limits → List Kind → Heap
fresh l ks = record {
  measures = Some (record { limits = l; kinds = record { items = ks } });
  table = spare_table l.handles;
  slots = replicate 192 0;
  cycle = still;
}

pub record Prepared : Type 0 where
  pub told : Told Ans
  pub heap : Heap
  pub memory : List ℕ

-- Both spaces become 0, and the heap begins afresh. Where the memory ends before, the zeros written so far stand and the heap is bare.
abbrev pub preparing : Heap → List ℕ → Limits → List Kind → Prepared
preparing h m l ks =
    cond (measures_fit l ks)
    (cond (nat_le (footprint l) (length m))
    (record { told = answered ok; heap = fresh l ks; memory = zeroed m (footprint l) })
    (record { told = refused (past_end (length m)); heap = bare; memory = zeroed m (footprint l) }))
    (record { told = refused (in_heap 11); heap = h; memory = m })
