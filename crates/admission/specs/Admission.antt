-- Admission: the first bound that breaks, or the figures of a plan.
use Rattle.std.specs.Prelude.{ℕ, ◌+◌, ◌*◌, ◌≤◌, Bool, cond, ◌&&◌, List, [], ◌∷◌, ◌++◌, length, drop, replicate, Some, None, Ok, Err, sum_by, Option, Result, nat_le}
use Rattle.fault.specs.Told.{Told, answered, refused, Refusal, nowhere}
use Rattle.fault.specs.Told.{admission as in_admission}
use Rattle.table.specs.declared.rows.HeapRow.{HeapRow}
use Rattle.table.specs.declared.rows.StaticRow.{StaticRow}
use Rattle.table.specs.declared.rows.KindRow.{KindRow}
use Rattle.table.specs.Format.{Rows}
use Rattle.admission.specs.declared.task.Task.{Task}
use Rattle.admission.specs.declared.task.Scheduled.{Scheduled}
use Rattle.admission.specs.declared.task.Share.{Share}
use Rattle.admission.specs.declared.task.Share.TheVariants.{Words, Objects}
use Rattle.admission.specs.declared.figures.Room.{Room}
use Rattle.admission.specs.declared.figures.Bounds.{Bounds}
use Rattle.admission.specs.declared.figures.Figures.{Figures}
use Rattle.admission.specs.Demand.{demand, load, part_of, no_task}
use Rattle.admission.specs.Search.{least, largest}
use Rattle.admission.specs.Ranks.{ranked, Tabled}

-- so many units and the jobs of these tasks are done within n ticks
abbrev pub done_in : ℕ → List Task → ℕ → Bool
done_in own ts n = nat_le (own + load n ts) n

-- the response times of tasks behind those of better rank, or the number of the first that has none
abbrev pub timed : ℕ → Option ℕ → Result (List ℕ) ℕ → Result (List ℕ) ℕ
timed n None rest = Err n
timed n (Some r) (Ok rs) = Ok (r ∷ rs)
timed n (Some r) (Err m) = Err m

abbrev pub responses : List Task → List Task → Result (List ℕ) ℕ
responses best [] = Ok []
responses best (t ∷ ts) = timed t.number (least (done_in t.units best) t.deadline) (responses (best ++ t ∷ []) ts)

-- tasks with their response times
abbrev pub scheduled : List Task → List ℕ → List Scheduled
scheduled [] rs = []
scheduled (t ∷ ts) [] = []
scheduled (t ∷ ts) (r ∷ rs) = record { task = t; response = r } ∷ scheduled ts rs

abbrev pub unscheduled : Scheduled
unscheduled = record { task = no_task; response = 0 }

-- a list in an array
abbrev pub padded : {X : Type 0} → ℕ → X → List X → List X
padded size d xs = xs ++ drop (length xs) (replicate size d)

-- what is alive at most: what is static, and for each task the jobs of its life
abbrev pub live : Share → ℕ → List Task → ℕ
live share statics ts = statics + sum_by (λ t. t.life * part_of share t) ts

-- the live words and what is born until the flip after next fit into a space
abbrev pub words_fit : Room → List Task → ℕ → Bool
words_fit m ts p = nat_le (m.live_words + demand (part_of Words) (p + m.lateness) ts) m.space

-- the handles of what is born in two such stretches are in use beside the live ones
abbrev pub handles_fit : Room → List Task → ℕ → Bool
handles_fit m ts p = nat_le (m.live_objects + 2 * demand (part_of Objects) (p + m.lateness) ts) m.handles

abbrev pub fits : Room → List Task → ℕ → Bool
fits m ts p = words_fit m ts p && handles_fit m ts p

abbrev pub room_for : HeapRow → StaticRow → List Task → ℕ → Room
room_for heap statics ts f =
    record {
      space = heap.space;
      handles = heap.handles;
      live_words = live Words statics.words ts;
      live_objects = live Objects statics.objects ts;
      lateness = f;
    }

-- the steps of a collection at most: a flip, an object taken up, a word copied, a handle swept, a word cleared
abbrev pub steps_of : Room → ℕ
steps_of m = 1 + m.live_objects + m.live_words + m.handles + m.space

abbrev pub no_kind : KindRow
no_kind = record { size = 0; map = 0 }

-- the period is the largest at which both bounds hold; 9 and 10 where a bound fails at the least period already
unfoldable pub sized : List Task → List ℕ → Room → ℕ → Told Bounds
sized ts rs m q =
    cond (words_fit m ts q)
    (cond (handles_fit m ts q)
    (answered (record { tasks = padded 16 unscheduled (scheduled ts rs); room = m; span = q; period = largest (fits m ts) q 1000000 }))
    (refused (nowhere 10 in_admission)))
    (refused (nowhere 9 in_admission))

-- the least stretch that holds a whole collection; 8 where there is none
unfoldable pub collected : List Task → List ℕ → Room → Option ℕ → Told Bounds
collected ts rs m None = refused (nowhere 8 in_admission)
collected ts rs m (Some q) = sized ts rs m q

-- how late a flip can be; 8 where there is no such bound
unfoldable pub flipped : HeapRow → StaticRow → List Task → List ℕ → Option ℕ → Told Bounds
flipped heap statics ts rs None = refused (nowhere 8 in_admission)
flipped heap statics ts rs (Some f) =
    collected ts rs (room_for heap statics ts f) (least (done_in (steps_of (room_for heap statics ts f)) ts) 1000000)

-- 7 at its line for a task with no response time: the heap line, the static line and the kinds come first
abbrev pub misses_deadline : ℕ → Refusal
misses_deadline line = record { number = 7; layer = in_admission; place = line; column = 0 }

-- tasks and their response times in an array, or the refusal of the first that has none
abbrev pub timetabled : ℕ → List Task → Result (List ℕ) ℕ → Told (List Scheduled)
timetabled kinds ts (Ok rs) = answered (padded 16 unscheduled (scheduled ts rs))
timetabled kinds ts (Err n) = refused (misses_deadline (2 + kinds + n))

unfoldable pub responded : HeapRow → StaticRow → ℕ → List Task → Result (List ℕ) ℕ → Told Bounds
responded heap statics kinds ts (Err n) = refused (misses_deadline (2 + kinds + n))
responded heap statics kinds ts (Ok rs) = flipped heap statics ts rs (least (done_in 1 ts) 1000000)

-- the bounds of tasks in rank order, behind so many kinds, or the first that breaks
unfoldable pub weighed : HeapRow → StaticRow → ℕ → List Task → Told Bounds
weighed heap statics kinds ts = responded heap statics kinds ts (responses [] ts)

abbrev pub figures_of : Rows → Bounds → Figures
figures_of rows b =
    record {
      heap = rows.heap;
      statics = rows.statics;
      kinds = padded 32 no_kind rows.kinds;
      kind_count = length rows.kinds;
      tasks = b.tasks;
      task_count = length rows.tasks;
      live_words = b.room.live_words;
      live_objects = b.room.live_objects;
      steps = steps_of b.room;
      lateness = b.room.lateness;
      span = b.span;
      period = b.period;
    }

abbrev pub figured : Rows → Told Bounds → Told Figures
figured rows (answered b) = answered (figures_of rows b)
figured rows (refused e) = refused e

unfoldable pub admission : Rows → Told Figures
admission rows =
    figured rows (weighed rows.heap rows.statics (length rows.kinds) (ranked rows.tasks))

-- what is known of the rows of an accepted text
pub record RowsSized (rows : Rows) : Type 0 where
  pub space : rows.heap.space ≤ 8192
  pub handles : rows.heap.handles ≤ 256
  pub words : rows.statics.words ≤ 8192
  pub objects : rows.statics.objects ≤ 256
  pub kinds : length rows.kinds ≤ 32
  pub tasks : Tabled rows.tasks
