-- What a plan keeps: it is blank, with all measures 0, or it keeps the limits of a table and every bound of admission.
-- The period of a blank plan is 0, and that of no other.
use Rattle.std.specs.Prelude.{◌≡◌, ℕ, ◌+◌, ◌*◌, ◌^◌, ◌<◌, ◌≤◌, true, List, map, take, ◌≢◌, slice_index_or}
use Rattle.queue.specs.declared.entries.Rank.{Rank}
use Rattle.queue.specs.Entries.{better}
use Rattle.table.specs.declared.rows.KindRow.{KindRow}
use Rattle.admission.specs.declared.task.Task.{Task}
use Rattle.admission.specs.declared.task.Share.TheVariants.{Words, Objects}
use Rattle.admission.specs.declared.figures.Figures.{Figures}
use Rattle.admission.specs.Demand.{up, demand, part_of, DoneIn}
use Rattle.admission.specs.Admission.{live, no_kind, unscheduled}

abbrev pub task : Figures → ℕ → Task
task f i = (slice_index_or f.tasks i unscheduled).task

abbrev pub response : Figures → ℕ → ℕ
response f i = (slice_index_or f.tasks i unscheduled).response

-- the tasks, and those of better rank than the i-th
abbrev pub tasks_of : Figures → List Task
tasks_of f = map (λ s. s.task) (take f.task_count f.tasks)

abbrev pub ahead : Figures → ℕ → List Task
ahead f i = map (λ s. s.task) (take i f.tasks)

abbrev pub rank : Task → Rank
rank t = record { deadline = t.deadline; task = t.number }

-- Blank.

abbrev pub BlankRows : Figures → Type 0
BlankRows f = f.period ≡ 0 → (f.heap.space ≡ 0) × (f.heap.handles ≡ 0) × (f.statics.words ≡ 0) × (f.statics.objects ≡ 0)

abbrev pub BlankCounts : Figures → Type 0
BlankCounts f = f.period ≡ 0 → (f.kind_count ≡ 0) × (f.task_count ≡ 0) × (f.live_words ≡ 0) × (f.live_objects ≡ 0)

abbrev pub BlankTimes : Figures → Type 0
BlankTimes f = f.period ≡ 0 → (f.steps ≡ 0) × (f.lateness ≡ 0) × (f.span ≡ 0)

-- Limits.

abbrev pub HeapKept : Figures → Type 0
HeapKept f = 1 ≤ f.period → (1 ≤ f.heap.space) × (f.heap.space ≤ 8192) × (1 ≤ f.heap.handles) × (f.heap.handles ≤ 256)

abbrev pub StaticsKept : Figures → Type 0
StaticsKept f = 1 ≤ f.period → (f.statics.words ≤ 8192) × (f.statics.objects ≤ 256)

abbrev pub CountsKept : Figures → Type 0
CountsKept f = 1 ≤ f.period → (1 ≤ f.kind_count) × (f.kind_count ≤ 32) × (1 ≤ f.task_count) × (f.task_count ≤ 16)

abbrev pub kind : Figures → ℕ → KindRow
kind f i = slice_index_or f.kinds i no_kind

abbrev pub KindsKept : Figures → Type 0
KindsKept f = (i : ℕ) → (1 ≤ f.period) × (i < f.kind_count) → (1 ≤ (kind f i).size) × ((kind f i).size ≤ 32) × ((kind f i).map < 2 ^ (kind f i).size)

abbrev pub TimesKept : Figures → Type 0
TimesKept f = (i : ℕ) → (1 ≤ f.period) × (i < f.task_count) → ((task f i).period ≤ 1000000) × ((task f i).deadline ≤ (task f i).period) × (1 ≤ (task f i).units) × ((task f i).units ≤ (task f i).deadline)

abbrev pub SharesKept : Figures → Type 0
SharesKept f = (i : ℕ) → (1 ≤ f.period) × (i < f.task_count) → ((task f i).words ≤ 8192) × ((task f i).objects ≤ 256) × (1 ≤ (task f i).number) × ((task f i).number ≤ f.task_count)

-- Ranks and lives.

-- smaller deadline first, then earlier number, and no number twice
abbrev pub RanksKept : Figures → Type 0
RanksKept f = (i j : ℕ) → (1 ≤ f.period) × (i < j) × (j < f.task_count) → better (rank (task f i)) (rank (task f j)) ≡ true

abbrev pub NumbersKept : Figures → Type 0
NumbersKept f = (i j : ℕ) → (1 ≤ f.period) × (i < j) × (j < f.task_count) → (task f i).number ≢ (task f j).number

-- a life of its own, or that of its consumer, which is another task
abbrev pub LivesKept : Figures → Type 0
LivesKept f = (i : ℕ) → (1 ≤ f.period) × (i < f.task_count) × ((task f i).consumer ≡ 0) → (1 ≤ (task f i).life) × ((task f i).life ≤ 64)

abbrev pub OthersKept : Figures → Type 0
OthersKept f = (i : ℕ) → (1 ≤ f.period) × (i < f.task_count) → ((task f i).consumer ≤ f.task_count) × ((task f i).consumer ≢ (task f i).number)

abbrev pub ConsumersKept : Figures → Type 0
ConsumersKept f = (i j : ℕ) → (1 ≤ f.period) × (i < f.task_count) × (j < f.task_count) × ((task f i).consumer ≡ (task f j).number) → (task f i).life ≡ up (2 * (task f j).period) (task f i).period

-- Bounds.

-- R is the least from 1 to D in which a job and those of better rank are done
abbrev pub Responds : Figures → Type 0
Responds f = (i : ℕ) → (1 ≤ f.period) × (i < f.task_count) → (1 ≤ response f i) × (response f i ≤ (task f i).deadline) × DoneIn (task f i).units (ahead f i) (response f i)

abbrev pub RespondsFirst : Figures → Type 0
RespondsFirst f = (i k : ℕ) → (1 ≤ f.period) × (i < f.task_count) × (1 ≤ k) × DoneIn (task f i).units (ahead f i) k → response f i ≤ k

abbrev pub LivesCounted : Figures → Type 0
LivesCounted f = 1 ≤ f.period → (f.live_words ≡ live Words f.statics.words (tasks_of f)) × (f.live_objects ≡ live Objects f.statics.objects (tasks_of f))

abbrev pub StepsCounted : Figures → Type 0
StepsCounted f = 1 ≤ f.period → f.steps ≡ 1 + f.live_objects + f.live_words + f.heap.handles + f.heap.space

abbrev pub FlipsLate : Figures → Type 0
FlipsLate f = 1 ≤ f.period → (1 ≤ f.lateness) × (f.lateness ≤ 1000000) × DoneIn 1 (tasks_of f) f.lateness

abbrev pub FlipsFirst : Figures → Type 0
FlipsFirst f = (k : ℕ) → (1 ≤ f.period) × (1 ≤ k) × DoneIn 1 (tasks_of f) k → f.lateness ≤ k

abbrev pub Spans : Figures → Type 0
Spans f = 1 ≤ f.period → (1 ≤ f.span) × (f.span ≤ 1000000) × DoneIn f.steps (tasks_of f) f.span

abbrev pub SpansFirst : Figures → Type 0
SpansFirst f = (k : ℕ) → (1 ≤ f.period) × (1 ≤ k) × DoneIn f.steps (tasks_of f) k → f.span ≤ k

-- both bounds of the heap at a period
abbrev pub WordsFit : Figures → ℕ → Type 0
WordsFit f p = f.live_words + demand (part_of Words) (p + f.lateness) (tasks_of f) ≤ f.heap.space

abbrev pub HandlesFit : Figures → ℕ → Type 0
HandlesFit f p = f.live_objects + 2 * demand (part_of Objects) (p + f.lateness) (tasks_of f) ≤ f.heap.handles

-- P is the largest from Q to 1,000,000 that keeps both
abbrev pub PeriodFits : Figures → Type 0
PeriodFits f = 1 ≤ f.period → (f.span ≤ f.period) × (f.period ≤ 1000000) × WordsFit f f.period × HandlesFit f f.period

abbrev pub PeriodLongest : Figures → Type 0
PeriodLongest f = (k : ℕ) → (1 ≤ f.period) × (f.span ≤ k) × (k ≤ 1000000) × WordsFit f k × HandlesFit f k → k ≤ f.period

-- all of it
pub record Sound (f : Figures) : Type 0 where
  pub blank_rows : BlankRows f
  pub blank_counts : BlankCounts f
  pub blank_times : BlankTimes f
  pub heap : HeapKept f
  pub statics : StaticsKept f
  pub counts : CountsKept f
  pub kinds : KindsKept f
  pub times : TimesKept f
  pub shares : SharesKept f
  pub ranks : RanksKept f
  pub numbers : NumbersKept f
  pub lives : LivesKept f
  pub others : OthersKept f
  pub consumers : ConsumersKept f
  pub responds : Responds f
  pub first : RespondsFirst f
  pub live : LivesCounted f
  pub steps : StepsCounted f
  pub flips : FlipsLate f
  pub flips_first : FlipsFirst f
  pub spans : Spans f
  pub spans_first : SpansFirst f
  pub fits : PeriodFits f
  pub longest : PeriodLongest f
