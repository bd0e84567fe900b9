-- Small collections worked out by hand, and told by the definitions.
use Rattle.std.specs.Prelude.{◌≡◌, ℕ, List, [], ◌∷◌, ◌++◌, replicate}
use Rattle.fault.specs.Told.{Told, answered, refused}
use Rattle.kinds.specs.declared.Kind.{Kind}
use Rattle.heap.specs.declared.Call.{Call}
use Rattle.heap.specs.declared.Call.TheVariants.{New, Drop, Fetch, Put, Read, Write}
use Rattle.heap.specs.declared.Heap.{Heap}
use Rattle.heap.specs.declared.Limits.{Limits}
use Rattle.heap.specs.Answers.{Ans, ok, absent, num, ended, in_heap}
use Rattle.heap.specs.Calls.{calling}
use Rattle.heap.specs.Steps as steps
use Rattle.heap.specs.Start.{bare, preparing}

pub data Move : Type 0 where
  call : Call → Move
  step : Move

-- what a run of moves tells, move by move
abbrev pub told : Heap → List ℕ → List Move → List (Told Ans)
told h m [] = []
told h m (call k ∷ ms) = let q = calling h m k in q.told ∷ told q.heap q.memory ms
told h m (step ∷ ms) = let q = steps.step h m in q.told ∷ told q.heap q.memory ms

-- the same, from a heap prepared over a memory of 16 words
abbrev pub run : Limits → List Kind → List Move → List (Told Ans)
run l ks ms = let q = preparing bare (replicate 16 7) l ks in q.told ∷ told q.heap q.memory ms

-- spaces of 8 words, 3 handles, 4 live words
abbrev pub small : ℕ → Limits
small objects = record { space = 8; handles = 3; live_words = 4; live_objects = objects }

-- objects of two words, the second a reference
abbrev pub pairs : List Kind
pairs = record { size = 2; map = 2 } ∷ []

-- slot 0 names object 1, whose reference names object 2; object 3 is dropped
abbrev pub three_objects : List Move
three_objects = call (New 0 1) ∷ call (New 1 1) ∷ call (Put 0 1 1) ∷ call (Drop 1) ∷ call (New 2 1) ∷ call (Drop 2) ∷ []

abbrev pub oks : ℕ → List (Told Ans)
oks n = replicate n (answered ok)

abbrev pub absents : ℕ → List (Told Ans)
absents n = replicate n (answered absent)

-- 18 steps, 2 objects, 4 words; then there is one handle to spare
abbrev pub TwoSurvive : Type 0
TwoSurvive =
    run (small 2) pairs (three_objects ++ replicate 18 step ++ call (New 1 1) ∷ call (New 2 1) ∷ [])
    ≡ oks 7 ++ absents 17 ++ answered (ended 18 2 4) ∷ answered ok ∷ refused (in_heap 19) ∷ []

-- After the flip object 2 is fetched, overwritten by none and dropped: it survives this collection all the same.
abbrev pub SnapshotSurvives : Type 0
SnapshotSurvives =
    run (small 2) pairs
    (three_objects ++ step ∷ call (Fetch 0 1 1) ∷ call (Put 0 1 2) ∷ call (Drop 1) ∷ replicate 17 step)
    ≡ oks 7 ++ answered absent ∷ oks 3 ++ absents 16 ++ answered (ended 18 2 4) ∷ []

-- with one live object declared, taking up the second is refused
abbrev pub BoundIsKept : Type 0
BoundIsKept = run (small 1) pairs (three_objects ++ replicate 5 step) ≡ oks 7 ++ absents 4 ++ refused (in_heap 21) ∷ []

-- nothing to trace: 12 steps
abbrev pub NothingSurvives : Type 0
NothingSurvives = run (small 2) pairs (replicate 12 step) ≡ oks 1 ++ absents 11 ++ answered (ended 12 0 0) ∷ []

-- While object 1 moves, its first word copied and its second not yet, tasks write and read the one in the copy and fetch the other
-- from the old place; and the number written is there when the collection is over.
abbrev pub MovingIsWhole : Type 0
MovingIsWhole =
    run (small 2) pairs
    (three_objects ++ replicate 3 step ++ call (Write 0 0 5) ∷ call (Read 0 0) ∷ call (Fetch 0 1 1) ∷ replicate 15 step ++ call (Read 0 0) ∷ [])
    ≡ oks 7 ++ absents 3 ++ answered ok ∷ answered (num 5) ∷ answered ok ∷ absents 14 ++ answered (ended 18 2 4) ∷ answered (num 5) ∷ []

pub record Collections : Type 0 where
  pub two_survive : TwoSurvive
  pub snapshot_survives : SnapshotSurvives
  pub bound_is_kept : BoundIsKept
  pub nothing_survives : NothingSurvives
  pub moving_is_whole : MovingIsWhole
