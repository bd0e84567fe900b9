-- The census: how many objects, and how many words, the slots lead to through reference words.
use Rattle.std.specs.Prelude.{◌≡◌, ℕ, ◌<◌, ◌≤◌, true, false, ◌≢◌, ◌⊎◌, List, length, sum_by}
use Rattle.fault.specs.declared.Fault.{Fault}
use Rattle.fault.specs.Told.{Refusal, Told, answered, refused, refusal, census}
use Rattle.heap.specs.declared.Heap.{Heap}
use Rattle.heap.specs.Objects.{view, word_of, size_of, footprint, Reached, times, measures_of, prepared}
use Rattle.heap.specs.Room.{in_use}
use Rattle.census.specs.declared.Count.{Count}

-- what the slots of a heap lead to, over a memory
abbrev pub Reachable : Heap → List ℕ → ℕ → Type 0
Reachable h m x = Reached (view h) (word_of h m) x

-- a list holds each reachable object once and nothing else, all are behind handles in use, and they and their words are counted
pub record Counted (h : Heap) (m : List ℕ) (c : Count) : Type 0 where
  pub listed : List ℕ
  pub each : (x : ℕ) → Reachable h m x → times x listed ≡ 1
  pub only : (x : ℕ) → times x listed ≢ 0 → Reachable h m x
  pub used : (x : ℕ) → Reachable h m x → in_use h x ≡ true
  pub objects : c.objects ≡ length listed
  pub words : c.words ≡ sum_by (size_of (measures_of h) h.table) listed

-- what is reachable leads to a number that is no handle in use
abbrev pub Astray : Heap → List ℕ → Type 0
Astray h m = (x : ℕ) × Reachable h m x × (in_use h x ≡ false)

abbrev pub in_census : ℕ → ℕ → Refusal
in_census n place = record { number = n; layer = census; place = place; column = 0 }

-- refusal 20, and what it is for
abbrev pub LedAstray : Heap → List ℕ → Fault → Type 0
LedAstray h m e = (refusal e ≡ in_census 20 0) × Astray h m

-- 12, then 1 at a length under both spaces, then 20, else the count
abbrev pub Tells : Heap → List ℕ → Told Count → Type 0
Tells h m (answered c) = ((prepared h) ≡ true) × (footprint (measures_of h).limits ≤ length m) × Counted h m c
Tells h m (refused r) =
    (((prepared h) ≡ false) × (r ≡ in_census 12 0))
    ⊎ ((((prepared h) ≡ true) × (length m < footprint (measures_of h).limits) × (r ≡ in_census 1 (length m)))
    ⊎ (((prepared h) ≡ true) × (footprint (measures_of h).limits ≤ length m) × (r ≡ in_census 20 0) × Astray h m))
