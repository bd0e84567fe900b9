-- What every call and every step keeps to.
use Rattle.std.specs.Prelude.{◌≡◌, ℕ, ◌≢◌, List, length, slice_index}
use Rattle.fault.specs.Told.{Refusal, refused}
use Rattle.heap.specs.declared.Call.{Call}
use Rattle.heap.specs.declared.Heap.{Heap}
use Rattle.heap.specs.Calls.{calling}
use Rattle.heap.specs.Steps.{step}

-- the words of two memories differ at one place at most
pub record OneWord (before after : List ℕ) : Type 0 where
  pub place : ℕ
  pub others : (p : ℕ) → p ≢ place → slice_index after p ≡ slice_index before p
  pub long : length after ≡ length before

-- a call writes one word at most, and a refused one changes nothing
pub record SmallCall (h : Heap) (m : List ℕ) (k : Call) : Type 0 where
  pub one_word : OneWord m (calling h m k).memory
  pub refused_changes_nothing : (r : Refusal) → (calling h m k).told ≡ refused r → ((calling h m k).heap ≡ h) × ((calling h m k).memory ≡ m)

-- so does a step
pub record SmallStep (h : Heap) (m : List ℕ) : Type 0 where
  pub one_word : OneWord m (step h m).memory
  pub refused_changes_nothing : (r : Refusal) → (step h m).told ≡ refused r → ((step h m).heap ≡ h) × ((step h m).memory ≡ m)
