-- Objects: their kinds, sizes and reference words, where their words are, and what leads to them.
use Rattle.std.specs.Prelude.{◌≡◌, ℕ, ◌+◌, ◌*◌, Bool, true, cond, ◌&&◌, ◌≢◌, List, [], ◌∷◌, length, ◌==◌, nat_le, nat_lt, slice_index, slice_index_or}
use Rattle.std.specs.Option.{is_some, unwrap_or}
use Rattle.kinds.specs.declared.Kind.{Kind}
use Rattle.kinds.specs.Maps.{refers}
use Rattle.heap.specs.declared.Table.{Table}
use Rattle.heap.specs.declared.Limits.{Limits}
use Rattle.heap.specs.declared.Measures.{Measures}
use Rattle.heap.specs.declared.Course.{Course}
use Rattle.heap.specs.declared.Heap.{Heap}
use Rattle.heap.specs.Handles.{row}

abbrev pub no_kind : Kind
no_kind = record { size = 0; map = 0 }

-- before prepare the limits are 0, and there is no kind
abbrev pub no_measures : Measures
no_measures = record { limits = record { space = 0; handles = 0; live_words = 0; live_objects = 0 }; kinds = record { items = [] } }

abbrev pub measures_of : Heap → Measures
measures_of h = unwrap_or h.measures no_measures

abbrev pub prepared : Heap → Bool
prepared h = is_some h.measures

abbrev pub kind_of : Measures → ℕ → Kind
kind_of a k = slice_index_or (no_kind ∷ a.kinds.items) k no_kind

-- the words of memory that the two spaces take
abbrev pub footprint : Limits → ℕ
footprint l = 2 * l.space

-- the words of an object of a kind
abbrev pub size_in : Measures → ℕ → ℕ
size_in a k = (kind_of a k).size

-- word j of an object of a kind is a reference
abbrev pub ref_in : Measures → ℕ → ℕ → Bool
ref_in a k j = refers (kind_of a k) j

-- kinds are numbered from 1
abbrev pub is_kind : Measures → ℕ → Bool
is_kind a k = nat_le 1 k && nat_le k (length a.kinds.items)

-- the size of the object of a handle
abbrev pub size_of : Measures → Table → ℕ → ℕ
size_of a t x = size_in a (row t x).kind

-- word j of the object of a handle is a reference
abbrev pub is_ref : Measures → Table → ℕ → ℕ → Bool
is_ref a t x j = ref_in a (row t x).kind j

-- where the copy of the object that moves starts
abbrev pub target : Course → ℕ
target c = c.base + c.settled

-- the words copied since the flip
abbrev pub copied : Course → ℕ
copied c = c.settled + c.done

-- where word j of a handle's object is: of the object that moves, words already copied are in the copy
abbrev pub loc : Table → Course → ℕ → ℕ → ℕ
loc t c x j = cond (x == c.mover && nat_lt j c.done) (target c + j) ((row t x).place + j)

-- the word that stands there
abbrev pub val : Table → Course → List ℕ → ℕ → ℕ → ℕ
val t c m x j = slice_index m (loc t c x j)

-- What heap and object graph both have: what the slots hold, 0 for none, and each object's kind, size and reference words.
pub record View : Type 0 where
  pub slot : ℕ → ℕ
  pub kind : ℕ → ℕ
  pub size : ℕ → ℕ
  pub is_reference : ℕ → ℕ → Bool

abbrev pub view : Heap → View
view h = record {
  slot = λ s. slice_index h.slots s;
  kind = λ x. (row h.table x).kind;
  size = size_of (measures_of h) h.table;
  is_reference = is_ref (measures_of h) h.table;
}

-- the words of the objects, in a memory
abbrev pub word_of : Heap → List ℕ → ℕ → ℕ → ℕ
word_of h m x j = val h.table h.cycle.course m x j

-- Reachable is what slots lead to through reference words: v shows slots and objects, w the objects' words.
pub data Reached (v : View) (w : ℕ → ℕ → ℕ) : ℕ → Type 0 where
  in_slot : {x : ℕ} (s : ℕ) → v.slot s ≡ x → x ≢ 0 → Reached v w x
  along : {x : ℕ} {p : ℕ} (j : ℕ) → Reached v w p → v.is_reference p j ≡ true → w p j ≡ x → x ≢ 0 → Reached v w x

-- how often x stands in a list
abbrev pub times : ℕ → List ℕ → ℕ
times x [] = 0
times x (y ∷ ys) = cond (x == y) 1 0 + times x ys
