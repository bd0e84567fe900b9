-- The search behind the census: what it has found, and what one more number adds.
use Rattle.std.specs.Prelude.{◌≡◌, ℕ, ◌+◌, ◌*◌, ◌<◌, ◌≤◌, Bool, true, false, cond, ◌||◌, ◌≢◌, List, [], ◌∷◌, ◌++◌, length, take, replicate, sum_by, count_by, ◌==◌, slice_index, slice_index_or, slice_set}
use Rattle.heap.specs.declared.Heap.{Heap}
use Rattle.heap.specs.Objects.{word_of, size_of, is_ref, times, measures_of}
use Rattle.heap.specs.Room.{in_use}
use Rattle.census.specs.declared.Finds.{Finds}
use Rattle.census.specs.Counts.{Reachable}

-- the handle that word j of x names, 0 for none and for a number word
abbrev pub named : Heap → List ℕ → ℕ → ℕ → ℕ
named h m x j = cond (is_ref (measures_of h) h.table x j) (word_of h m x j) 0

abbrev pub is_seen : Finds → ℕ → Bool
is_seen f x = slice_index_or f.seen x false

-- the handles found, in the order in which they were found
abbrev pub found : Finds → List ℕ
found f = f.list.items

abbrev pub nothing : Finds
nothing = record { list = record { items = [] }; seen = replicate 257 false; words = 0 }

-- a number of size n is found; 0 and what was found before change nothing
abbrev pub noted : Finds → ℕ → ℕ → Finds
noted f x n =
    cond (x == 0 || is_seen f x) f
    (record { list = record { items = found f ++ x ∷ [] }; seen = slice_set f.seen x true; words = f.words + n })

-- there are as many as were seen, and their number bounds the words
pub record Tidy (f : Finds) : Type 0 where
  pub count : length (found f) ≡ count_by (λ b. b) f.seen
  pub words : f.words ≤ 255 * length (found f)

-- what is found is reachable and in use, stands in the list once, and is counted with its words
pub record Sound (h : Heap) (m : List ℕ) (f : Finds) : Type 0 where
  pub reached : (x : ℕ) → is_seen f x ≡ true → Reachable h m x × (in_use h x ≡ true)
  pub once : (x : ℕ) → times x (found f) ≡ cond (is_seen f x) 1 0
  pub tidy : Tidy f
  pub words : f.words ≡ sum_by (size_of (measures_of h) h.table) (found f)

-- the search goes on: what was found stays found, in its place
pub record Grown (f g : Finds) : Type 0 where
  pub keeps : (x : ℕ) → is_seen f x ≡ true → is_seen g x ≡ true
  pub prefix : (n : ℕ) → n ≤ length (found f) → take n (found g) ≡ take n (found f)
  pub count : length (found f) ≤ length (found g)

-- the search goes on from f to g
abbrev pub GoesOn : Heap → List ℕ → Finds → Finds → Type 0
GoesOn h m f g = Sound h m g × Grown f g

-- what the first n slots hold is found
abbrev pub Rooted : Heap → Finds → ℕ → Type 0
Rooted h f n = (s : ℕ) → s < n → slice_index h.slots s ≢ 0 → is_seen f (slice_index h.slots s) ≡ true

-- what the first n words of x name is found
abbrev pub FollowedTo : Heap → List ℕ → Finds → ℕ → ℕ → Type 0
FollowedTo h m f x n = (j : ℕ) → j < n → named h m x j ≢ 0 → is_seen f (named h m x j) ≡ true

-- what x names is found
abbrev pub Followed : Heap → List ℕ → Finds → ℕ → Type 0
Followed h m f x = (j : ℕ) → named h m x j ≢ 0 → is_seen f (named h m x j) ≡ true

-- what the first n handles of the list name is found
abbrev pub Closed : Heap → List ℕ → Finds → ℕ → Type 0
Closed h m f n = (x : ℕ) → times x (take n (found f)) ≢ 0 → Followed h m f x
