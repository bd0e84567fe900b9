-- The handle table: its rows, and the moves that change them.
use Rattle.std.specs.Prelude.{ℕ, Bool, true, false, cond, not, ◌&&◌, List, map, fold, ◌==◌, slice_index_or, slice_set}
use Rattle.heap.specs.declared.State.{State}
use Rattle.heap.specs.declared.State.TheVariants.{Spare, Old, Marked, Moving, New}
use Rattle.heap.specs.declared.Handle.{Handle}
use Rattle.heap.specs.declared.Table.{Table}

abbrev pub is_spare : State → Bool
is_spare Spare = true
is_spare Old = false
is_spare Marked = false
is_spare Moving = false
is_spare New = false

abbrev pub is_old : State → Bool
is_old Spare = false
is_old Old = true
is_old Marked = false
is_old Moving = false
is_old New = false

abbrev pub blank : Handle
blank = record { kind = 0; place = 0; link = 0; state = Spare }

-- the handle of a number; past the table none is in use
abbrev pub row : Table → ℕ → Handle
row t x = slice_index_or t.handles x blank

abbrev pub state_of : Table → ℕ → State
state_of t x = (row t x).state

-- a number other than 0 that is no handle in use
abbrev pub stray : Table → ℕ → Bool
stray t x = not (x == 0) && is_spare (state_of t x)

-- a handle takes a link and a state
abbrev pub linked : Handle → ℕ → State → Handle
linked r l s = record { kind = r.kind; place = r.place; link = l; state = s }

-- a handle names an object that stands in the current space
abbrev pub named : Handle → ℕ → ℕ → Handle
named r k p = record { kind = k; place = p; link = r.link; state = New }

-- one handle changes, and the heads of the chains become s and m
abbrev pub with_row : Table → ℕ → Handle → ℕ → ℕ → Table
with_row t x r s m = record { handles = slice_set t.handles x r; spare = s; marked = m }

-- x goes onto the marked chain
abbrev pub push_marked : Table → ℕ → Table
push_marked t x = with_row t x (linked (row t x) t.marked Marked) t.spare x

-- an old handle is marked; any other stays
abbrev pub mark : Table → ℕ → Table
mark t x = cond (is_old (state_of t x)) (push_marked t x) t

-- one number after the other is marked
abbrev pub mark_all : Table → List ℕ → Table
mark_all t xs = fold mark t xs

-- the last marked handle starts to move
abbrev pub pop_marked : Table → Table
pop_marked t = with_row t t.marked (linked (row t t.marked) (row t t.marked).link Moving) t.spare (row t t.marked).link

-- x names its copy at p
abbrev pub settle : Table → ℕ → ℕ → Table
settle t x p = with_row t x (named (row t x) (row t x).kind p) t.spare t.marked

-- x goes onto the spare chain
abbrev pub push_spare : Table → ℕ → Table
push_spare t x = with_row t x (linked (row t x) t.spare Spare) x t.marked

-- an old handle becomes spare; any other stays
abbrev pub sweep : Table → ℕ → Table
sweep t x = cond (is_old (state_of t x)) (push_spare t x) t

-- the handle given back last takes a kind and a place
abbrev pub pop_spare : Table → ℕ → ℕ → Table
pop_spare t k p = with_row t t.spare (named (row t t.spare) k p) (row t t.spare).link t.marked

-- a handle in use becomes old
abbrev pub age : Handle → Handle
age r = cond (is_spare r.state) r (linked r r.link Old)

-- every handle in use becomes old, and none is marked
abbrev pub aged : Table → Table
aged t = record { handles = map age t.handles; spare = t.spare; marked = 0 }
