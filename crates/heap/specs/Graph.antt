-- The object graph: what the calls mean, with no handles, no places and no collector. Objects are numbered from 1 by birth, 0 is none,
-- and nothing ever leaves.
use Rattle.std.specs.Prelude.{ℕ, suc, cond, ◌&&◌, ◌==◌}
use Rattle.fault.specs.Told.{Told}
use Rattle.heap.specs.declared.Call.{Call}
use Rattle.heap.specs.declared.Call.TheVariants.{New, Copy, Drop, Fetch, Put, Read, Write, Same, Kind}
use Rattle.heap.specs.declared.Measures.{Measures}
use Rattle.heap.specs.Objects.{View, size_in, ref_in}
use Rattle.heap.specs.Answers.{Ans, judged}
use Rattle.heap.specs.Calls.{check, answer, taken}

-- the objects born so far, their kinds and words, and what the slots hold
pub record Graph : Type 0 where
  pub count : ℕ
  pub kind : ℕ → ℕ
  pub word : ℕ → ℕ → ℕ
  pub slot : ℕ → ℕ

abbrev pub empty : Graph
empty = record { count = 0; kind = λ o. 0; word = λ o j. 0; slot = λ s. 0 }

abbrev pub graph_view : Measures → Graph → View
graph_view a g = record {
  slot = g.slot;
  kind = g.kind;
  size = λ o. size_in a (g.kind o);
  is_reference = λ o j. ref_in a (g.kind o) j;
}

-- one value of a function changes
abbrev pub changed : (ℕ → ℕ) → ℕ → ℕ → ℕ → ℕ
changed f i v x = cond (x == i) v (f x)

abbrev pub put_slot : Graph → ℕ → ℕ → Graph
put_slot g s o = record { count = g.count; kind = g.kind; word = g.word; slot = changed g.slot s o }

abbrev pub put_word : Graph → ℕ → ℕ → ℕ → Graph
put_word g o j w = record {
  count = g.count;
  kind = g.kind;
  word = λ o' j'. cond (o' == o && j' == j) w (g.word o' j');
  slot = g.slot;
}

-- one more object, with all its words 0
abbrev pub bear : Graph → ℕ → Graph
bear g k = record {
  count = suc g.count;
  kind = changed g.kind (suc g.count) k;
  word = λ o j. cond (o == suc g.count) 0 (g.word o j);
  slot = g.slot;
}

abbrev pub effect : Graph → Call → Graph
effect g (New s k) = put_slot (bear g k) s (suc g.count)
effect g (Copy s t) = put_slot g t (g.slot s)
effect g (Drop s) = put_slot g s 0
effect g (Fetch s j t) = put_slot g t (g.word (g.slot s) j)
effect g (Put s j t) = put_word g (g.slot s) j (g.slot t)
effect g (Read s j) = g
effect g (Write s j n) = put_word g (g.slot s) j n
effect g (Same s t) = g
effect g (Kind s) = g

pub record CalledGraph : Type 0 where
  pub told : Told Ans
  pub graph : Graph

-- a call of the graph: the same checks and answers as the heap's
abbrev pub graph_call : Measures → Graph → Call → CalledGraph
graph_call a g k =
    let n = check a (graph_view a g) k in
    record { told = judged n (answer (graph_view a g) g.word k); graph = taken n (effect g k) g }
