-- What the heap's calls and steps answer, and how a result of the code tells it.
use Rattle.std.specs.Prelude.{ℕ, Bool, cond, Some, None, Option, Result, ◌==◌}
use Rattle.fault.specs.declared.Fault.{Fault}
use Rattle.fault.specs.Told.{Refusal, Told, answered, refused, told, nowhere, past_end, heap as heap_layer}
use Rattle.heap.specs.declared.Answer.{Answer}
use Rattle.heap.specs.declared.Answer.TheVariants.{Done, Absent, Number, Truth}
use Rattle.heap.specs.declared.Report.{Report}

-- done; nothing there; a number; yes or no; a collection's steps, objects and words
pub data Ans : Type 0 where
  ok absent : Ans
  num : ℕ → Ans
  says : Bool → Ans
  ended : ℕ → ℕ → ℕ → Ans

abbrev pub of_unit : Unit {0} → Ans
of_unit u = ok

abbrev pub of_answer : Answer → Ans
of_answer Done = ok
of_answer Absent = absent
of_answer (Number n) = num n
of_answer (Truth b) = says b

abbrev pub of_option : Option ℕ → Ans
of_option (Some k) = num k
of_option None = absent

abbrev pub of_step : Option Report → Ans
of_step (Some r) = ended r.steps r.objects r.words
of_step None = absent

abbrev pub with_answer : {A B : Type 0} → (A → B) → Told A → Told B
with_answer f (answered x) = answered (f x)
with_answer f (refused r) = refused r

-- what a result tells, where f says what is answered
abbrev pub tells : {A : Type 0} → (A → Ans) → Result A Fault → Told Ans
tells f r = with_answer f (told r)

-- a refusal of the heap
abbrev pub in_heap : ℕ → Refusal
in_heap n = nowhere n heap_layer

-- 0 stands for no refusal: the first one counts
abbrev pub first : ℕ → ℕ → ℕ
first n more = cond (n == 0) more n

-- refusal 1 is the memory's, and names a place
abbrev pub refusal_at : ℕ → ℕ → Refusal
refusal_at n place = cond (n == 1) (past_end place) (in_heap n)

-- an answer, unless there is a refusal
abbrev pub ruled : ℕ → ℕ → Ans → Told Ans
ruled n place a = cond (n == 0) (answered a) (refused (refusal_at n place))

-- the same for a call that needs no memory
abbrev pub judged : ℕ → Ans → Told Ans
judged n a = cond (n == 0) (answered a) (refused (in_heap n))
