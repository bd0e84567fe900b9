-- What a fault tells: its number, its layer and its place. The contract of every call that can be refused
-- rests on `told`, which gives each case of the code's enums what the table of refusals says of it.
use Rattle.std.specs.Prelude.{ℕ, Ok, Err, Result}
use Rattle.fault.specs.declared.Cause.{Cause}
use Rattle.fault.specs.declared.Cause.TheVariants.{PastEnd, WrongLine, NotANumber, OutsideLimits, WrongFieldCount, WrongSize, MissesDeadline, CollectorOverload, TooFewWords, TooFewHandles, WrongMeasures, Unprepared, NoSuchSlot, EmptySlot, NoSuchWord, WrongSort, NoSuchKind, SpaceFull, NoSpareHandle, StrayReference, LiveBoundPassed, WrongStage, ClockEnded, NotOnTurn, OverAllowance, QueueFull}
use Rattle.fault.specs.declared.Layer.{Layer}
use Rattle.fault.specs.declared.Layer.TheVariants.{Memory, Text, Admission, Heap, Dashboard, Queue, Census}
use Rattle.fault.specs.declared.Place.{Place}
use Rattle.fault.specs.declared.Place.TheVariants.{Nowhere, Word, Line}
use Rattle.fault.specs.declared.Fault.{Fault}

-- the number of a cause
abbrev pub number_of : Cause → ℕ
number_of PastEnd = 1
number_of WrongLine = 2
number_of NotANumber = 3
number_of OutsideLimits = 4
number_of WrongFieldCount = 5
number_of WrongSize = 6
number_of MissesDeadline = 7
number_of CollectorOverload = 8
number_of TooFewWords = 9
number_of TooFewHandles = 10
number_of WrongMeasures = 11
number_of Unprepared = 12
number_of NoSuchSlot = 13
number_of EmptySlot = 14
number_of NoSuchWord = 15
number_of WrongSort = 16
number_of NoSuchKind = 17
number_of SpaceFull = 18
number_of NoSpareHandle = 19
number_of StrayReference = 20
number_of LiveBoundPassed = 21
number_of WrongStage = 22
number_of ClockEnded = 23
number_of NotOnTurn = 24
number_of OverAllowance = 25
number_of QueueFull = 26

-- the layers
pub data Where : Type 0 where
  memory text admission heap dashboard queue census : Where

abbrev pub layer_of : Layer → Where
layer_of Memory = memory
layer_of Text = text
layer_of Admission = admission
layer_of Heap = heap
layer_of Dashboard = dashboard
layer_of Queue = queue
layer_of Census = census

-- a memory place or a line, 0 if none is named
abbrev pub place_of : Place → ℕ
place_of Nowhere = 0
place_of (Word p) = p
place_of (Line l c) = l

-- a column, 0 if none is named
abbrev pub column_of : Place → ℕ
column_of Nowhere = 0
column_of (Word p) = 0
column_of (Line l c) = c

pub record Refusal : Type 0 where
  pub number : ℕ
  pub layer : Where
  pub place : ℕ
  pub column : ℕ

abbrev pub refusal : Fault → Refusal
refusal f = record { number = number_of f.cause; layer = layer_of f.layer; place = place_of f.place; column = column_of f.place }

-- what a call tells its caller: an answer, or a refusal
pub data Told (A : Type 0) : Type 0 where
  answered : A → Told A
  refused : Refusal → Told A

abbrev pub told : {A : Type 0} → Result A Fault → Told A
told (Ok x) = answered x
told (Err f) = refused (refusal f)

-- a refusal that names no place
abbrev pub nowhere : ℕ → Where → Refusal
nowhere n l = record { number = n; layer = l; place = 0; column = 0 }

-- a place at or past the end of a memory
abbrev pub past_end : ℕ → Refusal
past_end p = record { number = 1; layer = memory; place = p; column = 0 }

-- a refusal in a line of a text, at a column, 0 for none
abbrev pub in_line : ℕ → Where → ℕ → ℕ → Refusal
in_line n w l c = record { number = n; layer = w; place = l; column = c }
