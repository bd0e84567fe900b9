-- What is printed of a fault: the words for a person.
use Rattle.std.specs.Prelude.{ℕ, cond, List, [], ◌++◌, codes, decimal, ◌==◌}
use Rattle.fault.specs.declared.Cause.{Cause}
use Rattle.fault.specs.declared.Cause.TheVariants.{PastEnd, WrongLine, NotANumber, OutsideLimits, WrongFieldCount, WrongSize, MissesDeadline, CollectorOverload, TooFewWords, TooFewHandles, WrongMeasures, Unprepared, NoSuchSlot, EmptySlot, NoSuchWord, WrongSort, NoSuchKind, SpaceFull, NoSpareHandle, StrayReference, LiveBoundPassed, WrongStage, ClockEnded, NotOnTurn, OverAllowance, QueueFull}
use Rattle.fault.specs.declared.Place.{Place}
use Rattle.fault.specs.declared.Place.TheVariants.{Nowhere, Word, Line}
use Rattle.fault.specs.declared.Fault.{Fault}
use Rattle.fault.specs.Told.{Where, memory, text, admission, heap, dashboard, queue, census, number_of, layer_of}

-- the name of each layer
abbrev pub layer_word : Where → List ℕ
layer_word memory = codes "memory"
layer_word text = codes "text"
layer_word admission = codes "admission"
layer_word heap = codes "heap"
layer_word dashboard = codes "dashboard"
layer_word queue = codes "queue"
layer_word census = codes "census"

-- what a cause is
abbrev pub cause_words : Cause → List ℕ
cause_words PastEnd = codes "the place is past the end of the memory"
cause_words WrongLine = codes "this line has the wrong first word, order or count"
cause_words NotANumber = codes "this field is not a number"
cause_words OutsideLimits = codes "this number is outside its limits"
cause_words WrongFieldCount = codes "a field is missing or surplus"
cause_words WrongSize = codes "the text is empty, too long or unfinished, or its buffer too short"
cause_words MissesDeadline = codes "this task can miss its deadline"
cause_words CollectorOverload = codes "the tasks leave the collector too little time"
cause_words TooFewWords = codes "a space has too few words"
cause_words TooFewHandles = codes "the heap has too few handles"
cause_words WrongMeasures = codes "the heap's measures are outside their limits"
cause_words Unprepared = codes "the heap is not prepared"
cause_words NoSuchSlot = codes "there is no such slot"
cause_words EmptySlot = codes "the slot is empty"
cause_words NoSuchWord = codes "the object has no such word"
cause_words WrongSort = codes "the word is a reference and not a number, or the reverse"
cause_words NoSuchKind = codes "there is no such kind"
cause_words SpaceFull = codes "the space has no room for the object"
cause_words NoSpareHandle = codes "no handle is spare"
cause_words StrayReference = codes "a reference names no handle in use"
cause_words LiveBoundPassed = codes "more is alive than was declared"
cause_words WrongStage = codes "the dashboard is at another stage"
cause_words ClockEnded = codes "the clock is at its end"
cause_words NotOnTurn = codes "it is another's turn"
cause_words OverAllowance = codes "the allowance does not cover the object"
cause_words QueueFull = codes "the queue's list is full"

-- where it was, if a place is named; column 0 names none
abbrev pub place_words : Place → List ℕ
place_words Nowhere = []
place_words (Word p) = codes " at word " ++ decimal p
place_words (Line l c) = codes " at line " ++ decimal l ++ cond (c == 0) [] (codes ", column " ++ decimal c)

-- the number, the layer, the place, and the cause
abbrev pub fault_words : Fault → List ℕ
fault_words f =
    codes "refusal " ++ decimal (number_of f.cause) ++ codes " of the " ++ layer_word (layer_of f.layer) ++ place_words f.place
    ++ codes ": " ++ cause_words f.cause
