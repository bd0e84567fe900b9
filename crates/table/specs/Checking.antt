-- The check of a text: its first refusal, or its rows.
use Rattle.std.specs.Prelude.{ℕ, zero, suc, ◌+◌, ◌-◌, ◌*◌, ◌^◌, min, Bool, true, false, cond, not, ◌&&◌, ◌||◌, List, [], ◌∷◌, length, take, drop, codes, decimal, ◌==◌, nat_le, slice_index}
use Rattle.std.specs.List.{prefix_len}
use Rattle.std.specs.Str.{all_ascii_digits, bytes_eq}
use Rattle.fault.specs.Told.{Told, answered, refused, Refusal}
use Rattle.fault.specs.Told.{text as in_text}
use Rattle.table.specs.declared.rows.HeapRow.{HeapRow}
use Rattle.table.specs.declared.rows.StaticRow.{StaticRow}
use Rattle.table.specs.declared.rows.KindRow.{KindRow}
use Rattle.table.specs.declared.rows.TaskRow.{TaskRow}
use Rattle.table.specs.Format.{Rows}

-- a refusal at a line and a column
abbrev pub misread : ℕ → ℕ → ℕ → Refusal
misread n l c = record { number = n; layer = in_text; place = l; column = c }

abbrev pub refuse : {A : Type 0} → ℕ → ℕ → ℕ → Told A
refuse n l c = refused (misread n l c)

-- what is left of a text, and where that begins
pub record Spot : Type 0 where
  pub rest : List ℕ
  pub line : ℕ
  pub column : ℕ

abbrev pub at : List ℕ → ℕ → ℕ → Spot
at r l c = record { rest = r; line = l; column = c }

-- what was read and where reading goes on, or the first refusal
abbrev pub Read : Type 0 → Type 0
Read A = Told (A × Spot)

abbrev pub then : {A B : Type 0} → Read A → (A → Spot → Told B) → Told B
then (answered x) f = f x.0 x.1
then (refused e) f = refused e

abbrev pub placed : {A : Type 0} → Told A → Spot → Read A
placed (answered x) s = answered (x, s)
placed (refused e) s = refused e

-- Fields.

-- a byte of a field or of a first word: neither a comma nor a line end
abbrev pub inside : ℕ → Bool
inside b = not (b == 44 || b == 10)

abbrev pub front : List ℕ → List ℕ
front text = take (prefix_len inside text) text

abbrev pub after : List ℕ → List ℕ
after text = drop (prefix_len inside text) text

-- the number that digits write, after n
abbrev pub digits_value : ℕ → List ℕ → ℕ
digits_value n [] = n
digits_value n (c ∷ cs) = digits_value (10 * n + (c - 48)) cs

-- one to ten bytes, and no leading zero
abbrev pub shaped : List ℕ → Bool
shaped ds = nat_le 1 (length ds) && (nat_le (length ds) 10 && (length ds == 1 || not (slice_index ds 0 == 48)))

abbrev pub is_number : List ℕ → Bool
is_number ds = all_ascii_digits ds && shaped ds

abbrev pub within : ℕ → ℕ → ℕ → Bool
within low high n = nat_le low n && nat_le n high

-- a field that begins at a line and a column: 3 if it is no number, 4 if that is outside its limits
abbrev pub field_value : ℕ → ℕ → ℕ → ℕ → List ℕ → Told ℕ
field_value low high l c ds =
    cond (is_number ds) (cond (within low high (digits_value 0 ds)) (answered (digits_value 0 ds)) (refuse 4 l c)) (refuse 3 l c)

-- a comma and a number within limits; 5 where the comma is missing
unfoldable pub number : ℕ → ℕ → Spot → Read ℕ
number low high s =
    cond (slice_index s.rest 0 == 44)
    (placed (field_value low high s.line (s.column + 1) (front (drop 1 s.rest)))
    (at (after (drop 1 s.rest)) s.line (s.column + 1 + length (front (drop 1 s.rest)))))
    (refuse 5 s.line s.column)

-- the end of a line; 5 where something else is left of it
unfoldable pub line_end : Spot → Read (Unit {0})
line_end s =
    cond (slice_index s.rest 0 == 10) (answered (tt, at (drop 1 s.rest) (s.line + 1) 1)) (refuse 5 s.line s.column)

-- Lines, after their first word.

abbrev pub read_heap : Spot → Read HeapRow
read_heap s0 =
    then (number 1 8192 s0) (λ space s1. then (number 1 256 s1) (λ handles s2. then (line_end s2) (λ _ s3.
    answered (record { space = space; handles = handles }, s3))))

abbrev pub read_static : Spot → Read StaticRow
read_static s0 =
    then (number 0 8192 s0) (λ words s1. then (number 0 256 s1) (λ objects s2. then (line_end s2) (λ _ s3.
    answered (record { words = words; objects = objects }, s3))))

abbrev pub read_kind : Spot → Read KindRow
read_kind s0 =
    then (number 1 32 s0) (λ size s1. then (number 0 (2 ^ size - 1) s1) (λ map s2. then (line_end s2) (λ _ s3.
    answered (record { size = size; map = map }, s3))))

-- exactly one of life and consumer is 0, and a consumer is at most 16
abbrev pub consumer_low : ℕ → ℕ
consumer_low life = cond (life == 0) 1 0

abbrev pub consumer_high : ℕ → ℕ
consumer_high life = cond (life == 0) 16 0

abbrev pub read_task : Spot → Read TaskRow
read_task s0 =
    then (number 1 1000000 s0) (λ period s1. then (number 1 period s1) (λ deadline s2. then (number 1 deadline s2) (λ units s3.
    then (number 0 8192 s3) (λ words s4. then (number 0 256 s4) (λ objects s5. then (number 0 64 s5) (λ life s6.
    then (number (consumer_low life) (consumer_high life) s6) (λ consumer s7. then (line_end s7) (λ _ s8.
    answered (record { period = period; deadline = deadline; units = units; words = words; objects = objects; life = life; consumer = consumer }, s8)))))))))

-- First words.

-- whether a line begins with this word
unfoldable pub leads : List ℕ → Spot → Bool
leads w s = bytes_eq (front s.rest) w

-- after a first word
abbrev pub past_word : List ℕ → Spot → Spot
past_word w s = at (after s.rest) s.line (s.column + length w)

-- the one line that begins with this word; 2 if another stands here
unfoldable pub one_line : {R : Type 0} → List ℕ → (Spot → Read R) → Spot → Read R
one_line w read s = cond (leads w s) (read (past_word w s)) (refuse 2 s.line 1)

-- lines as long as they begin with this word, as many as there is room for
unfoldable pub more_lines : {R : Type 0} → List ℕ → (Spot → Read R) → ℕ → Spot → Read (List R)
more_lines w read zero s = answered ([], s)
more_lines w read (suc room) s =
    cond (leads w s)
    (then (read (past_word w s)) (λ r s1. then (more_lines w read room s1) (λ rs s2. answered (r ∷ rs, s2))))
    (answered ([], s))

-- Consumers.

-- the column after a comma and a number
abbrev pub past : ℕ → ℕ → ℕ
past column n = column + 1 + length (decimal n)

-- where the consumer of a task begins in its line
abbrev pub consumer_column : TaskRow → ℕ
consumer_column r =
    past (past (past (past (past (past 5 r.period) r.deadline) r.units) r.words) r.objects) r.life + 1

-- tasks from number i on, in the lines from l on, of a table of so many: 4 at the first whose consumer is
-- itself or none of them
abbrev pub check_consumers : ℕ → ℕ → ℕ → List TaskRow → Told (Unit {0})
check_consumers count i l [] = answered tt
check_consumers count i l (r ∷ rs) =
    cond (nat_le r.consumer count && not (r.consumer == i)) (check_consumers count (i + 1) (l + 1) rs) (refuse 4 l (consumer_column r))

abbrev pub unless : {A : Type 0} → Told (Unit {0}) → A → Told A
unless (answered x) a = answered a
unless (refused e) a = refused e

-- The whole text.

abbrev pub none : {A : Type 0} → List A → Bool
none [] = true
none (x ∷ xs) = false

-- after the last task: 2 if there was none, or if a line is left
unfoldable pub finish : HeapRow → StaticRow → List KindRow → List TaskRow → Spot → Told Rows
finish heap statics kinds tasks s =
    cond (none tasks || not (none s.rest))
    (refuse 2 s.line 1)
    (unless (check_consumers (length tasks) 1 (3 + length kinds) tasks) (record { heap = heap; statics = statics; kinds = kinds; tasks = tasks }))

-- a text line by line, with room for so many kinds and tasks
unfoldable pub check_lines : ℕ → ℕ → List ℕ → Told Rows
check_lines k t text =
    then (one_line (codes "heap") read_heap (at text 1 1)) (λ heap s1.
    then (one_line (codes "static") read_static s1) (λ statics s2.
    then (more_lines (codes "kind") read_kind (min 32 k) s2) (λ kinds s3.
    cond (none kinds) (refuse 2 s3.line 1)
    (then (more_lines (codes "task") read_task (min 16 t) s3) (λ tasks s4. finish heap statics kinds tasks s4)))))

-- up to 8192 bytes, the last of them a line end
abbrev pub is_whole : List ℕ → Bool
is_whole text = nat_le (length text) 8192 && slice_index text (length text - 1) == 10

-- a text, where the caller has room for so many kinds and tasks
unfoldable pub check : List ℕ → ℕ → ℕ → Told Rows
check text k t = cond (is_whole text) (check_lines k t text) (refuse 6 0 0)
