-- Words in bytes: four to a word, most significant byte first.
use Rattle.std.specs.Prelude.{ℕ, ◌+◌, ◌*◌, ◌/◌, ◌%◌, cond, List, map, length, nat_lt, slice_index, slice_set}
use Rattle.std.specs.List.{range_with_len}

-- the word whose four bytes begin at byte 4p
abbrev pub word_at : List ℕ → ℕ → ℕ
word_at bs p = slice_index bs (4 * p) * 16777216 + slice_index bs (4 * p + 1) * 65536 + slice_index bs (4 * p + 2) * 256 + slice_index bs (4 * p + 3)

-- the words of a list of bytes; up to three last bytes belong to none
unfoldable pub words_of : List ℕ → List ℕ
words_of bs = map (word_at bs) (range_with_len 0 (length bs / 4))

-- four bytes in a row, from byte i on
abbrev pub put4 : List ℕ → ℕ → ℕ → ℕ → ℕ → ℕ → List ℕ
put4 bs i a b c d = slice_set (slice_set (slice_set (slice_set bs i a) (i + 1) b) (i + 2) c) (i + 3) d

-- the bytes once word p is set: its four bytes are v's, and every other byte is as it was
abbrev pub stored : List ℕ → ℕ → ℕ → List ℕ
stored bs p v =
    cond (nat_lt p (length bs / 4))
    (put4 bs (4 * p) (v / 16777216 % 256) (v / 65536 % 256) (v / 256 % 256) (v % 256))
    bs
