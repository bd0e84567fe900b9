-- Text on a page.
use Rattle.std.specs.Prelude.{◌≡◌, ℕ, ◌+◌, ◌*◌, ◌≤◌, List, ◌++◌}
use Rattle.arrayvec.specs.ArrayString.{ArrayString, array_string_len}
use Rattle.table_writer.specs.declared.page.TheConstants.{LONGEST_LINE, ROOM}

-- a page has room for so many lines
abbrev pub HasRoom : ArrayString → ℕ → Type 0
HasRoom page lines = array_string_len page + LONGEST_LINE * lines ≤ ROOM

-- a text was put at the end of a page, within the room of so many lines
pub record Puts (text : List ℕ) (lines : ℕ) (old new : ArrayString) : Type 0 where
  pub text_is : new.bytes ≡ old.bytes ++ text
  pub grows : array_string_len new ≤ array_string_len old + LONGEST_LINE * lines
