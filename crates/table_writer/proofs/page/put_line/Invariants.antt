use Rattle.std.proofs.Common.{◌≡◌, ◌+◌, ◌*◌, ◌≤◌, ◌++◌, take}
use Rattle.std.specs.List.{flat_map}
use Rattle.arrayvec.specs.ArrayString.{array_string_len}
use Rattle.table_writer.proofs.Pens.{comma}
use Rattle.table_writer.proofs.page.put_line.Given as goal

abbrev pub invariant-loop-n : goal.invariant-loop-n
invariant-loop-n l =
    (l.page.bytes ≡ l.initial.page.bytes ++ flat_map comma (take l.n-index l.numbers))
    × (array_string_len l.page ≤ array_string_len l.initial.page + 11 * l.n-index)
