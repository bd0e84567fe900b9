use Rattle.std.proofs.Common.{take}
use Rattle.std.specs.List.{flat_map}
use Rattle.table_writer.specs.Pages.{Puts}
use Rattle.table_writer.proofs.lines.put_rows.Given as goal

abbrev pub invariant-loop-row : goal.invariant-loop-row
invariant-loop-row g l = Puts (flat_map g.R.Row.text (take l.row-index l.rows)) l.row-index l.initial.page l.page
