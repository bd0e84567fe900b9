use Rattle.std.proofs.Common.{arith}
use Rattle.table.proofs.Sound.{number_sound}
use Rattle.table.proofs.reader.lines.KindRowRow.read.Goals as goal

pub largest_map-requires : goal.largest_map-requires
largest_map-requires c = omega (arith, (number_sound _ _ _ _ _ c.in_ok-size.ensures).1.1)
