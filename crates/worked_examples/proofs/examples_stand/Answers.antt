use Rattle.std.proofs.Common.{refl}
use Rattle.memory.specs.Words.{zeroed}
use Rattle.heap.specs.Calls.{on_object, on_reading}
use Rattle.heap.specs.Steps.{on_next}
use Rattle.kinds.specs.Maps.{refers}
use Rattle.heap.specs.Start.{all_fit, spare_rows}
use Rattle.worked_examples.proofs.Told.{tables}
use Rattle.worked_examples.proofs.examples_stand.Goals as goal

pub returns : goal.returns
unfolding zeroed refers on_object on_reading on_next all_fit spare_rows
returns c =
    record {
      tables = tables;
      collections = record { two_survive = refl; snapshot_survives = refl; bound_is_kept = refl; nothing_survives = refl; moving_is_whole = refl };
    }
