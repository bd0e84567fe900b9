-- The rows that were read, and what is known of them.
use Rattle.std.proofs.Common.{◌≡◌, ℕ, zero, suc, ◌+◌, ◌<◌, ◌≤◌, List, [], ◌∷◌, length, get_or, arith}
use Rattle.std.proofs.ByRecursion.{All-get_or}
use Rattle.table.specs.declared.rows.TaskRow.{TaskRow}
use Rattle.table.specs.Format.{Rows}
use Rattle.table.specs.Limits.{Limits, TaskLimits, Consumers}
use Rattle.admission.specs.Ranks.{no_row, Tabled}
use Rattle.admission.specs.Admission.{RowsSized}

pub consumers_at : (count i : ℕ) (rows : List TaskRow) (k : ℕ) → Consumers count i rows → k < length rows → ((get_or rows k no_row).consumer ≤ count) × ((get_or rows k no_row).consumer ≡ i + k → ⊥)
consumers_at count i [] k c h = absurd (omega arith)
consumers_at count i (r ∷ rows) zero c h = (c.0.0, λ e. c.0.1 (omega arith))
consumers_at count i (r ∷ rows) (suc k) c h =
    let n = consumers_at count (i + 1) rows k c.1 (omega arith) in
    (n.0, λ e. n.1 (omega arith))

pub tabled : (rows : Rows) → Limits rows → Tabled rows.tasks
tabled rows l =
    record {
      few = l.task_count.1;
      each = λ k h.
          let t = All-get_or TaskLimits rows.tasks k no_row h l.tasks in
          record {
            some = t.period.0;
            period = t.period.1;
            deadline = t.deadline;
            units = t.units;
            words = t.words;
            objects = t.objects;
            life = t.life;
            consumer = (consumers_at (length rows.tasks) 1 rows.tasks k l.consumers h).0;
          };
    }

pub rows_sized : (rows : Rows) → Limits rows → RowsSized rows
rows_sized rows l =
    record {
      space = l.heap.space.1;
      handles = l.heap.handles.1;
      words = l.statics.words;
      objects = l.statics.objects;
      kinds = l.kind_count.1;
      tasks = tabled rows l;
    }
