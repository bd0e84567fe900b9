-- From bounds to figures.
use Rattle.std.proofs.Common.{◌≡◌, ℕ, List, length, ap, ◌∙◌}
use Rattle.fault.specs.Told.{Told}
use Rattle.table.specs.declared.rows.KindRow.{KindRow}
use Rattle.table.specs.Format.{Rows}
use Rattle.admission.specs.declared.task.Task.{Task}
use Rattle.admission.specs.declared.figures.Bounds.{Bounds}
use Rattle.admission.specs.declared.figures.Figures.{Figures}
use Rattle.admission.specs.Ranks.{ranked}
use Rattle.admission.specs.Admission.{admission, weighed, figured, figures_of, padded, no_kind, steps_of}

-- the bounds of the ranked tasks
pub weighed_part : (rows : Rows) (ts : List Task) (v : Told Bounds) → ts ≡ ranked rows.tasks → v ≡ weighed rows.heap rows.statics (length rows.kinds) ts → figured rows v ≡ admission rows
unfolding admission
weighed_part rows ts v e h =
    ap (figured rows) (h ∙ ap (λ (l : List Task). weighed rows.heap rows.statics (length rows.kinds) l) e)

pub same_figures : (rows : Rows) (b : Bounds) (ks : List KindRow) (n : ℕ) → ks ≡ padded 32 no_kind rows.kinds → n ≡ steps_of b.room → ◌≡◌ {A = Figures} (record { heap = rows.heap; statics = rows.statics; kinds = ks; kind_count = length rows.kinds; tasks = b.tasks; task_count = length rows.tasks; live_words = b.room.live_words; live_objects = b.room.live_objects; steps = n; lateness = b.room.lateness; span = b.span; period = b.period }) (figures_of rows b)
same_figures rows b ks n k s =
    let make : List KindRow → ℕ → Figures = λ x z. record { heap = rows.heap; statics = rows.statics; kinds = x; kind_count = length rows.kinds; tasks = b.tasks; task_count = length rows.tasks; live_words = b.room.live_words; live_objects = b.room.live_objects; steps = z; lateness = b.room.lateness; span = b.span; period = b.period } in
    ap (λ x. make x n) k ∙ ap (make (padded 32 no_kind rows.kinds)) s
