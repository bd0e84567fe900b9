-- What a text is admitted with: the figures of its rows, or the first refusal of the reader or of admission.
use Rattle.std.specs.Prelude.{ℕ, List}
use Rattle.fault.specs.Told.{Told, answered, refused}
use Rattle.table.specs.Format.{Rows}
use Rattle.table.specs.Checking.{check}
use Rattle.admission.specs.declared.figures.Figures.{Figures}
use Rattle.admission.specs.Admission.{admission}
use Rattle.admission.specs.Planned.{blank_figures}

abbrev pub judged : Told Rows → Told Figures
judged (answered rows) = admission rows
judged (refused e) = refused e

-- a text, with room for so many kinds and tasks
abbrev pub admitted : List ℕ → ℕ → ℕ → Told Figures
admitted text k t = judged (check text k t)

abbrev pub done : Told Figures → Told (Unit {0})
done (answered f) = answered tt
done (refused e) = refused e

-- the plan after it: blank where anything is refused
abbrev pub planned : Told Figures → Figures
planned (answered f) = f
planned (refused e) = blank_figures
