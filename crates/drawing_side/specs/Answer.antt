-- What the drawing side gets.
use Rattle.std.specs.Prelude.{◌-◌, ℤ, pos, negsuc}
use Rattle.fault.specs.Told.{Told, answered, refused}
use Rattle.admission.specs.declared.figures.Figures.{Figures}

-- the period, or minus the number of the refusal (`negsuc n` is minus n and 1 more)
abbrev pub answer : Told Figures → ℤ
answer (answered f) = pos f.period
answer (refused e) = negsuc (e.number - 1)
