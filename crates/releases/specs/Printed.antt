-- What is printed of a forecast: lines of numbers between commas.
use Rattle.std.specs.Prelude.{ℕ, List, ◌++◌, Ok, Err, codes, decimal}
use Rattle.std.specs.List.{flat_map}
use Rattle.fault.specs.Told.{refusal}
use Rattle.queue.specs.declared.entries.Release.{Release}
use Rattle.queue.specs.declared.entries.Source.{Source}
use Rattle.queue.specs.declared.entries.Source.TheVariants.{Task, Collector}
use Rattle.fault.specs.declared.Fault.{Fault}
use Rattle.std.specs.Prelude.{Result}
use Rattle.releases.specs.declared.forecast.Outlook.{Outlook}

-- a task by its number, and 0 for the collector
abbrev pub source_number : Source → ℕ
source_number (Task n) = n
source_number Collector = 0

-- the tick, and who is released
abbrev pub release_line : Release → List ℕ
release_line r = decimal r.tick ++ codes "," ++ decimal (source_number r.source) ++ codes "\n"

abbrev pub plan_line : Outlook → List ℕ
plan_line o =
    codes "plan," ++ decimal o.period ++ codes "," ++ decimal o.lateness ++ codes "," ++ decimal o.steps ++ codes "," ++ decimal o.span
    ++ codes "\n"

-- the plan, and a line for each release
abbrev pub outlook_text : Outlook → List ℕ
outlook_text o = plan_line o ++ flat_map release_line o.releases

-- the refusal's number, line and column
abbrev pub refused_line : Fault → List ℕ
refused_line e =
    codes "refused," ++ decimal (refusal e).number ++ codes "," ++ decimal (refusal e).place ++ codes "," ++ decimal (refusal e).column
    ++ codes "\n"

abbrev pub forecast_text : Result Outlook Fault → List ℕ
forecast_text (Ok o) = outlook_text o
forecast_text (Err e) = refused_line e
