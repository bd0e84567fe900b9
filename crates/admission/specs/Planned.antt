-- The figures of a plan, and those of a blank one.
use Rattle.std.specs.Prelude.{replicate}
use Rattle.admission.specs.declared.figures.Figures.{Figures}
use Rattle.admission.specs.declared.plan.Plan.{Plan}
use Rattle.admission.specs.Admission.{no_kind, unscheduled}

abbrev pub figures_in : Plan → Figures
figures_in p = p.figures

abbrev pub blank_figures : Figures
blank_figures =
    record {
      heap = record { space = 0; handles = 0 };
      statics = record { words = 0; objects = 0 };
      kinds = replicate 32 no_kind;
      kind_count = 0;
      tasks = replicate 16 unscheduled;
      task_count = 0;
      live_words = 0;
      live_objects = 0;
      steps = 0;
      lateness = 0;
      span = 0;
      period = 0;
    }
