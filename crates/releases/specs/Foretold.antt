-- What a forecast says of a text that is admitted with figures, or refused.
use Rattle.std.specs.Prelude.{◌≡◌, Ok, Err, Result}
use Rattle.fault.specs.declared.Fault.{Fault}
use Rattle.fault.specs.Told.{Told, answered, refused, refusal}
use Rattle.admission.specs.declared.figures.Figures.{Figures}
use Rattle.releases.specs.declared.forecast.Outlook.{Outlook}
use Rattle.releases.specs.Releases.{FirstReleases}

pub record OutlookOf (f : Figures) (o : Outlook) : Type 0 where
  pub period : o.period ≡ f.period
  pub lateness : o.lateness ≡ f.lateness
  pub steps : o.steps ≡ f.steps
  pub span : o.span ≡ f.span
  pub releases : FirstReleases f 8 o.releases

abbrev pub Foretold : Told Figures → Result Outlook Fault → Type 0
Foretold v (Ok o) = (f : Figures) × (v ≡ answered f) × OutlookOf f o
Foretold v (Err e) = v ≡ refused (refusal e)
