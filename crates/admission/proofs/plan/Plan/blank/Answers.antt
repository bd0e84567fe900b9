use Rattle.std.proofs.Common.{◌≡◌, ℕ, ◌<◌, List, get_or, replicate, sym, ◌∙◌, rules, arith}
use Rattle.std.specs.Array.{AllOfLen}
use Rattle.std.proofs.lemmas.List.{same_lists, length-replicate, get_or-replicate}
use Rattle.admission.specs.Admission.{no_kind, unscheduled}
use Rattle.admission.proofs.plan.Plan.blank.Goals as goal

-- elements that are all one
all_same : {X : Type 0} (P : X → Type 0) (xs : List X) (n : ℕ) (d : X) → AllOfLen P xs n → ((x : X) → P x → x ≡ d) → xs ≡ replicate n d
all_same P xs n d a one =
    same_lists xs (replicate n d) (a.long ∙ sym (length-replicate n d))
    (λ k e h. let l : k < n = omega (arith, a.long) in one (get_or xs k e) (a.at k e l) ∙ sym (get_or-replicate n k d e l))

pub returns : goal.returns
returns c =
    let e = c.default.ensures in
    let k : c.default.result.kinds ≡ replicate 32 no_kind = all_same _ c.default.result.kinds 32 no_kind e.1.1.0 (λ x p. search rules) in
    let t : c.default.result.tasks ≡ replicate 16 unscheduled = all_same _ c.default.result.tasks 16 unscheduled e.1.1.1.1.0 (λ x p. search rules) in
    search rules
