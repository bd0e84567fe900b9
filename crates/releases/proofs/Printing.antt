-- The lines of a forecast, one after the other.
use Rattle.std.proofs.Common.{◌≡◌, ℕ, ◌+◌, ◌<◌, List, ◌++◌, length, get_or, take, ap, sym, ◌∙◌}
use Rattle.std.specs.List.{flat_map}
use Rattle.std.proofs.lemmas.List.{flat_map_more, take_more}
use Rattle.queue.specs.declared.entries.Release.{Release}
use Rattle.releases.specs.Printed.{release_line}

-- one more line
pub lines_more : (front : List ℕ) (rs : List Release) (i : ℕ) (d : Release) → i < length rs → (front ++ flat_map release_line (take i rs)) ++ release_line (get_or rs i d) ≡ front ++ flat_map release_line (take (i + 1) rs)
lines_more front rs i d h =
    flat_map_more release_line front (take i rs) (get_or rs i d) ∙ ap (λ (v : List Release). front ++ flat_map release_line v) (sym (take_more rs i d h))
