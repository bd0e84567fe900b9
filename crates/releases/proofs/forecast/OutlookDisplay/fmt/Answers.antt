use Rattle.std.proofs.Common.{◌<◌, length, refl, rules}
use Rattle.std.proofs.Output.{has_written_append, has_written_of_eq}
use Rattle.releases.specs.Printed.{plan_line}
use Rattle.releases.proofs.Printing.{lines_more}
use Rattle.releases.proofs.forecast.OutlookDisplay.fmt.Goals as goal

pub loop-release-preserved : goal.loop-release-preserved
loop-release-preserved g c = λ p.
    let before = c.loop-release.invariant p in
    let line = c.in_ok-fmt-2.ensures.writes before.plain refl in
    let o = c.args.self.now in
    let h : c.loop-release.release-index < length o.releases = search rules in
    has_written_of_eq _ _ _ _ _ (lines_more (plan_line o) o.releases c.loop-release.release-index _ h) (has_written_append _ _ _ _ _ _ before line)
