use Rattle.std.proofs.Common.{◌++◌, take}
use Rattle.std.specs.Fmt.{HasWritten, IsPlainFormatter}
use Rattle.std.specs.List.{flat_map}
use Rattle.releases.specs.Printed.{plan_line, release_line}
use Rattle.releases.proofs.forecast.OutlookDisplay.fmt.Given as goal

-- the plan's line is written, and a line for each release so far
abbrev pub invariant-loop-release : goal.invariant-loop-release
invariant-loop-release g l =
    IsPlainFormatter l.fn.f → HasWritten g.W.Write.write_str_gives l.fn.f (plan_line l.self ++ flat_map release_line (take l.release-index l.self.releases)) l.f
