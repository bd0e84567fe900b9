use Rattle.std.proofs.Common.{◌≡◌, [], ◌++◌, map, length, take, drop, replicate}
use Rattle.admission.specs.Admission.{responses, unscheduled}
use Rattle.admission.proofs.Timing.{after}
use Rattle.admission.proofs.accepted.Accepted.schedule.Given as goal

-- the times so far, and those of the tasks that are left, are those of all
abbrev pub invariant-loop-i : goal.invariant-loop-i
invariant-loop-i l =
    (length l.scheduled ≡ 16)
    × (l.scheduled ≡ take l.i l.scheduled ++ drop l.i (replicate 16 unscheduled))
    × (map (λ s. s.task) (take l.i l.scheduled) ≡ take l.i l.tasks.list.now)
    × (after (map (λ s. s.response) (take l.i l.scheduled)) (responses (take l.i l.tasks.list.now) (drop l.i l.tasks.list.now)) ≡ responses [] l.tasks.list.now)
