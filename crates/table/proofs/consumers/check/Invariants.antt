use Rattle.std.proofs.Common.{◌≡◌, ◌+◌, length, drop}
use Rattle.table.specs.Checking.{check_consumers}
use Rattle.table.proofs.consumers.check.Given as goal

-- what is left gives the answer
abbrev pub invariant-loop-i : goal.invariant-loop-i
invariant-loop-i l =
    check_consumers (length l.tasks) (l.i + 1) (l.first + l.i) (drop l.i l.tasks)
    ≡ check_consumers (length l.tasks) 1 l.first l.tasks
