use Rattle.std.proofs.Common.{◌≡◌, ◌≤◌, length}
use Rattle.memory.specs.Words.{zeroed}
use Rattle.memory.proofs.zero.Given as goal

abbrev pub invariant-loop-place : goal.invariant-loop-place
invariant-loop-place g l =
    (g.M.Readable.words l.memory ≡ zeroed (g.M.Readable.words l.initial.memory) l.place)
    × (l.place ≤ length (g.M.Readable.words l.initial.memory))
