use Rattle.std.proofs.Common.{◌≡◌, ℕ, ◌-◌, ◌<◌, ◌≤◌, true}
use Rattle.admission.specs.Admission.{fits}
use Rattle.admission.proofs.room.Shared.longest.Given as goal

abbrev pub invariant-loop-bad : goal.invariant-loop-bad
invariant-loop-bad l =
    (l.least ≤ l.good)
    × (l.good < l.bad)
    × (l.bad ≤ 1000001)
    × (fits l.self.room l.self.tasks.list.now l.good ≡ true)
    × ((j : ℕ) → l.bad ≤ j → j ≤ 1000000 → fits l.self.room l.self.tasks.list.now j ≡ true → ⊥)

abbrev pub decreases-loop-bad : goal.decreases-loop-bad
decreases-loop-bad l = l.bad - l.good
