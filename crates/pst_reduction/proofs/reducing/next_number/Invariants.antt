use Rattle.std.proofs.Common.{◌≤◌, ◌-◌}
use Rattle.pst_reduction.proofs.reducing.next_number.Given as goal

abbrev pub invariant-words : goal.invariant-words
invariant-words l = l.from ≤ l.at

abbrev pub decreases-words : goal.decreases-words
decreases-words l = l.count - l.at
