use Rattle.std.proofs.Common.{◌≤◌, ◌-◌}
use Rattle.pst_square.specs.Walks.{IsOpenPair}
use Rattle.pst_square.proofs.Nexts.{HoldsNowhere}
use Rattle.pst_square.proofs.walk.next_open.Given as goal

abbrev pub decreases-words : goal.decreases-words
decreases-words l = l.count - l.at

abbrev pub invariant-words : goal.invariant-words
invariant-words l = record { from_on : l.from ≤ l.at; none : HoldsNowhere (λ b. l.from ≤ b) (IsOpenPair l.row l.base l.words l.a) l.at }
