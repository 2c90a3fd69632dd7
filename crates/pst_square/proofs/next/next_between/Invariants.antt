use Rattle.std.proofs.Common.{◌≤◌, ◌-◌}
use Rattle.pst_scen.specs.Rows.{Has}
use Rattle.pst_square.proofs.Nexts.{HoldsNowhere}
use Rattle.pst_square.proofs.next.next_between.Given as goal

abbrev pub decreases-words : goal.decreases-words
decreases-words l = l.to - l.at

abbrev pub invariant-words : goal.invariant-words
invariant-words l = record { behind : l.from ≤ l.at; none : HoldsNowhere (λ b. l.from ≤ b) (Has l.rows l.a) l.at }
