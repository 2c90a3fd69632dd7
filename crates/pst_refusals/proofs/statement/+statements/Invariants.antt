use Rattle.std.proofs.Common.{◌+◌, ◌*◌}
use Rattle.pst_refusals.proofs.statement.+statements.Given as goal

abbrev pub decreases-stated_by : goal.decreases-stated_by
decreases-stated_by l = 2 * l.levels

abbrev pub decreases-in_turn : goal.decreases-in_turn
decreases-in_turn l = 2 * l.levels + 1

abbrev pub decreases-in_part : goal.decreases-in_part
decreases-in_part l = 2 * l.levels + 1
