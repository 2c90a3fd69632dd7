use Rattle.std.proofs.Common.{◌+◌, ◌*◌}
use Rattle.pst_tests_walks.proofs.activities.+steps.Given as goal

abbrev pub decreases-step : goal.decreases-step
decreases-step l = 4 * l.depth

abbrev pub decreases-steps : goal.decreases-steps
decreases-steps l = 4 * l.depth + 1

abbrev pub decreases-branch : goal.decreases-branch
decreases-branch l = 4 * l.depth + 1

abbrev pub decreases-arm : goal.decreases-arm
decreases-arm l = 4 * l.depth + 1

abbrev pub decreases-branches : goal.decreases-branches
decreases-branches l = 4 * l.depth + 2

abbrev pub decreases-arms : goal.decreases-arms
decreases-arms l = 4 * l.depth + 2

abbrev pub decreases-optional : goal.decreases-optional
decreases-optional l = 4 * l.depth + 1

abbrev pub decreases-conditional : goal.decreases-conditional
decreases-conditional l = 4 * l.depth + 2

abbrev pub decreases-matched : goal.decreases-matched
decreases-matched l = 4 * l.depth + 3
