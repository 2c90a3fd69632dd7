use Rattle.std.proofs.Common.{◌+◌, ◌*◌}
use Rattle.pst_tests_bodies.proofs.reading.+steps.Given as goal

abbrev pub decreases-read_step : goal.decreases-read_step
decreases-read_step l = 2 * l.depth + 2

abbrev pub decreases-read_steps : goal.decreases-read_steps
decreases-read_steps l = 2 * l.depth + 1
