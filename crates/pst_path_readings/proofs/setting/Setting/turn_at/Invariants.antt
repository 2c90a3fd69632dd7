use Rattle.std.proofs.Common.{◌≡◌, length, reverse}
use Rattle.pst_path_readings.specs.Set.{turn_found}
use Rattle.pst_path_readings.proofs.setting.Setting.turn_at.Given as goal

abbrev pub invariant-loop-last : goal.invariant-loop-last
invariant-loop-last l = turn_found l.place (reverse l.left) ≡ turn_found l.place (reverse l.self.turns.items)

abbrev pub decreases-loop-last : goal.decreases-loop-last
decreases-loop-last l = length l.left
