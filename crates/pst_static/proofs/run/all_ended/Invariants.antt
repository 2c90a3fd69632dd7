use Rattle.std.proofs.Common.{◌<◌, ℕ, length, get_or}
use Rattle.pst_programs.specs.Programs.{program_at}
use Rattle.pst_static.proofs.run.all_ended.Given as goal

abbrev pub invariant-loop-lane : goal.invariant-loop-lane
invariant-loop-lane l = (m : ℕ) → m < l.lane → get_or l.places m 0 < length (program_at l.programs m) → ⊥
