use Rattle.std.proofs.Common.{◌<◌, ℕ}
use Rattle.pst_programs.specs.declared.program.Instruction.TheVariants.{Run}
use Rattle.pst_programs.specs.Machine.{IsAt}
use Rattle.pst_static.proofs.standing.lane_at.Given as goal

abbrev pub invariant-loop-lane : goal.invariant-loop-lane
invariant-loop-lane l = (m : ℕ) → m < l.lane → IsAt l.programs l.places m (Run l.act) → ⊥
