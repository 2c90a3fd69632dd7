use Rattle.std.proofs.Common.{◌≡◌, ◌<◌, ℕ, length, Some, slice_get}
use Rattle.std.specs.Global.{Vec}
use Rattle.pst_programs.specs.declared.program.Instruction.{Instruction}
use Rattle.pst_programs.specs.Programs.{program_at}
use Rattle.pst_static.specs.Drafts.{signalled}
use Rattle.pst_static.proofs.programs.programs_of.Given as goal

abbrev pub invariant-loop-lane : goal.invariant-loop-lane
invariant-loop-lane l = record {
  many : length l.programs.items ≡ l.lane;
  each : (m : ℕ) (d : Vec Instruction) → m < l.lane → slice_get l.drafts m ≡ Some d → program_at l.programs.items m ≡ signalled l.told d.items;
}
