use Rattle.std.proofs.Common.{◌≡◌, ◌≤◌, ◌*◌, take}
use Rattle.pst_programs.specs.Laws.{instructions}
use Rattle.pst_program_texts.proofs.writer.count_instructions.Given as goal

abbrev pub invariant-loop-program : goal.invariant-loop-program
invariant-loop-program l = record {
  count : l.count ≡ instructions (take l.program-index l.programs);
  small : l.count ≤ l.program-index * 1152921504606846976;
}
