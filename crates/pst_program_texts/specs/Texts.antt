-- Programs of lanes as texts.
use Rattle.std.specs.Prelude.{ℕ, List, [], ◌∷◌, ◌++◌, codes, decimal}
use Rattle.pst_trace_texts.specs.Lines.{line, each_from}
use Rattle.pst_programs.specs.declared.program.Instruction.{Instruction}
use Rattle.pst_programs.specs.declared.program.Instruction.TheVariants.{Run, Signal, Await}
use Rattle.pst_programs.specs.declared.program.Program.{Program}
use Rattle.pst_programs.specs.Laws.{instructions}

abbrev pub instruction_text : Instruction → List ℕ
instruction_text (Run a) = line (codes "run " ++ decimal a)
instruction_text (Signal a) = line (codes "signal " ++ decimal a)
instruction_text (Await a) = line (codes "await " ++ decimal a)

-- a line for each instruction
abbrev pub steps_text : List Instruction → List ℕ
steps_text [] = []
steps_text (step ∷ steps) = instruction_text step ++ steps_text steps

abbrev pub program_text : ℕ → Program → List ℕ
program_text lane program = line (codes "lane " ++ decimal lane) ++ steps_text program.steps

-- all programs, and the number of their instructions
abbrev pub programs_text : List Program → List ℕ
programs_text programs = each_from program_text 0 programs ++ line (codes "static " ++ decimal (instructions programs))
