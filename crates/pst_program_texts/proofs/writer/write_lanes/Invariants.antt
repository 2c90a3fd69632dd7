use Rattle.std.proofs.Common.{◌≡◌, ◌++◌, drop}
use Rattle.std.specs.Prelude.{string_bytes}
use Rattle.pst_trace_texts.specs.Lines.{each_from}
use Rattle.pst_program_texts.specs.Texts.{program_text}
use Rattle.pst_program_texts.proofs.writer.write_lanes.Given as goal

abbrev pub invariant-loop-lane : goal.invariant-loop-lane
invariant-loop-lane l = string_bytes l.text ++ each_from program_text l.lane (drop l.lane l.programs) ≡ string_bytes l.fn.text ++ each_from program_text 0 l.programs
