use Rattle.std.proofs.Common.{◌≡◌, ◌++◌, drop}
use Rattle.std.specs.Prelude.{string_bytes}
use Rattle.pst_program_texts.specs.Texts.{steps_text}
use Rattle.pst_program_texts.proofs.writer.write_steps.Given as goal

abbrev pub invariant-loop-step : goal.invariant-loop-step
invariant-loop-step l = string_bytes l.text ++ steps_text (drop l.step-index l.steps) ≡ string_bytes l.fn.text ++ steps_text l.steps
