use Rattle.std.proofs.Common.{◌≡◌, ◌++◌, drop}
use Rattle.std.specs.Prelude.{string_bytes}
use Rattle.pst_model.specs.ModelView.{view_action}
use Rattle.pst_trace_texts.specs.Lines.{each_from}
use Rattle.pst_sweep_answers.specs.Texts.{use_text, total}
use Rattle.pst_sweep_answers.proofs.lines.write_types.Given as goal

abbrev pub invariant-loop-number : goal.invariant-loop-number
invariant-loop-number l =
    string_bytes l.text ++ each_from (λ number found. use_text l.names (view_action found) (total l.rows number)) l.number (drop l.number l.types) ≡ string_bytes l.fn.text ++ each_from (λ number found. use_text l.names (view_action found) (total l.rows number)) 0 l.types
