use Rattle.std.proofs.Common.{◌≡◌, ◌++◌, drop}
use Rattle.std.specs.Prelude.{string_bytes}
use Rattle.pst_model.specs.ModelView.{view_model}
use Rattle.pst_trace_texts.specs.Lines.{each_from}
use Rattle.pst_trace_texts.specs.Header.{action_line}
use Rattle.pst_trace_writer.proofs.acts.write_acts.Given as goal

abbrev pub invariant-loop-number : goal.invariant-loop-number
invariant-loop-number l =
    string_bytes l.text ++ each_from (action_line l.names (view_model l.model) l.scenario) l.number (drop l.number l.scenario.actions) ≡ string_bytes l.fn.text ++ each_from (action_line l.names (view_model l.model) l.scenario) 0 l.scenario.actions
