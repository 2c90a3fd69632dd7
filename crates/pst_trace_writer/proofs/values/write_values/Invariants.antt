use Rattle.std.proofs.Common.{◌≡◌, ◌++◌, drop}
use Rattle.std.specs.Prelude.{string_bytes, slice_get}
use Rattle.pst_trace_texts.specs.Lines.{each_from}
use Rattle.pst_trace_texts.specs.Header.{value_text}
use Rattle.pst_trace_writer.proofs.values.write_values.Given as goal

abbrev pub invariant-loop-at : goal.invariant-loop-at
invariant-loop-at l =
    string_bytes l.text ++ each_from (λ at value. value_text l.names (l.own ++ l.dot) (slice_get l.fields at) value) l.at (drop l.at l.values) ≡ string_bytes l.fn.text ++ each_from (λ at value. value_text l.names (l.own ++ l.dot) (slice_get l.fields at) value) 0 l.values
