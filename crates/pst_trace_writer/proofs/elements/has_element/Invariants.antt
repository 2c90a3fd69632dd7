use Rattle.std.proofs.Common.{◌≡◌, drop}
use Rattle.std.specs.Prelude.{slice_get}
use Rattle.pst_trace_texts.specs.Lines.{any_from}
use Rattle.pst_trace_texts.specs.Elements.{is_element}
use Rattle.pst_trace_writer.proofs.elements.has_element.Given as goal

abbrev pub invariant-loop-at : goal.invariant-loop-at
invariant-loop-at l =
    any_from (λ at value. is_element (slice_get l.fields at)) l.at (drop l.at l.values) ≡ any_from (λ at value. is_element (slice_get l.fields at)) 0 l.values
