use Rattle.std.proofs.Common.{◌≡◌, drop}
use Rattle.std.specs.Prelude.{slice_get}
use Rattle.pst_model.specs.ModelView.{view_model}
use Rattle.pst_trace_texts.specs.Lines.{any_from}
use Rattle.pst_trace_texts.specs.Elements.{reference_has_element}
use Rattle.pst_trace_writer.proofs.elements.references_have.Given as goal

abbrev pub invariant-loop-number : goal.invariant-loop-number
invariant-loop-number l =
    any_from (reference_has_element (view_model l.model) (slice_get (view_model l.model).actions l.action)) l.number (drop l.number l.references) ≡ any_from (reference_has_element (view_model l.model) (slice_get (view_model l.model).actions l.action)) 0 l.references
