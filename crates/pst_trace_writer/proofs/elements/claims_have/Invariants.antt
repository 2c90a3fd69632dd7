use Rattle.std.proofs.Common.{◌≡◌, drop}
use Rattle.std.specs.Prelude.{slice_get}
use Rattle.pst_model.specs.ModelView.{view_model}
use Rattle.pst_trace_texts.specs.Lines.{any_from}
use Rattle.pst_trace_texts.specs.Elements.{claim_has_element}
use Rattle.pst_trace_writer.proofs.elements.claims_have.Given as goal

abbrev pub invariant-loop-number : goal.invariant-loop-number
invariant-loop-number l =
    any_from (claim_has_element (view_model l.model) (slice_get (view_model l.model).actions l.action)) l.number (drop l.number l.claims) ≡ any_from (claim_has_element (view_model l.model) (slice_get (view_model l.model).actions l.action)) 0 l.claims
