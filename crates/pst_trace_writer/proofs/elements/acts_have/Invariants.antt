use Rattle.std.proofs.Common.{◌≡◌, drop}
use Rattle.pst_model.specs.ModelView.{view_model}
use Rattle.pst_trace_texts.specs.Lines.{any_from}
use Rattle.pst_trace_texts.specs.Elements.{act_has_element}
use Rattle.pst_trace_writer.proofs.elements.acts_have.Given as goal

abbrev pub invariant-loop-act : goal.invariant-loop-act
invariant-loop-act l =
    any_from (λ number act. act_has_element (view_model l.model) act) l.act-index (drop l.act-index l.acts) ≡ any_from (λ number act. act_has_element (view_model l.model) act) 0 l.acts
