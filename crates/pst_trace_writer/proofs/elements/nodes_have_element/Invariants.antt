use Rattle.std.proofs.Common.{◌≡◌, drop}
use Rattle.pst_model.specs.ModelView.{view_model}
use Rattle.pst_trace_texts.specs.Lines.{any_from}
use Rattle.pst_trace_texts.specs.Elements.{fill_has_element}
use Rattle.pst_trace_writer.proofs.elements.nodes_have_element.Given as goal

abbrev pub invariant-loop-node : goal.invariant-loop-node
invariant-loop-node l =
    any_from (λ number node. fill_has_element (view_model l.model) node.fill) l.node-index (drop l.node-index l.nodes) ≡ any_from (λ number node. fill_has_element (view_model l.model) node.fill) 0 l.nodes
