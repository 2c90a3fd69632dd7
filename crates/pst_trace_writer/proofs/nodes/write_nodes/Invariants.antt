use Rattle.std.proofs.Common.{◌≡◌, ◌++◌, drop}
use Rattle.std.specs.Prelude.{string_bytes}
use Rattle.pst_model.specs.ModelView.{view_model}
use Rattle.pst_trace_texts.specs.Lines.{each_from}
use Rattle.pst_trace_texts.specs.Header.{compound_text}
use Rattle.pst_trace_writer.proofs.nodes.write_nodes.Given as goal

abbrev pub invariant-loop-node : goal.invariant-loop-node
invariant-loop-node l =
    string_bytes l.text ++ each_from (λ number node. compound_text l.names (view_model l.model) node.fill) l.node-index (drop l.node-index l.nodes) ≡ string_bytes l.fn.text ++ each_from (λ number node. compound_text l.names (view_model l.model) node.fill) 0 l.nodes
