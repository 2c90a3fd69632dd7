use Rattle.std.proofs.Common.{◌≡◌, ◌++◌, drop}
use Rattle.std.specs.Prelude.{string_bytes}
use Rattle.pst_trace_texts.specs.Lines.{each_from}
use Rattle.pst_trace_texts.specs.Header.{join_text}
use Rattle.pst_trace_writer.proofs.nodes.write_joins.Given as goal

abbrev pub invariant-loop-number : goal.invariant-loop-number
invariant-loop-number l =
    string_bytes l.text ++ each_from (λ number node. join_text number node.fill) l.number (drop l.number l.nodes) ≡ string_bytes l.fn.text ++ each_from (λ number node. join_text number node.fill) 0 l.nodes
