use Rattle.std.proofs.Common.{◌≡◌, ◌++◌, drop}
use Rattle.std.specs.Prelude.{string_bytes}
use Rattle.pst_model.specs.ModelView.{view_model}
use Rattle.pst_trace_texts.specs.Lines.{each_from}
use Rattle.pst_trace_texts.specs.Header.{first_line}
use Rattle.pst_trace_writer.proofs.nodes.write_firsts.Given as goal

abbrev pub invariant-loop-first : goal.invariant-loop-first
invariant-loop-first l =
    string_bytes l.text ++ each_from (λ number first. first_line l.names (view_model l.model) first) l.first-index (drop l.first-index l.firsts) ≡ string_bytes l.fn.text ++ each_from (λ number first. first_line l.names (view_model l.model) first) 0 l.firsts
