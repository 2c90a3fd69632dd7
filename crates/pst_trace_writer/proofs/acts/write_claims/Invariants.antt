use Rattle.std.proofs.Common.{◌≡◌, ◌++◌, drop}
use Rattle.std.specs.Prelude.{string_bytes, slice_get}
use Rattle.pst_model.specs.ModelView.{view_model}
use Rattle.pst_trace_texts.specs.Lines.{each_from}
use Rattle.pst_trace_texts.specs.Header.{claim_text}
use Rattle.pst_trace_writer.proofs.acts.write_claims.Given as goal

abbrev pub invariant-loop-number : goal.invariant-loop-number
invariant-loop-number l =
    string_bytes l.text ++ each_from (claim_text l.names (view_model l.model) (slice_get (view_model l.model).actions l.action)) l.number (drop l.number l.claims) ≡ string_bytes l.fn.text ++ each_from (claim_text l.names (view_model l.model) (slice_get (view_model l.model).actions l.action)) 0 l.claims
