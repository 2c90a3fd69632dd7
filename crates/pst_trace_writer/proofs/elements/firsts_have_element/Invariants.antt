use Rattle.std.proofs.Common.{◌≡◌, drop}
use Rattle.std.specs.Prelude.{slice_get}
use Rattle.pst_model.specs.ModelView.{view_model}
use Rattle.pst_trace_texts.specs.Lines.{any_from}
use Rattle.pst_trace_texts.specs.Elements.{has_element}
use Rattle.pst_trace_texts.specs.Named.{pool_fields}
use Rattle.pst_trace_writer.proofs.elements.firsts_have_element.Given as goal

abbrev pub invariant-loop-first : goal.invariant-loop-first
invariant-loop-first l =
    any_from (λ number first. has_element (pool_fields (view_model l.model) (slice_get (view_model l.model).pools first.pool)) first.values) l.first-index (drop l.first-index l.firsts) ≡ any_from (λ number first. has_element (pool_fields (view_model l.model) (slice_get (view_model l.model).pools first.pool)) first.values) 0 l.firsts
