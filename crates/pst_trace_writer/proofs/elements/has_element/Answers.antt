use Rattle.std.proofs.Common.{sym, ◌∙◌}
use Rattle.std.specs.Prelude.{ℤ, pos, slice_get}
use Rattle.pst_trace_texts.specs.Elements.{is_element, has_element}
use Rattle.pst_trace_writer.proofs.Each.{any_more_at, any_here_at}
use Rattle.pst_trace_writer.proofs.elements.has_element.Goals as goal

pub returns-then-is_element : goal.returns-then-is_element
returns-then-is_element c =
    any_here_at (λ at (value : ℤ). is_element (slice_get c.args.fields.now at)) c.args.values.now c.loop-at.at (pos 0) (has_element c.args.fields.now c.args.values.now) c.loop-at-test.true (sym c.is_element.ensures ∙ c.if-is_element.true) c.loop-at.invariant

pub loop-at-preserved : goal.loop-at-preserved
loop-at-preserved c =
    any_more_at (λ at (value : ℤ). is_element (slice_get c.args.fields.now at)) c.args.values.now c.loop-at.at (pos 0) (has_element c.args.fields.now c.args.values.now) c.loop-at-test.true (sym c.is_element.ensures ∙ c.if-is_element.false) c.loop-at.invariant
