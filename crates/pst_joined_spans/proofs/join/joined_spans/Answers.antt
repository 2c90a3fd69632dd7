use Rattle.std.proofs.Common.{List, ap, sym, subst, ◌∙◌}
use Rattle.pst_expr.specs.declared.ranges.Span.{Span}
use Rattle.pst_joined_spans.specs.Steps.{joined}
use Rattle.pst_joined_spans.specs.Joined.{AreJoined, HaveSame}
use Rattle.pst_joined_spans.proofs.Joining.{all_joined, same_numbers}
use Rattle.pst_joined_spans.proofs.join.joined_spans.Goals as goal

pub returns-clause-joined : goal.returns-clause-joined
returns-clause-joined c =
    subst AreJoined (sym (c.in_ok-found.ensures ∙ ap joined c.as_slice.ensures.value)) (all_joined c.args.spans.now c.in_ok-upright.upright.items c.sort_by_low.new.spans.items c.in_ok-upright.ensures c.sort_by_low.ensures.same c.sort_by_low.ensures.ascending)

pub returns-clause-same : goal.returns-clause-same
returns-clause-same c =
    subst (λ (l : List Span). HaveSame l c.args.spans.now) (sym (c.in_ok-found.ensures ∙ ap joined c.as_slice.ensures.value))
    (same_numbers c.args.spans.now c.in_ok-upright.upright.items c.sort_by_low.new.spans.items c.in_ok-upright.ensures c.sort_by_low.ensures.same c.sort_by_low.ensures.ascending)
