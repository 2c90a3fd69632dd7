use Rattle.std.proofs.Common.{List, subst}
use Rattle.pst_expr.specs.declared.ranges.Span.{Span}
use Rattle.pst_joined_spans.specs.Joined.{HaveCommon, HaveSame}
use Rattle.pst_range_rules.specs.Facts.{constant_at}
use Rattle.pst_field_domains.proofs.Cuts.{are_within}
use Rattle.pst_field_domains.proofs.types.cut.Goals as goal

pub returns : goal.returns
returns c =
    are_within (constant_at c.args.facts.now c.args.at.now) c.args.base.now c.args.ranges.now c.in_ok-spans.spans.items c.in_ok-kept.kept.items c.in_ok-common.common.items c.in_ok-found.found.items
    c.in_ok-spans.ensures
    (subst (HaveSame c.in_ok-kept.kept.items) c.as_slice.ensures.value c.in_ok-kept.ensures.same)
    (subst (λ (l : List Span). HaveCommon c.args.base.now l c.in_ok-common.common.items) c.as_slice-2.ensures.value c.in_ok-common.ensures)
    c.in_ok-found.ensures.joined
    (subst (HaveSame c.in_ok-found.found.items) c.as_slice-3.ensures.value c.in_ok-found.ensures.same)
