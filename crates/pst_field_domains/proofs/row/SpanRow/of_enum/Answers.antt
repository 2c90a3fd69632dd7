use Rattle.std.proofs.Common.{subst}
use Rattle.pst_ast.specs.DeclarationView.{view_enum}
use Rattle.pst_evaluate.specs.Kept.{known_in}
use Rattle.pst_joined_spans.specs.Joined.{HaveSame}
use Rattle.pst_field_domains.proofs.Enums.{are_enum_spans}
use Rattle.pst_field_domains.proofs.row.SpanRow.of_enum.Goals as goal

pub returns : goal.returns
returns c =
    are_enum_spans (known_in c.args.values.now) c.args.site.now.component (view_enum c.args.site.now.node.now) c.in_ok-points.points.items c.in_ok-spans.spans.items c.in_ok-points.ensures c.in_ok-spans.ensures.joined
    (subst (HaveSame c.in_ok-spans.spans.items) c.as_slice.ensures.value c.in_ok-spans.ensures.same)
