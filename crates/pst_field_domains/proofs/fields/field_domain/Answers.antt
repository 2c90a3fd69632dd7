use Rattle.std.proofs.Common.{List, sym, subst}
use Rattle.pst_ast.specs.SharedView.{view_type}
use Rattle.pst_expr.specs.declared.ranges.Span.{Span}
use Rattle.pst_evaluate.specs.Kept.{known_in}
use Rattle.pst_range_rules.specs.Facts.{constant_at}
use Rattle.pst_field_domains.proofs.Cuts.{joined_typed}
use Rattle.pst_field_domains.specs.Known.{AreTyped}
use Rattle.pst_field_domains.proofs.fields.field_domain.Goals as goal

pub domain_of-requires : goal.domain_of-requires
domain_of-requires c =
    joined_typed (constant_at c.args.facts.now c.args.field.now.at) (known_in c.args.table.now.items) c.args.facts.now.index.now c.args.table.now.enums c.args.field.now.at (view_type c.args.field.now.field_type.now) c.in_ok-spans.spans.items
    c.in_ok-spans.ensures

pub returns : goal.returns
returns c = (
  c.in_ok-domain.ensures.domain,
  subst (λ (l : List Span). AreTyped (constant_at c.args.facts.now c.args.field.now.at) (known_in c.args.table.now.items) c.args.facts.now.index.now c.args.table.now.enums c.args.field.now.at (view_type c.args.field.now.field_type.now) l)
      (sym c.in_ok-domain.ensures.same) c.in_ok-spans.ensures,
)
