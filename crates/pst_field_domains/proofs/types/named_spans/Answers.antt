use Rattle.std.proofs.Common.{List, subst}
use Rattle.std.specs.Option.{option_map}
use Rattle.pst_ast.specs.SharedView.{view_domain}
use Rattle.pst_expr.specs.declared.ranges.Span.{Span}
use Rattle.pst_evaluate.specs.Kept.{known_in}
use Rattle.pst_range_rules.specs.Facts.{constant_at}
use Rattle.pst_field_domains.proofs.Cuts.{named_cut, named_unknown}
use Rattle.pst_field_domains.specs.Known.{AreCut, enum_of_name}
use Rattle.pst_field_domains.proofs.types.named_spans.Goals as goal

pub returns-in-None : goal.returns-in-None
returns-in-None c =
    named_unknown (constant_at c.args.facts.now c.args.at.now) (known_in c.args.table.now.items) (enum_of_name c.args.facts.now.index.now c.args.table.now.enums c.args.at.now c.args.name.now) (option_map view_domain c.args.domain.now) c.new-none.result.items
    c.new-none.ensures.items c.in-None.ensures

pub returns-in_ok-spans-in-Some : goal.returns-in_ok-spans-in-Some
returns-in_ok-spans-in-Some c =
    named_cut (constant_at c.args.facts.now c.args.at.now) (known_in c.args.table.now.items) (enum_of_name c.args.facts.now.index.now c.args.table.now.enums c.args.at.now c.args.name.now) c.in-Some.row.now (option_map view_domain c.args.domain.now) c.in_ok-spans-in-Some.spans.items
    c.in-Some.ensures
    (subst (λ (l : List Span). AreCut (constant_at c.args.facts.now c.args.at.now) l (option_map view_domain c.args.domain.now) c.in_ok-spans-in-Some.spans.items) c.as_slice.ensures.same c.in_ok-spans-in-Some.ensures)
