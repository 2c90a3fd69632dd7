use Rattle.std.proofs.Common.{sym, ◌∙◌}
use Rattle.std.specs.Option.{option_map}
use Rattle.pst_ast.specs.SharedView.{view_domain, view_plain}
use Rattle.pst_range_rules.specs.Facts.{constant_at}
use Rattle.pst_range_rules.specs.Types.{base_span}
use Rattle.pst_field_domains.proofs.Cuts.{plain_cut, plain_unknown}
use Rattle.pst_field_domains.proofs.types.plain_spans.Goals as goal

pub returns-in-None : goal.returns-in-None
returns-in-None c =
    plain_unknown (constant_at c.args.facts.now c.args.at.now) (base_span (constant_at c.args.facts.now c.args.at.now) (view_plain c.args.plain.now)) (option_map view_domain c.args.domain.now) c.new-none.result.items
    (sym c.in_ok-base.ensures ∙ c.in-None.is) c.new-none.ensures.items

pub returns-in_ok-spans-in-Some : goal.returns-in_ok-spans-in-Some
returns-in_ok-spans-in-Some c =
    plain_cut (constant_at c.args.facts.now c.args.at.now) (base_span (constant_at c.args.facts.now c.args.at.now) (view_plain c.args.plain.now)) c.in-Some.span (option_map view_domain c.args.domain.now) c.in_ok-spans-in-Some.spans.items
    (sym c.in_ok-base.ensures ∙ c.in-Some.is) c.in_ok-spans-in-Some.ensures
