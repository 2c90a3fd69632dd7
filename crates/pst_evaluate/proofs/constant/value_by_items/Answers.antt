use Rattle.std.proofs.Common.{◌≡◌, List, Option, ap, ◌∙◌}
use Rattle.std.specs.Prelude.{ℤ}
use Rattle.pst_base.specs.declared.position.Place.{Place}
use Rattle.pst_ast.specs.ExpressionView.{view_expr}
use Rattle.pst_type_rules.specs.Constants.{value_by}
use Rattle.pst_evaluate.specs.Known.{known_by}
use Rattle.pst_evaluate.proofs.constant.value_by_items.Goals as goal

pub returns : goal.returns
returns c =
    c.as_option.ensures ∙ (c.in_ok-evaluated.ensures
    ∙ (ap (λ (ps : List Place). value_by c.args.index.now c.args.names.now (known_by ps c.values.result.now) c.args.at.now (view_expr c.args.expr.now)) c.places.ensures
    ∙ ap (λ (vs : List (Option ℤ)). value_by c.args.index.now c.args.names.now (known_by c.args.values.now.places vs) c.args.at.now (view_expr c.args.expr.now)) c.values.ensures))
