use Rattle.std.proofs.Common.{◌≡◌, refl, sym, ap, ◌∙◌, length}
use Rattle.std.proofs.lemmas.Bool.{ltb-true}
use Rattle.std.proofs.lemmas.Option.{slice_get_read}
use Rattle.std.specs.Prelude.{Some}
use Rattle.std.specs.Option.{option_map}
use Rattle.pst_ast.specs.ExpressionView.{view_expr}
use Rattle.pst_ast.specs.SharedView.{view_next_expr}
use Rattle.pst_ast.specs.Uses.{next_expr}
use Rattle.pst_type_rules.specs.Places.{expr_place}
use Rattle.pst_use_rules.specs.Found.{too_many}
use Rattle.pst_use_rules.proofs.Uniques.{unique_by}
use Rattle.pst_use_rules.proofs.counts.unique_finding.Goals as goal

pub returns-in-Some : goal.returns-in-Some
returns-in-Some c =
    ap Some (c.too_many.ensures ∙ ap too_many c.expr_place.ensures)
    ∙ sym (unique_by (view_expr c.args.first.now) c.args.rest.now ∙ ap (option_map (λ n. too_many (expr_place (next_expr (view_next_expr n))))) (slice_get_read c.args.rest.now (length c.args.rest.now) 63 c.in-Some.next.now refl (ltb-true 63 (length c.args.rest.now) (sym c.in-Some.ensures.lookup.0)) c.in-Some.ensures.lookup.1))
