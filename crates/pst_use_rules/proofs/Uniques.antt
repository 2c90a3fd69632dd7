-- The item of a `unique` that is one too many.
use Rattle.std.proofs.Common.{◌≡◌, refl, ap, ◌∙◌, List, ◌∷◌, Option}
use Rattle.std.proofs.lemmas.Option.{slice_get-map}
use Rattle.std.specs.Prelude.{Some, None, map, slice_get}
use Rattle.std.specs.Option.{option_map}
use Rattle.pst_ast.specs.ExpressionTree.{ExprTree}
use Rattle.pst_ast.specs.SharedView.{view_next_expr}
use Rattle.pst_ast.specs.declared.shared.NextExpr.{NextExpr}
use Rattle.pst_ast.specs.declared.referent.Finding.{Finding}
use Rattle.pst_ast.specs.Uses.{next_expr}
use Rattle.pst_type_rules.specs.Places.{expr_place}
use Rattle.pst_use_rules.specs.Found.{too_many, unique_found}

abbrev found_at : NextExpr → Finding
found_at n = too_many (expr_place (next_expr (view_next_expr n)))

at_item : (o : Option NextExpr) → option_map (λ e. too_many (expr_place e)) (option_map next_expr (option_map view_next_expr o)) ≡ option_map found_at o
at_item None = refl
at_item (Some n) = refl

pub unique_by : (first : ExprTree) (rest : List NextExpr) → unique_found (first ∷ map next_expr (map view_next_expr rest)) ≡ option_map (λ n. too_many (expr_place (next_expr (view_next_expr n)))) (slice_get rest 63)
unique_by first rest =
    ap (option_map (λ e. too_many (expr_place e))) (slice_get-map next_expr (map view_next_expr rest) 63 ∙ ap (option_map next_expr) (slice_get-map view_next_expr rest 63))
    ∙ at_item (slice_get rest 63)
