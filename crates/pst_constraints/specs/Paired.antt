-- The items of a `unique` behind the first.
use Rattle.std.specs.Prelude.{List, map}
use Rattle.pst_ast.specs.SharedView.{view_next_expr}
use Rattle.pst_ast.specs.declared.shared.NextExpr.{NextExpr}
use Rattle.pst_model.specs.ConstraintTree.{SlotTree}
use Rattle.pst_ast.specs.Uses.{next_expr}
use Rattle.pst_terms.specs.Sources.{Sources}
use Rattle.pst_terms.specs.Terms.{Term}
use Rattle.pst_terms.specs.Readings.{Setting, expr_term}

abbrev pub next_terms : Sources → Setting → List NextExpr → List (Term SlotTree)
next_terms s setting rest = map (λ n. expr_term s setting (next_expr n)) (map view_next_expr rest)
