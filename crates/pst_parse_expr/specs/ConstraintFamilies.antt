-- The parsers of constraints for each size: each function of the program has one of these.
use Rattle.std.specs.Prelude.{ℕ, suc, List, map}
use Rattle.std.specs.Global.{Vec}
use Rattle.pst_token.specs.declared.kind.Kind.TheVariants as kind
use Rattle.pst_ast.specs.declared.shared.DotName.{DotName}
use Rattle.pst_ast.specs.declared.shared.NextExpr.{NextExpr}
use Rattle.pst_ast.specs.declared.constraint.ConstraintItem.{ConstraintItem}
use Rattle.pst_ast.specs.ExpressionTree.{ExprTree}
use Rattle.pst_ast.specs.ExpressionView.{view_expr}
use Rattle.pst_ast.specs.SharedTree.{NextExprTree}
use Rattle.pst_ast.specs.SharedView.{view_next_expr}
use Rattle.pst_ast.specs.ConstraintTree.{ConstraintTree, ConstraintItemTree}
use Rattle.pst_ast.specs.ConstraintView.{view_constraint_item}
use Rattle.pst_reading.specs.Gives.{Family}
use Rattle.pst_reading.specs.Lists.{listed}
use Rattle.pst_parse_expr.specs.declared.shared.Condition.{Condition}
use Rattle.pst_parse_expr.specs.declared.constraint.Subscript.{Subscript}
use Rattle.pst_parse_expr.specs.Constraints.{outermost_at, is_at, is_other, ConditionTree, condition_by, next_expr_by, dot_name_by, SubscriptTree, subscript_by, if_by, unique_by, foreach_by, expr_item_by, item_by, block_by, set_by, constraint_at}

abbrev pub outermost_family : ℕ → Family ExprTree
outermost_family depth size prefixes = outermost_at (suc size) depth

abbrev pub condition_family : ℕ → Family ConditionTree
condition_family depth size prefixes = condition_by (outermost_at (suc size)) depth

abbrev pub next_expr_family : ℕ → Family NextExprTree
next_expr_family depth size prefixes = next_expr_by (outermost_at (suc size)) depth

abbrev pub next_exprs_family : ℕ → Family (List NextExprTree)
next_exprs_family depth = listed (is_at kind.Comma) (next_expr_family depth)

abbrev pub dot_name_family : ℕ → Family DotName
dot_name_family depth size prefixes = dot_name_by depth

abbrev pub dot_names_family : ℕ → Family (List DotName)
dot_names_family depth = listed (is_at kind.Dot) (dot_name_family depth)

abbrev pub subscript_family : ℕ → Family SubscriptTree
subscript_family depth size prefixes = subscript_by depth

abbrev pub if_family : ℕ → Family ConstraintItemTree
if_family depth size prefixes = if_by (outermost_at (suc size)) (constraint_at size) depth

abbrev pub unique_family : ℕ → Family ConstraintItemTree
unique_family depth size prefixes = unique_by (outermost_at (suc size)) size depth

abbrev pub foreach_family : ℕ → Family ConstraintItemTree
foreach_family depth size prefixes = foreach_by (constraint_at size) size depth

abbrev pub expr_item_family : ℕ → Family ConstraintItemTree
expr_item_family depth size prefixes = expr_item_by (outermost_at (suc size)) (constraint_at size) depth

abbrev pub item_family : ℕ → Family ConstraintItemTree
item_family depth size prefixes = item_by (outermost_at (suc size)) (constraint_at size) size depth

abbrev pub items_family : ℕ → Family (List ConstraintItemTree)
items_family depth = listed (is_other kind.RightBrace) (item_family depth)

abbrev pub block_family : ℕ → Family ConstraintTree
block_family depth size prefixes = block_by (outermost_at (suc size)) (constraint_at size) size depth

abbrev pub set_family : ℕ → Family ConstraintTree
set_family depth size prefixes = set_by (outermost_at (suc size)) (constraint_at size) size depth

-- what the program has, without where it lies in memory
abbrev pub view_condition : Condition → ConditionTree
view_condition c = (c.left_parenthesis, view_expr c.expr, c.right_parenthesis)

abbrev pub view_subscript : Subscript → SubscriptTree
view_subscript s = (s.left_bracket, s.name, s.right_bracket, s.right_parenthesis)

abbrev pub view_next_exprs : Vec NextExpr → List NextExprTree
view_next_exprs v = map view_next_expr v.items

abbrev pub view_dot_names : Vec DotName → List DotName
view_dot_names v = v.items

abbrev pub view_items : Vec ConstraintItem → List ConstraintItemTree
view_items v = map view_constraint_item v.items
