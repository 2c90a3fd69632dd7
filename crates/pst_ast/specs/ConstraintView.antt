-- The trees of the program of constraint without where they lie in memory.
use Rattle.std.specs.Prelude.{map}
use Rattle.pst_ast.specs.ExpressionView.{view_expr}
use Rattle.pst_ast.specs.SharedView.{view_next_expr}
use Rattle.pst_ast.specs.ConstraintTree.{ConstraintTree, ConstraintOne, ConstraintBlock, ConstraintItemTree, ConstraintItemEmpty, ConstraintItemExpr, ConstraintItemImplies, ConstraintItemIf, ConstraintItemIfElse, ConstraintItemUnique, ConstraintItemForeach, ConstraintDeclarationTree, MakeConstraintDeclaration, ConstraintContentTree, ConstraintContentNamed, ConstraintContentSet, ConstraintItemRow, NoConstraintItemRow, MoreConstraintItemRow}
use Rattle.pst_ast.specs.declared.constraint.ConstraintNode.{ConstraintNode, Row_of-ConstraintItem, end_of-ConstraintItem, more_of-ConstraintItem}
use Rattle.pst_ast.specs.declared.constraint.ConstraintNode.TheVariants as the_constraint
use Rattle.pst_ast.specs.declared.constraint.ConstraintItem.{ConstraintItem}
use Rattle.pst_ast.specs.declared.constraint.ConstraintItem.TheVariants as the_constraint_item
use Rattle.pst_ast.specs.declared.constraint.ConstraintDeclaration.{ConstraintDeclaration}
use Rattle.pst_ast.specs.declared.constraint.ConstraintContent.{ConstraintContent}
use Rattle.pst_ast.specs.declared.constraint.ConstraintContent.TheVariants as the_constraint_content

abbrev mutual
  pub view_constraint : ConstraintNode → ConstraintTree
  view_constraint (the_constraint.One' pointer box<_constraint_item>) = ConstraintOne (view_constraint_item box<_constraint_item>)
  view_constraint (the_constraint.Block' left_brace_place shape items right_brace_place) = ConstraintBlock left_brace_place (view_constraint_item_row items) right_brace_place

  pub view_constraint_item : ConstraintItem → ConstraintItemTree
  view_constraint_item (the_constraint_item.Empty place) = ConstraintItemEmpty place
  view_constraint_item (the_constraint_item.Expr expr semicolon_place) = ConstraintItemExpr (view_expr expr) semicolon_place
  view_constraint_item (the_constraint_item.Implies' condition arrow_place pointer set) = ConstraintItemImplies (view_expr condition) arrow_place (view_constraint set)
  view_constraint_item (the_constraint_item.If' if_place left_parenthesis_place condition right_parenthesis_place pointer then_part) = ConstraintItemIf if_place left_parenthesis_place (view_expr condition) right_parenthesis_place (view_constraint then_part)
  view_constraint_item (the_constraint_item.IfElse' if_place left_parenthesis_place condition right_parenthesis_place pointer then_part else_place pointer1 otherwise) = ConstraintItemIfElse if_place left_parenthesis_place (view_expr condition) right_parenthesis_place (view_constraint then_part) else_place (view_constraint otherwise)
  view_constraint_item (the_constraint_item.Unique unique_place left_brace_place first rest right_brace_place semicolon_place) = ConstraintItemUnique unique_place left_brace_place (view_expr first) (map view_next_expr rest.items) right_brace_place semicolon_place
  view_constraint_item (the_constraint_item.Foreach' foreach_place left_parenthesis_place first rest left_bracket_place index right_bracket_place right_parenthesis_place pointer set) = ConstraintItemForeach foreach_place left_parenthesis_place first rest.items left_bracket_place index right_bracket_place right_parenthesis_place (view_constraint set)

  pub view_constraint_item_row : {m : _} → Row_of-ConstraintItem m → ConstraintItemRow
  view_constraint_item_row end_of-ConstraintItem = NoConstraintItemRow
  view_constraint_item_row (more_of-ConstraintItem head tail) = MoreConstraintItemRow (view_constraint_item head) (view_constraint_item_row tail)

-- What stands behind the word constraint.
abbrev pub view_constraint_content : ConstraintContent → ConstraintContentTree
view_constraint_content (the_constraint_content.Named name left_brace_place items right_brace_place) = ConstraintContentNamed name left_brace_place (map view_constraint_item items.items) right_brace_place
view_constraint_content (the_constraint_content.Set constraint) = ConstraintContentSet (view_constraint constraint)

-- constraint = "constraint" ( NAME "{" { citem } "}" | set )
abbrev pub view_constraint_declaration : ConstraintDeclaration → ConstraintDeclarationTree
view_constraint_declaration t = MakeConstraintDeclaration t.constraint (view_constraint_content t.content)
