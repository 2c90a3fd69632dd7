-- Trees that group as their tokens are read: constraint.
use Rattle.std.specs.Prelude.{◌≡◌, Bool, true, false}
use Rattle.std.specs.List.{AllByRecursion}
use Rattle.pst_ast.specs.ExpressionProper.{IsProperExpr}
use Rattle.pst_ast.specs.SharedProper.{IsProperNextExpr}
use Rattle.pst_ast.specs.ConstraintTree.{ConstraintTree, ConstraintOne, ConstraintBlock, ConstraintItemTree, ConstraintItemEmpty, ConstraintItemExpr, ConstraintItemImplies, ConstraintItemIf, ConstraintItemIfElse, ConstraintItemUnique, ConstraintItemForeach, ConstraintDeclarationTree, MakeConstraintDeclaration, ConstraintContentTree, ConstraintContentNamed, ConstraintContentSet, ConstraintItemRow, NoConstraintItemRow, MoreConstraintItemRow}

abbrev mutual
  -- whether an `else` behind it would be its own
  pub constraint_ends_open : ConstraintTree → Bool
  constraint_ends_open (ConstraintOne constraint_item) = item_ends_open constraint_item
  constraint_ends_open (ConstraintBlock left items right) = false

  pub item_ends_open : ConstraintItemTree → Bool
  item_ends_open (ConstraintItemImplies condition arrow set) = constraint_ends_open set
  item_ends_open (ConstraintItemIf if_place left condition right then_part) = true
  item_ends_open (ConstraintItemIfElse if_place left condition right then_part else_place otherwise) = constraint_ends_open otherwise
  item_ends_open (ConstraintItemForeach foreach_place left first rest left_bracket index right_bracket right set) = constraint_ends_open set
  item_ends_open _ = false

abbrev mutual
  -- set = citem | "{" { citem } "}"
  pub IsProperConstraint : ConstraintTree → Type 0
  IsProperConstraint (ConstraintOne box<_constraint_item>) = IsProperConstraintItem box<_constraint_item>
  IsProperConstraint (ConstraintBlock left_brace_place items right_brace_place) = AreProperConstraintItem items

  -- citem: one constraint.
  pub IsProperConstraintItem : ConstraintItemTree → Type 0
  IsProperConstraintItem (ConstraintItemEmpty place) = Unit {0}
  IsProperConstraintItem (ConstraintItemExpr expr semicolon_place) = IsProperExpr expr
  IsProperConstraintItem (ConstraintItemImplies condition arrow_place set) = IsProperExpr condition × IsProperConstraint set
  IsProperConstraintItem (ConstraintItemIf if_place left_parenthesis_place condition right_parenthesis_place then_part) = IsProperExpr condition × IsProperConstraint then_part
  IsProperConstraintItem (ConstraintItemIfElse if_place left_parenthesis_place condition right_parenthesis_place then_part else_place otherwise) = IsProperExpr condition × IsProperConstraint then_part × IsProperConstraint otherwise × (constraint_ends_open then_part ≡ false)
  IsProperConstraintItem (ConstraintItemUnique unique_place left_brace_place first rest right_brace_place semicolon_place) = IsProperExpr first × AllByRecursion IsProperNextExpr rest
  IsProperConstraintItem (ConstraintItemForeach foreach_place left_parenthesis_place first rest left_bracket_place index right_bracket_place right_parenthesis_place set) = IsProperConstraint set

  pub AreProperConstraintItem : ConstraintItemRow → Type 0
  AreProperConstraintItem NoConstraintItemRow = Unit {0}
  AreProperConstraintItem (MoreConstraintItemRow head tail) = IsProperConstraintItem head × AreProperConstraintItem tail

-- What stands behind the word constraint.
abbrev pub IsProperConstraintContent : ConstraintContentTree → Type 0
IsProperConstraintContent (ConstraintContentNamed name left_brace_place items right_brace_place) = AllByRecursion IsProperConstraintItem items
IsProperConstraintContent (ConstraintContentSet constraint) = IsProperConstraint constraint

-- constraint = "constraint" ( NAME "{" { citem } "}" | set )
abbrev pub IsProperConstraintDeclaration : ConstraintDeclarationTree → Type 0
IsProperConstraintDeclaration (MakeConstraintDeclaration constraint_place content) = IsProperConstraintContent content
