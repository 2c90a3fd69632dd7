-- The trees of the rules of constraints, without where they lie in memory.
use Rattle.std.specs.Prelude.{List}
use Rattle.pst_ast.specs.declared.shared.DotName.{DotName}
use Rattle.pst_ast.specs.declared.leaf.Name.{Name}
use Rattle.pst_base.specs.declared.position.Place.{Place}
use Rattle.pst_ast.specs.ExpressionTree.{ExprTree}
use Rattle.pst_ast.specs.SharedTree.{NextExprTree}

mutual
  -- set = citem | "{" { citem } "}"
  pub data ConstraintTree : Type 0 where
    -- One constraint.
    ConstraintOne : (box<_constraint_item> : ConstraintItemTree) → ConstraintTree
    -- Constraints in braces.
    ConstraintBlock : (left_brace_place : Place) → (items : ConstraintItemRow) → (right_brace_place : Place) → ConstraintTree

  -- citem: one constraint.
  pub data ConstraintItemTree : Type 0 where
    -- ";"
    ConstraintItemEmpty : (place : Place) → ConstraintItemTree
    -- expr ";"
    ConstraintItemExpr : (expr : ExprTree) → (semicolon_place : Place) → ConstraintItemTree
    -- expr "->" set
    ConstraintItemImplies : (condition : ExprTree) → (arrow_place : Place) → (set : ConstraintTree) → ConstraintItemTree
    -- "if" "(" expr ")" set
    ConstraintItemIf : (if_place : Place) → (left_parenthesis_place : Place) → (condition : ExprTree) → (right_parenthesis_place : Place) → (then_part : ConstraintTree) → ConstraintItemTree
    -- "if" "(" expr ")" set "else" set
    ConstraintItemIfElse : (if_place : Place) → (left_parenthesis_place : Place) → (condition : ExprTree) → (right_parenthesis_place : Place) → (then_part : ConstraintTree) → (else_place : Place) → (otherwise : ConstraintTree) → ConstraintItemTree
    -- "unique" "{" expr { "," expr } "}" ";"
    ConstraintItemUnique : (unique_place : Place) → (left_brace_place : Place) → (first : ExprTree) → (rest : List NextExprTree) → (right_brace_place : Place) → (semicolon_place : Place) → ConstraintItemTree
    -- "foreach" "(" NAME { "." NAME } "[" NAME "]" ")" set
    ConstraintItemForeach : (foreach_place : Place) → (left_parenthesis_place : Place) → (first : Name) → (rest : List DotName) → (left_bracket_place : Place) → (index : Name) → (right_bracket_place : Place) → (right_parenthesis_place : Place) → (set : ConstraintTree) → ConstraintItemTree

  pub data ConstraintItemRow : Type 0 where
    NoConstraintItemRow : ConstraintItemRow
    MoreConstraintItemRow : (head : ConstraintItemTree) → (tail : ConstraintItemRow) → ConstraintItemRow

-- What stands behind the word constraint.
pub data ConstraintContentTree : Type 0 where
  -- NAME "{" { citem } "}"
  ConstraintContentNamed : (name : Name) → (left_brace_place : Place) → (items : List ConstraintItemTree) → (right_brace_place : Place) → ConstraintContentTree
  -- set
  ConstraintContentSet : (constraint : ConstraintTree) → ConstraintContentTree

-- constraint = "constraint" ( NAME "{" { citem } "}" | set )
pub data ConstraintDeclarationTree : Type 0 where
  MakeConstraintDeclaration : (constraint_place : Place) → (content : ConstraintContentTree) → ConstraintDeclarationTree
