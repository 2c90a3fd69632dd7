-- The trees of the rules of bodies, without where they lie in memory.
use Rattle.std.specs.Prelude.{List, Option}
use Rattle.pst_ast.specs.declared.shared.LabelNode.{LabelNode}
use Rattle.pst_ast.specs.declared.leaf.Name.{Name}
use Rattle.pst_base.specs.declared.position.Place.{Place}
use Rattle.pst_ast.specs.ExpressionTree.{ExprTree}
use Rattle.pst_ast.specs.SharedTree.{NextExprTree, PlainTree}

-- expr { "," expr }
pub data ArgumentsTree : Type 0 where
  MakeArguments : (first : ExprTree) → (rest : List NextExprTree) → ArgumentsTree

-- call = NAME "(" [ expr { "," expr } ] ")"
pub data CallTree : Type 0 where
  MakeCall : (name : Name) → (left_parenthesis_place : Place) → (arguments : Option ArgumentsTree) → (right_parenthesis_place : Place) → CallTree

-- source = call | expr
pub data SourceTree : Type 0 where
  -- A call.
  SourceCall : (call : CallTree) → SourceTree
  -- An expression.
  SourceExpr : (expr : ExprTree) → SourceTree

-- "=" source
pub data ValueTree : Type 0 where
  MakeValue : (equal_place : Place) → (source : SourceTree) → ValueTree

mutual
  -- bstmt: a statement of a body.
  pub data BodyStatementTree : Type 0 where
    -- ";"
    BodyStatementEmpty : (place : Place) → BodyStatementTree
    -- plain NAME [ "=" source ] ";"
    BodyStatementLocal : (plain : PlainTree) → (name : Name) → (value : Option ValueTree) → (semicolon_place : Place) → BodyStatementTree
    -- NAME "=" source ";"
    BodyStatementAssign : (name : Name) → (equal_place : Place) → (source : SourceTree) → (semicolon_place : Place) → BodyStatementTree
    -- call ";"
    BodyStatementCall : (call : CallTree) → (semicolon_place : Place) → BodyStatementTree
    -- "{" { bstmt } "}"
    BodyStatementBlock : (left_brace_place : Place) → (statements : BodyStatementRow) → (right_brace_place : Place) → BodyStatementTree
    -- "if" "(" expr ")" bstmt
    BodyStatementIf : (if_place : Place) → (left_parenthesis_place : Place) → (condition : ExprTree) → (right_parenthesis_place : Place) → (then_part : BodyStatementTree) → BodyStatementTree
    -- "if" "(" expr ")" bstmt "else" bstmt
    BodyStatementIfElse : (if_place : Place) → (left_parenthesis_place : Place) → (condition : ExprTree) → (right_parenthesis_place : Place) → (then_part : BodyStatementTree) → (else_place : Place) → (otherwise : BodyStatementTree) → BodyStatementTree
    -- "repeat" "(" [ NAME ":" ] expr ")" bstmt
    BodyStatementRepeat : (repeat_place : Place) → (left_parenthesis_place : Place) → (index : Option LabelNode) → (count : ExprTree) → (right_parenthesis_place : Place) → (statement : BodyStatementTree) → BodyStatementTree

  pub data BodyStatementRow : Type 0 where
    NoBodyStatementRow : BodyStatementRow
    MoreBodyStatementRow : (head : BodyStatementTree) → (tail : BodyStatementRow) → BodyStatementRow

-- body = "exec" "body" "{" { bstmt } "}"
pub data BodyTree : Type 0 where
  MakeBody : (exec_place : Place) → (body_place : Place) → (left_brace_place : Place) → (statements : List BodyStatementTree) → (right_brace_place : Place) → BodyTree
