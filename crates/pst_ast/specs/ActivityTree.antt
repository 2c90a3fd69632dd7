-- The trees of the rules of activities, without where they lie in memory.
use Rattle.std.specs.Prelude.{List, Option}
use Rattle.pst_ast.specs.declared.activity.EndNode.{EndNode}
use Rattle.pst_ast.specs.declared.shared.LabelNode.{LabelNode}
use Rattle.pst_ast.specs.declared.leaf.Name.{Name}
use Rattle.pst_ast.specs.declared.activity.NextEnd.{NextEnd}
use Rattle.pst_base.specs.declared.position.Place.{Place}
use Rattle.pst_ast.specs.declared.activity.TogetherWord.{TogetherWord}
use Rattle.pst_ast.specs.declared.shared.TypeName.{TypeName}
use Rattle.pst_ast.specs.ConstraintTree.{ConstraintTree}
use Rattle.pst_ast.specs.ExpressionTree.{ExprTree, RangesTree}
use Rattle.pst_ast.specs.SharedTree.{NamesTree}

-- with = ";" | "with" set
pub data WithTree : Type 0 where
  -- ";"
  WithNothing : (place : Place) → WithTree
  -- "with" set
  WithSet : (with_place : Place) → (set : ConstraintTree) → WithTree

-- join = "join_branch" "(" NAME { "," NAME } ")" | "join_none" | "join_select" "(" expr ")"
pub data JoinTree : Type 0 where
  -- "join_branch" "(" NAME { "," NAME } ")"
  JoinBranch : (join_branch_place : Place) → (left_parenthesis_place : Place) → (names : NamesTree) → (right_parenthesis_place : Place) → JoinTree
  -- join_none
  JoinNothing : (place : Place) → JoinTree
  -- "join_select" "(" expr ")"
  JoinSelect : (join_select_place : Place) → (left_parenthesis_place : Place) → (count : ExprTree) → (right_parenthesis_place : Place) → JoinTree

-- end | "{" end { "," end } "}"
pub data OtherEndsTree : Type 0 where
  -- One end.
  OtherEndsOne : (end : EndNode) → OtherEndsTree
  -- Ends in braces.
  OtherEndsSeveral : (left_brace_place : Place) → (first : EndNode) → (rest : List NextEnd) → (right_brace_place : Place) → OtherEndsTree

-- "bind" end ( end | "{" end { "," end } "}" ) ";"
pub data BindTree : Type 0 where
  MakeBind : (bind_place : Place) → (first : EndNode) → (others : OtherEndsTree) → (semicolon_place : Place) → BindTree

-- "[" expr "]"
pub data WeightTree : Type 0 where
  MakeWeight : (left_bracket_place : Place) → (expr : ExprTree) → (right_bracket_place : Place) → WeightTree

-- What stands before the statement of a branch.
pub data GuardTree : Type 0 where
  -- "(" expr ")" [ "[" expr "]" ] ":"
  GuardCondition : (left_parenthesis_place : Place) → (condition : ExprTree) → (right_parenthesis_place : Place) → (weight : Option WeightTree) → (colon_place : Place) → GuardTree
  -- "[" expr "]" ":"
  GuardWeight : (weight : WeightTree) → (colon_place : Place) → GuardTree

-- What stands before the colon of an arm.
pub data ArmLabelTree : Type 0 where
  -- "[" ranges "]"
  ArmLabelRanges : (left_bracket_place : Place) → (ranges : RangesTree) → (right_bracket_place : Place) → ArmLabelTree
  -- default
  ArmLabelDefault : (place : Place) → ArmLabelTree

mutual
  -- stmt = ";" | [ NAME ":" ] core
  pub data StatementTree : Type 0 where
    -- ";"
    StatementEmpty : (place : Place) → StatementTree
    -- NAME ":" core
    StatementLabeled : (label : LabelNode) → (core : CoreTree) → StatementTree
    -- core
    StatementPlain : (core : CoreTree) → StatementTree

  -- core: a statement without its label.
  pub data CoreTree : Type 0 where
    -- "do" tname with
    CoreDo : (do_place : Place) → (name : TypeName) → (with_part : WithTree) → CoreTree
    -- NAME with
    CoreHandle : (name : Name) → (with_part : WithTree) → CoreTree
    -- ["sequence"] "{" { stmt } "}"
    CoreSequence : (sequence_place : Option Place) → (left_brace_place : Place) → (statements : StatementRow) → (right_brace_place : Place) → CoreTree
    -- ("parallel"|"schedule") [ join ] "{" { stmt } "}"
    CoreTogether : (word : TogetherWord) → (place : Place) → (join : Option JoinTree) → (left_brace_place : Place) → (statements : StatementRow) → (right_brace_place : Place) → CoreTree
    -- "select" "{" branch { branch } "}"
    CoreSelect : (select_place : Place) → (left_brace_place : Place) → (first : BranchTree) → (rest : BranchRow) → (right_brace_place : Place) → CoreTree
    -- "repeat" "(" [ NAME ":" ] expr ")" stmt
    CoreRepeat : (repeat_place : Place) → (left_parenthesis_place : Place) → (index : Option LabelNode) → (count : ExprTree) → (right_parenthesis_place : Place) → (statement : StatementTree) → CoreTree
    -- "if" "(" expr ")" stmt
    CoreIf : (if_place : Place) → (left_parenthesis_place : Place) → (condition : ExprTree) → (right_parenthesis_place : Place) → (then_part : StatementTree) → CoreTree
    -- "if" "(" expr ")" stmt "else" stmt
    CoreIfElse : (if_place : Place) → (left_parenthesis_place : Place) → (condition : ExprTree) → (right_parenthesis_place : Place) → (then_part : StatementTree) → (else_place : Place) → (otherwise : StatementTree) → CoreTree
    -- "match" "(" expr ")" "{" arm { arm } "}"
    CoreMatch : (match_place : Place) → (left_parenthesis_place : Place) → (expr : ExprTree) → (right_parenthesis_place : Place) → (left_brace_place : Place) → (first : ArmTree) → (rest : ArmRow) → (right_brace_place : Place) → CoreTree
    -- "bind" end ( end | "{" end { "," end } "}" ) ";"
    CoreBind : (bind : BindTree) → CoreTree

  -- branch = [ ( "(" expr ")" [ "[" expr "]" ] | "[" expr "]" ) ":" ] stmt
  pub data BranchTree : Type 0 where
    MakeBranch : (guard : Option GuardTree) → (statement : StatementTree) → BranchTree

  -- arm = ( "[" ranges "]" | "default" ) ":" stmt
  pub data ArmTree : Type 0 where
    MakeArm : (label : ArmLabelTree) → (colon_place : Place) → (statement : StatementTree) → ArmTree

  pub data StatementRow : Type 0 where
    NoStatementRow : StatementRow
    MoreStatementRow : (head : StatementTree) → (tail : StatementRow) → StatementRow

  pub data BranchRow : Type 0 where
    NoBranchRow : BranchRow
    MoreBranchRow : (head : BranchTree) → (tail : BranchRow) → BranchRow

  pub data ArmRow : Type 0 where
    NoArmRow : ArmRow
    MoreArmRow : (head : ArmTree) → (tail : ArmRow) → ArmRow

-- activity = "activity" "{" { stmt } "}"
pub data ActivityTree : Type 0 where
  MakeActivity : (activity_place : Place) → (left_brace_place : Place) → (statements : List StatementTree) → (right_brace_place : Place) → ActivityTree
