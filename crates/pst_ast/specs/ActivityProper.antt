-- Trees that group as their tokens are read: activity.
use Rattle.std.specs.Prelude.{◌≡◌, Bool, true, false}
use Rattle.std.specs.List.{AllByRecursion}
use Rattle.pst_ast.specs.Marks.{OptionIs}
use Rattle.pst_ast.specs.ConstraintProper.{IsProperConstraint, constraint_ends_open}
use Rattle.pst_ast.specs.ExpressionProper.{IsProperExpr, IsProperRanges}
use Rattle.pst_ast.specs.SharedProper.{IsProperNames}
use Rattle.pst_ast.specs.ActivityTree.{ActivityTree, MakeActivity, StatementTree, StatementEmpty, StatementLabeled, StatementPlain, CoreTree, CoreDo, CoreHandle, CoreSequence, CoreTogether, CoreSelect, CoreRepeat, CoreIf, CoreIfElse, CoreMatch, CoreBind, BranchTree, MakeBranch, ArmTree, MakeArm, GuardTree, GuardCondition, GuardWeight, WeightTree, MakeWeight, ArmLabelTree, ArmLabelRanges, ArmLabelDefault, JoinTree, JoinBranch, JoinNothing, JoinSelect, WithTree, WithNothing, WithSet, BindTree, MakeBind, OtherEndsTree, OtherEndsOne, OtherEndsSeveral, StatementRow, NoStatementRow, MoreStatementRow, BranchRow, NoBranchRow, MoreBranchRow, ArmRow, NoArmRow, MoreArmRow}

-- whether an `else` behind constraints would be theirs
abbrev pub with_ends_open : WithTree → Bool
with_ends_open (WithNothing place) = false
with_ends_open (WithSet with_place set) = constraint_ends_open set

abbrev mutual
  -- whether an `else` behind it would be its own
  pub statement_ends_open : StatementTree → Bool
  statement_ends_open (StatementEmpty place) = false
  statement_ends_open (StatementLabeled label core) = core_ends_open core
  statement_ends_open (StatementPlain core) = core_ends_open core

  pub core_ends_open : CoreTree → Bool
  core_ends_open (CoreDo do_place name with_part) = with_ends_open with_part
  core_ends_open (CoreHandle name with_part) = with_ends_open with_part
  core_ends_open (CoreRepeat repeat_place left index count right statement) = statement_ends_open statement
  core_ends_open (CoreIf if_place left condition right then_part) = true
  core_ends_open (CoreIfElse if_place left condition right then_part else_place otherwise) = statement_ends_open otherwise
  core_ends_open _ = false

-- with = ";" | "with" set
abbrev pub IsProperWith : WithTree → Type 0
IsProperWith (WithNothing place) = Unit {0}
IsProperWith (WithSet with_place set) = IsProperConstraint set

-- join = "join_branch" "(" NAME { "," NAME } ")" | "join_none" | "join_select" "(" expr ")"
abbrev pub IsProperJoin : JoinTree → Type 0
IsProperJoin (JoinBranch join_branch_place left_parenthesis_place names right_parenthesis_place) = IsProperNames names
IsProperJoin (JoinNothing place) = Unit {0}
IsProperJoin (JoinSelect join_select_place left_parenthesis_place count right_parenthesis_place) = IsProperExpr count

-- end | "{" end { "," end } "}"
abbrev pub IsProperOtherEnds : OtherEndsTree → Type 0
IsProperOtherEnds (OtherEndsOne end) = Unit {0}
IsProperOtherEnds (OtherEndsSeveral left_brace_place first rest right_brace_place) = Unit {0}

-- "bind" end ( end | "{" end { "," end } "}" ) ";"
abbrev pub IsProperBind : BindTree → Type 0
IsProperBind (MakeBind bind_place first others semicolon_place) = IsProperOtherEnds others

-- "[" expr "]"
abbrev pub IsProperWeight : WeightTree → Type 0
IsProperWeight (MakeWeight left_bracket_place expr right_bracket_place) = IsProperExpr expr

-- What stands before the statement of a branch.
abbrev pub IsProperGuard : GuardTree → Type 0
IsProperGuard (GuardCondition left_parenthesis_place condition right_parenthesis_place weight colon_place) = IsProperExpr condition × OptionIs IsProperWeight weight
IsProperGuard (GuardWeight weight colon_place) = IsProperWeight weight

-- What stands before the colon of an arm.
abbrev pub IsProperArmLabel : ArmLabelTree → Type 0
IsProperArmLabel (ArmLabelRanges left_bracket_place ranges right_bracket_place) = IsProperRanges ranges
IsProperArmLabel (ArmLabelDefault place) = Unit {0}

abbrev mutual
  -- stmt = ";" | [ NAME ":" ] core
  pub IsProperStatement : StatementTree → Type 0
  IsProperStatement (StatementEmpty place) = Unit {0}
  IsProperStatement (StatementLabeled label core) = IsProperCore core
  IsProperStatement (StatementPlain core) = IsProperCore core

  -- core: a statement without its label.
  pub IsProperCore : CoreTree → Type 0
  IsProperCore (CoreDo do_place name with_part) = IsProperWith with_part
  IsProperCore (CoreHandle name with_part) = IsProperWith with_part
  IsProperCore (CoreSequence sequence_place left_brace_place statements right_brace_place) = AreProperStatement statements
  IsProperCore (CoreTogether word place join left_brace_place statements right_brace_place) = OptionIs IsProperJoin join × AreProperStatement statements
  IsProperCore (CoreSelect select_place left_brace_place first rest right_brace_place) = IsProperBranch first × AreProperBranch rest
  IsProperCore (CoreRepeat repeat_place left_parenthesis_place index count right_parenthesis_place statement) = IsProperExpr count × IsProperStatement statement
  IsProperCore (CoreIf if_place left_parenthesis_place condition right_parenthesis_place then_part) = IsProperExpr condition × IsProperStatement then_part
  IsProperCore (CoreIfElse if_place left_parenthesis_place condition right_parenthesis_place then_part else_place otherwise) = IsProperExpr condition × IsProperStatement then_part × IsProperStatement otherwise × (statement_ends_open then_part ≡ false)
  IsProperCore (CoreMatch match_place left_parenthesis_place expr right_parenthesis_place left_brace_place first rest right_brace_place) = IsProperExpr expr × IsProperArm first × AreProperArm rest
  IsProperCore (CoreBind bind) = IsProperBind bind

  -- branch = [ ( "(" expr ")" [ "[" expr "]" ] | "[" expr "]" ) ":" ] stmt
  pub IsProperBranch : BranchTree → Type 0
  IsProperBranch (MakeBranch guard statement) = OptionIs IsProperGuard guard × IsProperStatement statement

  -- arm = ( "[" ranges "]" | "default" ) ":" stmt
  pub IsProperArm : ArmTree → Type 0
  IsProperArm (MakeArm label colon_place statement) = IsProperArmLabel label × IsProperStatement statement

  pub AreProperStatement : StatementRow → Type 0
  AreProperStatement NoStatementRow = Unit {0}
  AreProperStatement (MoreStatementRow head tail) = IsProperStatement head × AreProperStatement tail

  pub AreProperBranch : BranchRow → Type 0
  AreProperBranch NoBranchRow = Unit {0}
  AreProperBranch (MoreBranchRow head tail) = IsProperBranch head × AreProperBranch tail

  pub AreProperArm : ArmRow → Type 0
  AreProperArm NoArmRow = Unit {0}
  AreProperArm (MoreArmRow head tail) = IsProperArm head × AreProperArm tail

-- activity = "activity" "{" { stmt } "}"
abbrev pub IsProperActivity : ActivityTree → Type 0
IsProperActivity (MakeActivity activity_place left_brace_place statements right_brace_place) = AllByRecursion IsProperStatement statements
