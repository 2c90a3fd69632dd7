-- The trees of the program of activity without where they lie in memory.
use Rattle.std.specs.Prelude.{map}
use Rattle.std.specs.Option.{option_map}
use Rattle.pst_ast.specs.ConstraintView.{view_constraint}
use Rattle.pst_ast.specs.ExpressionView.{view_expr, view_ranges}
use Rattle.pst_ast.specs.SharedView.{view_names}
use Rattle.pst_ast.specs.ActivityTree.{ActivityTree, MakeActivity, StatementTree, StatementEmpty, StatementLabeled, StatementPlain, CoreTree, CoreDo, CoreHandle, CoreSequence, CoreTogether, CoreSelect, CoreRepeat, CoreIf, CoreIfElse, CoreMatch, CoreBind, BranchTree, MakeBranch, ArmTree, MakeArm, GuardTree, GuardCondition, GuardWeight, WeightTree, MakeWeight, ArmLabelTree, ArmLabelRanges, ArmLabelDefault, JoinTree, JoinBranch, JoinNothing, JoinSelect, WithTree, WithNothing, WithSet, BindTree, MakeBind, OtherEndsTree, OtherEndsOne, OtherEndsSeveral, StatementRow, NoStatementRow, MoreStatementRow, BranchRow, NoBranchRow, MoreBranchRow, ArmRow, NoArmRow, MoreArmRow}
use Rattle.pst_ast.specs.declared.activity.ActivityNode.{ActivityNode}
use Rattle.pst_ast.specs.declared.activity.StatementNode.{StatementNode}
use Rattle.pst_ast.specs.declared.activity.StatementNode.TheVariants as the_statement
use Rattle.pst_ast.specs.declared.activity.CoreNode.{CoreNode, Row_of-StatementNode, end_of-StatementNode, more_of-StatementNode, Row_of-BranchNode, end_of-BranchNode, more_of-BranchNode, Row_of-ArmNode, end_of-ArmNode, more_of-ArmNode}
use Rattle.pst_ast.specs.declared.activity.CoreNode.TheVariants as the_core
use Rattle.pst_ast.specs.declared.activity.BranchNode.{BranchNode}
use Rattle.pst_ast.specs.declared.activity.ArmNode.{ArmNode}
use Rattle.pst_ast.specs.declared.activity.GuardNode.{GuardNode}
use Rattle.pst_ast.specs.declared.activity.GuardNode.TheVariants as the_guard
use Rattle.pst_ast.specs.declared.activity.WeightNode.{WeightNode}
use Rattle.pst_ast.specs.declared.activity.ArmLabel.{ArmLabel}
use Rattle.pst_ast.specs.declared.activity.ArmLabel.TheVariants as the_arm_label
use Rattle.pst_ast.specs.declared.activity.JoinNode.{JoinNode}
use Rattle.pst_ast.specs.declared.activity.JoinNode.TheVariants as the_join
use Rattle.pst_ast.specs.declared.activity.WithNode.{WithNode}
use Rattle.pst_ast.specs.declared.activity.WithNode.TheVariants as the_with
use Rattle.pst_ast.specs.declared.activity.BindNode.{BindNode}
use Rattle.pst_ast.specs.declared.activity.OtherEnds.{OtherEnds}
use Rattle.pst_ast.specs.declared.activity.OtherEnds.TheVariants as the_other_ends

-- with = ";" | "with" set
abbrev pub view_with : WithNode → WithTree
view_with (the_with.Nothing place) = WithNothing place
view_with (the_with.Set with_place set) = WithSet with_place (view_constraint set)

-- join = "join_branch" "(" NAME { "," NAME } ")" | "join_none" | "join_select" "(" expr ")"
abbrev pub view_join : JoinNode → JoinTree
view_join (the_join.Branch join_branch_place left_parenthesis_place names right_parenthesis_place) = JoinBranch join_branch_place left_parenthesis_place (view_names names) right_parenthesis_place
view_join (the_join.Nothing place) = JoinNothing place
view_join (the_join.Select join_select_place left_parenthesis_place count right_parenthesis_place) = JoinSelect join_select_place left_parenthesis_place (view_expr count) right_parenthesis_place

-- end | "{" end { "," end } "}"
abbrev pub view_other_ends : OtherEnds → OtherEndsTree
view_other_ends (the_other_ends.One end) = OtherEndsOne end
view_other_ends (the_other_ends.Several left_brace_place first rest right_brace_place) = OtherEndsSeveral left_brace_place first rest.items right_brace_place

-- "bind" end ( end | "{" end { "," end } "}" ) ";"
abbrev pub view_bind : BindNode → BindTree
view_bind t = MakeBind t.bind t.first (view_other_ends t.others) t.semicolon

-- "[" expr "]"
abbrev pub view_weight : WeightNode → WeightTree
view_weight t = MakeWeight t.left_bracket (view_expr t.expr) t.right_bracket

-- What stands before the statement of a branch.
abbrev pub view_guard : GuardNode → GuardTree
view_guard (the_guard.Condition left_parenthesis_place condition right_parenthesis_place weight colon_place) = GuardCondition left_parenthesis_place (view_expr condition) right_parenthesis_place (option_map view_weight weight) colon_place
view_guard (the_guard.Weight weight colon_place) = GuardWeight (view_weight weight) colon_place

-- What stands before the colon of an arm.
abbrev pub view_arm_label : ArmLabel → ArmLabelTree
view_arm_label (the_arm_label.Ranges left_bracket_place ranges right_bracket_place) = ArmLabelRanges left_bracket_place (view_ranges ranges) right_bracket_place
view_arm_label (the_arm_label.Default place) = ArmLabelDefault place

abbrev mutual
  pub view_statement : StatementNode → StatementTree
  view_statement (the_statement.Empty place) = StatementEmpty place
  view_statement (the_statement.Labeled label core) = StatementLabeled label (view_core core)
  view_statement (the_statement.Plain core) = StatementPlain (view_core core)

  pub view_core : CoreNode → CoreTree
  view_core (the_core.Do do_place name with_part) = CoreDo do_place name (view_with with_part)
  view_core (the_core.Handle name with_part) = CoreHandle name (view_with with_part)
  view_core (the_core.Sequence' sequence_place left_brace_place shape statements right_brace_place) = CoreSequence sequence_place left_brace_place (view_statement_row statements) right_brace_place
  view_core (the_core.Together' word place join left_brace_place shape statements right_brace_place) = CoreTogether word place (option_map view_join join) left_brace_place (view_statement_row statements) right_brace_place
  view_core (the_core.Select' select_place left_brace_place pointer guard statement shape rest right_brace_place) = CoreSelect select_place left_brace_place (MakeBranch (option_map view_guard guard) (view_statement statement)) (view_branch_row rest) right_brace_place
  view_core (the_core.Repeat' repeat_place left_parenthesis_place index count right_parenthesis_place pointer statement) = CoreRepeat repeat_place left_parenthesis_place index (view_expr count) right_parenthesis_place (view_statement statement)
  view_core (the_core.If' if_place left_parenthesis_place condition right_parenthesis_place pointer then_part) = CoreIf if_place left_parenthesis_place (view_expr condition) right_parenthesis_place (view_statement then_part)
  view_core (the_core.IfElse' if_place left_parenthesis_place condition right_parenthesis_place pointer then_part else_place pointer1 otherwise) = CoreIfElse if_place left_parenthesis_place (view_expr condition) right_parenthesis_place (view_statement then_part) else_place (view_statement otherwise)
  view_core (the_core.Match' match_place left_parenthesis_place expr right_parenthesis_place left_brace_place pointer label colon_place statement shape rest right_brace_place) = CoreMatch match_place left_parenthesis_place (view_expr expr) right_parenthesis_place left_brace_place (MakeArm (view_arm_label label) colon_place (view_statement statement)) (view_arm_row rest) right_brace_place
  view_core (the_core.Bind bind) = CoreBind (view_bind bind)

  pub view_statement_row : {m : _} → Row_of-StatementNode m → StatementRow
  view_statement_row end_of-StatementNode = NoStatementRow
  view_statement_row (more_of-StatementNode head tail) = MoreStatementRow (view_statement head) (view_statement_row tail)

  pub view_branch_row : {m : _} → Row_of-BranchNode m → BranchRow
  view_branch_row end_of-BranchNode = NoBranchRow
  view_branch_row (more_of-BranchNode guard statement tail) = MoreBranchRow (MakeBranch (option_map view_guard guard) (view_statement statement)) (view_branch_row tail)

  pub view_arm_row : {m : _} → Row_of-ArmNode m → ArmRow
  view_arm_row end_of-ArmNode = NoArmRow
  view_arm_row (more_of-ArmNode label colon_place statement tail) = MoreArmRow (MakeArm (view_arm_label label) colon_place (view_statement statement)) (view_arm_row tail)

-- branch = [ ( "(" expr ")" [ "[" expr "]" ] | "[" expr "]" ) ":" ] stmt
abbrev pub view_branch : BranchNode → BranchTree
view_branch t = MakeBranch (option_map view_guard t.guard) (view_statement t.statement)

-- arm = ( "[" ranges "]" | "default" ) ":" stmt
abbrev pub view_arm : ArmNode → ArmTree
view_arm t = MakeArm (view_arm_label t.label) t.colon (view_statement t.statement)

-- activity = "activity" "{" { stmt } "}"
abbrev pub view_activity : ActivityNode → ActivityTree
view_activity t = MakeActivity t.activity t.left_brace (map view_statement t.statements.items) t.right_brace
