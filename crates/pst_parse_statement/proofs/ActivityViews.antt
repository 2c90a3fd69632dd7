-- Rows of the program's trees are those of their lists.
use Rattle.std.proofs.Common.{◌≡◌, List, Option, refl, ap, ◌∙◌}
use Rattle.std.specs.Prelude.{map}
use Rattle.std.specs.Global.{Vec}
use Rattle.std.specs.Option.{option_map}
use Rattle.pst_base.specs.declared.position.Place.{Place}
use Rattle.pst_ast.specs.declared.activity.CoreNode.{Row_of-StatementNode, end_of-StatementNode, more_of-StatementNode, items-the_row-StatementNode, items_hidden-the_row-StatementNode-0, Row_of-BranchNode, end_of-BranchNode, more_of-BranchNode, items-the_row-BranchNode, items_hidden-the_row-BranchNode-1, Row_of-ArmNode, end_of-ArmNode, more_of-ArmNode, items-the_row-ArmNode, items_hidden-the_row-ArmNode-2}
use Rattle.pst_ast.specs.declared.activity.CoreNode.TheBlock.{hidden-the_row-StatementNode-0, hidden-the_row-BranchNode-1, hidden-the_row-ArmNode-2}
use Rattle.pst_ast.specs.declared.activity.CoreNode.TheVariants as the_core
use Rattle.pst_ast.specs.declared.activity.StatementNode.{StatementNode}
use Rattle.pst_ast.specs.declared.activity.BranchNode.{BranchNode}
use Rattle.pst_ast.specs.declared.activity.ArmNode.{ArmNode}
use Rattle.pst_ast.specs.declared.activity.JoinNode.{JoinNode}
use Rattle.pst_ast.specs.declared.activity.TogetherWord.{TogetherWord}
use Rattle.pst_ast.specs.declared.expression.ExprNode.{ExprNode}
use Rattle.pst_ast.specs.ActivityTree.{CoreSequence, CoreTogether, CoreSelect, CoreMatch, StatementRow, MoreStatementRow, BranchRow, MoreBranchRow, ArmRow, MoreArmRow}
use Rattle.pst_ast.specs.ActivityView.{view_core, view_join, view_statement, view_statement_row, view_branch, view_branch_row, view_arm, view_arm_row}
use Rattle.pst_ast.specs.ExpressionView.{view_expr}
use Rattle.pst_parse_statement.specs.Activities.{statement_row, branch_row, arm_row}

-- ---- statements, branches and arms

statements_in : {n : _} (k : Row_of-StatementNode n) → view_statement_row k ≡ statement_row (map view_statement (items-the_row-StatementNode n k))
statements_in end_of-StatementNode = refl
statements_in (more_of-StatementNode head tail) = ap (λ (r : StatementRow). MoreStatementRow (view_statement head) r) (statements_in tail)

branches_in : {n : _} (k : Row_of-BranchNode n) → view_branch_row k ≡ branch_row (map view_branch (items-the_row-BranchNode n k))
branches_in end_of-BranchNode = refl
branches_in (more_of-BranchNode guard statement tail) = ap (λ (r : BranchRow). MoreBranchRow (view_branch (record { guard = guard; statement = statement })) r) (branches_in tail)

arms_in : {n : _} (k : Row_of-ArmNode n) → view_arm_row k ≡ arm_row (map view_arm (items-the_row-ArmNode n k))
arms_in end_of-ArmNode = refl
arms_in (more_of-ArmNode label colon statement tail) = ap (λ (r : ArmRow). MoreArmRow (view_arm (record { label = label; colon = colon; statement = statement })) r) (arms_in tail)

pub sequence_view : (word : Option Place) (left : Place) (v : Vec StatementNode) (right : Place) → view_core (the_core.Sequence word left v right) ≡ CoreSequence word left (statement_row (map view_statement v.items)) right
sequence_view word left v right = ap (λ (r : StatementRow). CoreSequence word left r right) (statements_in (hidden-the_row-StatementNode-0 v) ∙ ap (λ (xs : List StatementNode). statement_row (map view_statement xs)) (items_hidden-the_row-StatementNode-0 v))

pub together_view : (word : TogetherWord) (place : Place) (join : Option JoinNode) (left : Place) (v : Vec StatementNode) (right : Place) → view_core (the_core.Together word place join left v right) ≡ CoreTogether word place (option_map view_join join) left (statement_row (map view_statement v.items)) right
together_view word place join left v right = ap (λ (r : StatementRow). CoreTogether word place (option_map view_join join) left r right) (statements_in (hidden-the_row-StatementNode-0 v) ∙ ap (λ (xs : List StatementNode). statement_row (map view_statement xs)) (items_hidden-the_row-StatementNode-0 v))

pub select_view : (select left : Place) (first : _) (v : Vec BranchNode) (right : Place) → view_core (the_core.Select select left first v right) ≡ CoreSelect select left (view_branch first.value) (branch_row (map view_branch v.items)) right
select_view select left first v right = ap (λ (r : BranchRow). CoreSelect select left (view_branch first.value) r right) (branches_in (hidden-the_row-BranchNode-1 v) ∙ ap (λ (xs : List BranchNode). branch_row (map view_branch xs)) (items_hidden-the_row-BranchNode-1 v))

pub match_view : (match_place left_parenthesis : Place) (expr : ExprNode) (right_parenthesis left : Place) (first : _) (v : Vec ArmNode) (right : Place) → view_core (the_core.Match match_place left_parenthesis expr right_parenthesis left first v right) ≡ CoreMatch match_place left_parenthesis (view_expr expr) right_parenthesis left (view_arm first.value) (arm_row (map view_arm v.items)) right
match_view match_place left_parenthesis expr right_parenthesis left first v right = ap (λ (r : ArmRow). CoreMatch match_place left_parenthesis (view_expr expr) right_parenthesis left (view_arm first.value) r right) (arms_in (hidden-the_row-ArmNode-2 v) ∙ ap (λ (xs : List ArmNode). arm_row (map view_arm xs)) (items_hidden-the_row-ArmNode-2 v))
