-- The traversals in the rows of an activity are those in its lists.
use Rattle.std.proofs.Common.{◌≡◌, ◌++◌, List, Bool, refl, ap, ◌∙◌}
use Rattle.std.specs.Prelude.{map, Option}
use Rattle.std.specs.List.{flat_map}
use Rattle.std.specs.Global.{Vec}
use Rattle.pst_base.specs.declared.position.Place.{Place}
use Rattle.pst_ast.specs.declared.activity.CoreNode.{Row_of-StatementNode, end_of-StatementNode, more_of-StatementNode, items-the_row-StatementNode, items_hidden-the_row-StatementNode-0, Row_of-BranchNode, end_of-BranchNode, more_of-BranchNode, items-the_row-BranchNode, items_hidden-the_row-BranchNode-1, Row_of-ArmNode, end_of-ArmNode, more_of-ArmNode, items-the_row-ArmNode, items_hidden-the_row-ArmNode-2}
use Rattle.pst_ast.specs.declared.activity.CoreNode.TheBlock.{hidden-the_row-StatementNode-0, hidden-the_row-BranchNode-1, hidden-the_row-ArmNode-2}
use Rattle.pst_ast.specs.declared.activity.CoreNode.TheVariants as the_core
use Rattle.pst_ast.specs.declared.activity.StatementNode.{StatementNode}
use Rattle.pst_ast.specs.declared.activity.BranchNode.{BranchNode}
use Rattle.pst_ast.specs.declared.activity.ArmNode.{ArmNode}
use Rattle.pst_ast.specs.declared.activity.JoinNode.{JoinNode}
use Rattle.pst_ast.specs.declared.activity.TogetherWord.{TogetherWord}
use Rattle.pst_ast.specs.declared.expression.ExprNode.{ExprNode}
use Rattle.pst_ast.specs.ActivityView.{view_arm, view_arm_row, view_branch, view_branch_row, view_core, view_statement, view_statement_row}
use Rattle.pst_traversals.specs.declared.listing.Traversed.{Traversed}
use Rattle.pst_traversals.specs.Listed.{all_in_statement, all_in_core, all_in_row, all_in_branch, all_in_branch_row, all_in_arm, all_in_arm_row}

statement_row : (w : Bool) {n : _} (k : Row_of-StatementNode n) → all_in_row w (view_statement_row k) ≡ flat_map (all_in_statement w) (map view_statement (items-the_row-StatementNode n k))
statement_row w end_of-StatementNode = refl
statement_row w (more_of-StatementNode head tail) = ap (λ (ts : List Traversed). all_in_statement w (view_statement head) ++ ts) (statement_row w tail)

statements : (w : Bool) (v : Vec StatementNode) → all_in_row w (view_statement_row (hidden-the_row-StatementNode-0 v)) ≡ flat_map (all_in_statement w) (map view_statement v.items)
statements w v = statement_row w (hidden-the_row-StatementNode-0 v) ∙ ap (λ (xs : List StatementNode). flat_map (all_in_statement w) (map view_statement xs)) (items_hidden-the_row-StatementNode-0 v)

pub sequence_has : (w : Bool) (sequence : Option Place) (left : Place) (v : Vec StatementNode) (right : Place) → all_in_core w (view_core (the_core.Sequence sequence left v right)) ≡ flat_map (all_in_statement w) (map view_statement v.items)
sequence_has w sequence left v right = statements w v

pub together_has : (w : Bool) (word : TogetherWord) (place : Place) (join : Option JoinNode) (left : Place) (v : Vec StatementNode) (right : Place) → all_in_core w (view_core (the_core.Together word place join left v right)) ≡ flat_map (all_in_statement w) (map view_statement v.items)
together_has w word place join left v right = statements w v

branch_row : {n : _} (k : Row_of-BranchNode n) → all_in_branch_row (view_branch_row k) ≡ flat_map all_in_branch (map view_branch (items-the_row-BranchNode n k))
branch_row end_of-BranchNode = refl
branch_row (more_of-BranchNode guard statement tail) = ap (λ (ts : List Traversed). all_in_branch (view_branch (record { guard = guard; statement = statement })) ++ ts) (branch_row tail)

pub select_has : (w : Bool) (select left : Place) (first : _) (v : Vec BranchNode) (right : Place) → all_in_core w (view_core (the_core.Select select left first v right)) ≡ all_in_branch (view_branch first.value) ++ flat_map all_in_branch (map view_branch v.items)
select_has w select left first v right = ap (λ (ts : List Traversed). all_in_branch (view_branch first.value) ++ ts) (branch_row (hidden-the_row-BranchNode-1 v) ∙ ap (λ (xs : List BranchNode). flat_map all_in_branch (map view_branch xs)) (items_hidden-the_row-BranchNode-1 v))

arm_row : {n : _} (k : Row_of-ArmNode n) → all_in_arm_row (view_arm_row k) ≡ flat_map all_in_arm (map view_arm (items-the_row-ArmNode n k))
arm_row end_of-ArmNode = refl
arm_row (more_of-ArmNode label colon statement tail) = ap (λ (ts : List Traversed). all_in_arm (view_arm (record { label = label; colon = colon; statement = statement })) ++ ts) (arm_row tail)

pub match_has : (w : Bool) (match_place left_parenthesis : Place) (expr : ExprNode) (right_parenthesis left : Place) (first : _) (v : Vec ArmNode) (right : Place) → all_in_core w (view_core (the_core.Match match_place left_parenthesis expr right_parenthesis left first v right)) ≡ all_in_arm (view_arm first.value) ++ flat_map all_in_arm (map view_arm v.items)
match_has w match_place left_parenthesis expr right_parenthesis left first v right = ap (λ (ts : List Traversed). all_in_arm (view_arm first.value) ++ ts) (arm_row (hidden-the_row-ArmNode-2 v) ∙ ap (λ (xs : List ArmNode). flat_map all_in_arm (map view_arm xs)) (items_hidden-the_row-ArmNode-2 v))
