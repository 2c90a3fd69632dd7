-- A row in a tree declares what its list declares: activity.
use Rattle.std.proofs.Common.{◌≡◌, ◌++◌, List, refl, ap, ◌∙◌}
use Rattle.std.specs.Prelude.{map, Option}
use Rattle.std.specs.List.{flat_map}
use Rattle.std.specs.Global.{Vec}
use Rattle.pst_base.specs.declared.position.Place.{Place}
use Rattle.pst_ast.specs.declared.activity.CoreNode.{Row_of-StatementNode, end_of-StatementNode, more_of-StatementNode, items-the_row-StatementNode, items_hidden-the_row-StatementNode-0, Row_of-BranchNode, end_of-BranchNode, more_of-BranchNode, items-the_row-BranchNode, items_hidden-the_row-BranchNode-1, Row_of-ArmNode, end_of-ArmNode, more_of-ArmNode, items-the_row-ArmNode, items_hidden-the_row-ArmNode-2}
use Rattle.pst_ast.specs.declared.activity.CoreNode.TheBlock.{hidden-the_row-StatementNode-0, hidden-the_row-BranchNode-1, hidden-the_row-ArmNode-2}
use Rattle.pst_ast.specs.declared.activity.CoreNode.TheVariants as the_core
use Rattle.pst_ast.specs.declared.activity.StatementNode.{StatementNode}
use Rattle.pst_ast.specs.declared.activity.BranchNode.{BranchNode}
use Rattle.pst_ast.specs.declared.activity.ArmNode.{ArmNode}
use Rattle.pst_ast.specs.declared.activity.JoinNode.{JoinNode}
use Rattle.pst_ast.specs.declared.activity.TogetherWord.{TogetherWord}
use Rattle.pst_ast.specs.declared.expression.ExprNode.{ExprNode}
use Rattle.pst_ast.specs.ActivityView.{view_core, view_statement, view_statement_row, view_branch, view_branch_row, view_arm, view_arm_row}
use Rattle.pst_ast.specs.declared.scope_declaration.Declaration.{Declaration}
use Rattle.pst_ast.specs.Declarations.{in_arm, in_arm_row, in_branch, in_branch_row, in_core, in_statement, in_statement_row}

statement_row : (owner : Place) {n : _} (k : Row_of-StatementNode n) → in_statement_row owner (view_statement_row k) ≡ flat_map (in_statement owner) (map view_statement (items-the_row-StatementNode n k))
statement_row owner end_of-StatementNode = refl
statement_row owner (more_of-StatementNode head tail) = ap (λ (ds : List Declaration). in_statement owner (view_statement head) ++ ds) (statement_row owner tail)

statement_items : (owner : Place) (v : Vec StatementNode) → in_statement_row owner (view_statement_row (hidden-the_row-StatementNode-0 v)) ≡ flat_map (in_statement owner) (map view_statement v.items)
statement_items owner v = statement_row owner (hidden-the_row-StatementNode-0 v) ∙ ap (λ (xs : List StatementNode). flat_map (in_statement owner) (map view_statement xs)) (items_hidden-the_row-StatementNode-0 v)

branch_row : (owner : Place) {n : _} (k : Row_of-BranchNode n) → in_branch_row owner (view_branch_row k) ≡ flat_map (in_branch owner) (map view_branch (items-the_row-BranchNode n k))
branch_row owner end_of-BranchNode = refl
branch_row owner (more_of-BranchNode guard statement tail) = ap (λ (ds : List Declaration). in_statement owner (view_statement statement) ++ ds) (branch_row owner tail)

branch_items : (owner : Place) (v : Vec BranchNode) → in_branch_row owner (view_branch_row (hidden-the_row-BranchNode-1 v)) ≡ flat_map (in_branch owner) (map view_branch v.items)
branch_items owner v = branch_row owner (hidden-the_row-BranchNode-1 v) ∙ ap (λ (xs : List BranchNode). flat_map (in_branch owner) (map view_branch xs)) (items_hidden-the_row-BranchNode-1 v)

arm_row : (owner : Place) {n : _} (k : Row_of-ArmNode n) → in_arm_row owner (view_arm_row k) ≡ flat_map (in_arm owner) (map view_arm (items-the_row-ArmNode n k))
arm_row owner end_of-ArmNode = refl
arm_row owner (more_of-ArmNode label colon statement tail) = ap (λ (ds : List Declaration). in_statement owner (view_statement statement) ++ ds) (arm_row owner tail)

arm_items : (owner : Place) (v : Vec ArmNode) → in_arm_row owner (view_arm_row (hidden-the_row-ArmNode-2 v)) ≡ flat_map (in_arm owner) (map view_arm v.items)
arm_items owner v = arm_row owner (hidden-the_row-ArmNode-2 v) ∙ ap (λ (xs : List ArmNode). flat_map (in_arm owner) (map view_arm xs)) (items_hidden-the_row-ArmNode-2 v)

pub sequence_declares : (owner : Place) (sequence : Option Place) (left : Place) (v : Vec StatementNode) (right : Place) → in_core owner (view_core (the_core.Sequence sequence left v right)) ≡ flat_map (in_statement owner) (map view_statement v.items)
sequence_declares owner sequence left v right = statement_items owner v

pub together_declares : (owner : Place) (word : TogetherWord) (place : Place) (join : Option JoinNode) (left : Place) (v : Vec StatementNode) (right : Place) → in_core owner (view_core (the_core.Together word place join left v right)) ≡ flat_map (in_statement owner) (map view_statement v.items)
together_declares owner word place join left v right = statement_items owner v

pub select_declares : (owner select left : Place) (first : _) (v : Vec BranchNode) (right : Place) → in_core owner (view_core (the_core.Select select left first v right)) ≡ in_branch owner (view_branch first.value) ++ flat_map (in_branch owner) (map view_branch v.items)
select_declares owner select left first v right = ap (λ (ds : List Declaration). in_branch owner (view_branch first.value) ++ ds) (branch_items owner v)

pub match_declares : (owner match_place left_parenthesis : Place) (expr : ExprNode) (right_parenthesis left : Place) (first : _) (v : Vec ArmNode) (right : Place) → in_core owner (view_core (the_core.Match match_place left_parenthesis expr right_parenthesis left first v right)) ≡ in_arm owner (view_arm first.value) ++ flat_map (in_arm owner) (map view_arm v.items)
match_declares owner match_place left_parenthesis expr right_parenthesis left first v right = ap (λ (ds : List Declaration). in_arm owner (view_arm first.value) ++ ds) (arm_items owner v)
