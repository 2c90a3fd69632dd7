-- The uses in the rows of an activity are those in its lists.
use Rattle.std.proofs.Common.{◌≡◌, ◌++◌, ◌∷◌, [], List, refl, ap, ◌∙◌}
use Rattle.std.specs.Prelude.{map, Option}
use Rattle.std.specs.List.{flat_map}
use Rattle.std.specs.Option.{option_map}
use Rattle.std.specs.Global.{Vec}
use Rattle.pst_base.specs.declared.position.Place.{Place}
use Rattle.pst_ast.specs.declared.activity.CoreNode.{Row_of-StatementNode, end_of-StatementNode, more_of-StatementNode, items-the_row-StatementNode, items_hidden-the_row-StatementNode-0, Row_of-BranchNode, end_of-BranchNode, more_of-BranchNode, items-the_row-BranchNode, items_hidden-the_row-BranchNode-1, Row_of-ArmNode, end_of-ArmNode, more_of-ArmNode, items-the_row-ArmNode, items_hidden-the_row-ArmNode-2}
use Rattle.pst_ast.specs.declared.activity.CoreNode.TheBlock.{hidden-the_row-StatementNode-0, hidden-the_row-BranchNode-1, hidden-the_row-ArmNode-2}
use Rattle.pst_ast.specs.declared.activity.CoreNode.TheVariants as the_core
use Rattle.pst_ast.specs.declared.activity.StatementNode.{StatementNode}
use Rattle.pst_ast.specs.declared.activity.BranchNode.{BranchNode}
use Rattle.pst_ast.specs.declared.activity.ArmNode.{ArmNode}
use Rattle.pst_ast.specs.declared.activity.JoinNode.{JoinNode}
use Rattle.pst_ast.specs.declared.activity.TogetherWord.{TogetherWord}
use Rattle.pst_ast.specs.declared.expression.ExprNode.{ExprNode}
use Rattle.pst_ast.specs.ActivityTree.{StatementTree, StatementRow, MoreStatementRow, ArmLabelTree}
use Rattle.pst_ast.specs.ActivityView.{view_arm, view_arm_row, view_branch, view_branch_row, view_core, view_join, view_statement, view_statement_row}
use Rattle.pst_ast.specs.ExpressionView.{view_expr}
use Rattle.pst_ast.specs.declared.environment.Environment.{Environment}
use Rattle.pst_ast.specs.Uses.{Use, Arms, Branches, Condition, arm_label, arm_labels, arm_row_uses, arm_uses, branch_places, branch_row_uses, branch_uses, branches_in, core_uses, join_uses, labels_in, option_uses, statement_row_uses, statement_uses, whole_uses}
use Rattle.pst_walk_parts.specs.Shown.{row_of, view_statements}

-- ---- statements

statement_row : {n : _} (k : Row_of-StatementNode n) → view_statement_row k ≡ row_of (map view_statement (items-the_row-StatementNode n k))
statement_row end_of-StatementNode = refl
statement_row (more_of-StatementNode head tail) = ap (λ (r : StatementRow). MoreStatementRow (view_statement head) r) (statement_row tail)

statements_are : (v : Vec StatementNode) → view_statement_row (hidden-the_row-StatementNode-0 v) ≡ view_statements v.items
statements_are v = statement_row (hidden-the_row-StatementNode-0 v) ∙ ap view_statements (items_hidden-the_row-StatementNode-0 v)

row_uses : (at : Environment) (ss : List StatementTree) → statement_row_uses at (row_of ss) ≡ flat_map (statement_uses at) ss
row_uses at [] = refl
row_uses at (s ∷ ss) = ap (λ (us : List Use). statement_uses at s ++ us) (row_uses at ss)

pub sequence_uses_are : (at : Environment) (sequence : Option Place) (left : Place) (v : Vec StatementNode) (right : Place) → core_uses at (view_core (the_core.Sequence sequence left v right)) ≡ flat_map (statement_uses at) (map view_statement v.items)
sequence_uses_are at sequence left v right = ap (statement_row_uses at) (statements_are v) ∙ row_uses at (map view_statement v.items)

-- the uses in a join form of a block with these statements
abbrev joined : Environment → Option JoinNode → StatementRow → List Use
joined at join r = option_uses (λ j. Branches (branch_places r) ∷ join_uses at (labels_in r) (branches_in r) j) (option_map view_join join)

pub together_uses_are : (at : Environment) (word : TogetherWord) (place : Place) (join : Option JoinNode) (left : Place) (v : Vec StatementNode) (right : Place) → core_uses at (view_core (the_core.Together word place join left v right)) ≡ option_uses (λ j. Branches (branch_places (view_statements v.items)) ∷ join_uses at (labels_in (view_statements v.items)) (branches_in (view_statements v.items)) j) (option_map view_join join) ++ flat_map (statement_uses at) (map view_statement v.items)
together_uses_are at word place join left v right =
    ap (λ (r : StatementRow). joined at join r ++ statement_row_uses at r) (statements_are v)
    ∙ ap (λ (us : List Use). joined at join (view_statements v.items) ++ us) (row_uses at (map view_statement v.items))

-- ---- branches

branch_row : (at : Environment) {n : _} (k : Row_of-BranchNode n) → branch_row_uses at (view_branch_row k) ≡ flat_map (branch_uses at) (map view_branch (items-the_row-BranchNode n k))
branch_row at end_of-BranchNode = refl
branch_row at (more_of-BranchNode guard statement tail) = ap (λ (us : List Use). branch_uses at (view_branch (record { guard = guard; statement = statement })) ++ us) (branch_row at tail)

pub select_uses_are : (at : Environment) (select left : Place) (first : _) (v : Vec BranchNode) (right : Place) → core_uses at (view_core (the_core.Select select left first v right)) ≡ branch_uses at (view_branch first.value) ++ flat_map (branch_uses at) (map view_branch v.items)
select_uses_are at select left first v right = ap (λ (us : List Use). branch_uses at (view_branch first.value) ++ us) (branch_row at (hidden-the_row-BranchNode-1 v) ∙ ap (λ (xs : List BranchNode). flat_map (branch_uses at) (map view_branch xs)) (items_hidden-the_row-BranchNode-1 v))

-- ---- arms

abbrev label_of_arm : ArmNode → ArmLabelTree
label_of_arm a = arm_label (view_arm a)

arm_row : (at : Environment) {n : _} (k : Row_of-ArmNode n) → arm_row_uses at (view_arm_row k) ≡ flat_map (arm_uses at) (map view_arm (items-the_row-ArmNode n k))
arm_row at end_of-ArmNode = refl
arm_row at (more_of-ArmNode label colon statement tail) = ap (λ (us : List Use). arm_uses at (view_arm (record { label = label; colon = colon; statement = statement })) ++ us) (arm_row at tail)

label_row : {n : _} (k : Row_of-ArmNode n) → arm_labels (view_arm_row k) ≡ map label_of_arm (items-the_row-ArmNode n k)
label_row end_of-ArmNode = refl
label_row (more_of-ArmNode label colon statement tail) = ap (λ (ls : List ArmLabelTree). label_of_arm (record { label = label; colon = colon; statement = statement }) ∷ ls) (label_row tail)

pub match_uses_are : (at : Environment) (match_place left_parenthesis : Place) (expr : ExprNode) (right_parenthesis left : Place) (first : _) (v : Vec ArmNode) (right : Place) → core_uses at (view_core (the_core.Match match_place left_parenthesis expr right_parenthesis left first v right)) ≡ Arms at (arm_label (view_arm first.value) ∷ map (λ (a : ArmNode). arm_label (view_arm a)) v.items) ∷ (whole_uses at Condition (view_expr expr) ++ (arm_uses at (view_arm first.value) ++ flat_map (arm_uses at) (map view_arm v.items)))
match_uses_are at match_place left_parenthesis expr right_parenthesis left first v right =
    ap (λ (ls : List ArmLabelTree). Arms at (arm_label (view_arm first.value) ∷ ls) ∷ (whole_uses at Condition (view_expr expr) ++ (arm_uses at (view_arm first.value) ++ arm_row_uses at (view_arm_row (hidden-the_row-ArmNode-2 v))))) (label_row (hidden-the_row-ArmNode-2 v) ∙ ap (map label_of_arm) (items_hidden-the_row-ArmNode-2 v))
    ∙ ap (λ (us : List Use). Arms at (arm_label (view_arm first.value) ∷ map label_of_arm v.items) ∷ (whole_uses at Condition (view_expr expr) ++ (arm_uses at (view_arm first.value) ++ us))) (arm_row at (hidden-the_row-ArmNode-2 v) ∙ ap (λ (xs : List ArmNode). flat_map (arm_uses at) (map view_arm xs)) (items_hidden-the_row-ArmNode-2 v))
