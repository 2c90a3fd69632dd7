-- The parts of a row in a tree are spelled as those of its list: activity.
use Rattle.std.proofs.Common.{◌≡◌, ◌++◌, ◌∷◌, [], List, refl, ap, ◌∙◌}
use Rattle.std.specs.Prelude.{map}
use Rattle.std.specs.List.{flat_map}
use Rattle.std.specs.Global.{Vec}
use Rattle.pst_token.specs.declared.token.Token.{Token}
use Rattle.pst_ast.specs.declared.activity.CoreNode.{Row_of-StatementNode, end_of-StatementNode, more_of-StatementNode, items-the_row-StatementNode, items_hidden-the_row-StatementNode-0, Row_of-BranchNode, end_of-BranchNode, more_of-BranchNode, items-the_row-BranchNode, items_hidden-the_row-BranchNode-1, Row_of-ArmNode, end_of-ArmNode, more_of-ArmNode, items-the_row-ArmNode, items_hidden-the_row-ArmNode-2}
use Rattle.pst_ast.specs.declared.activity.CoreNode.TheBlock.{hidden-the_row-StatementNode-0, hidden-the_row-BranchNode-1, hidden-the_row-ArmNode-2}
use Rattle.pst_ast.specs.declared.activity.StatementNode.{StatementNode}
use Rattle.pst_ast.specs.declared.activity.BranchNode.{BranchNode}
use Rattle.pst_ast.specs.declared.activity.ArmNode.{ArmNode}
use Rattle.pst_ast.specs.ActivityView.{view_statement, view_statement_row, view_branch, view_branch_row, view_arm, view_arm_row}
use Rattle.pst_ast.specs.ActivitySpelling.{spell_statement, spell_statement_row, spell_branch, spell_branch_row, spell_arm, spell_arm_row}
use Rattle.pst_base.specs.declared.position.Place.{Place}
use Rattle.pst_token.specs.declared.kind.Kind.TheVariants as kind
use Rattle.std.specs.Prelude.{Option}
use Rattle.std.specs.Option.{option_map}
use Rattle.pst_ast.specs.declared.activity.CoreNode.TheVariants as the_core
use Rattle.pst_ast.specs.declared.activity.JoinNode.{JoinNode}
use Rattle.pst_ast.specs.declared.activity.TogetherWord.{TogetherWord}
use Rattle.pst_ast.specs.declared.expression.ExprNode.{ExprNode}
use Rattle.pst_ast.specs.Marks.{mark, spell_option, together_word_kind}
use Rattle.pst_ast.specs.ActivityView.{view_core, view_join}
use Rattle.pst_ast.specs.ActivitySpelling.{spell_core, spell_join}
use Rattle.pst_ast.specs.ExpressionView.{view_expr}
use Rattle.pst_ast.specs.ExpressionSpelling.{spell_expr}

statement_row : {n : _} (k : Row_of-StatementNode n) → spell_statement_row (view_statement_row k) ≡ flat_map spell_statement (map view_statement (items-the_row-StatementNode n k))
statement_row end_of-StatementNode = refl
statement_row (more_of-StatementNode head tail) = ap (λ (ts : List Token). spell_statement (view_statement (head)) ++ ts) (statement_row tail)

pub statement_items : (v : Vec StatementNode) → spell_statement_row (view_statement_row (hidden-the_row-StatementNode-0 v)) ≡ flat_map spell_statement (map view_statement v.items)
statement_items v = statement_row (hidden-the_row-StatementNode-0 v) ∙ ap (λ (xs : List StatementNode). flat_map spell_statement (map view_statement xs)) (items_hidden-the_row-StatementNode-0 v)

branch_row : {n : _} (k : Row_of-BranchNode n) → spell_branch_row (view_branch_row k) ≡ flat_map spell_branch (map view_branch (items-the_row-BranchNode n k))
branch_row end_of-BranchNode = refl
branch_row (more_of-BranchNode guard statement tail) = ap (λ (ts : List Token). spell_branch (view_branch (record { guard = guard; statement = statement })) ++ ts) (branch_row tail)

pub branch_items : (v : Vec BranchNode) → spell_branch_row (view_branch_row (hidden-the_row-BranchNode-1 v)) ≡ flat_map spell_branch (map view_branch v.items)
branch_items v = branch_row (hidden-the_row-BranchNode-1 v) ∙ ap (λ (xs : List BranchNode). flat_map spell_branch (map view_branch xs)) (items_hidden-the_row-BranchNode-1 v)

arm_row : {n : _} (k : Row_of-ArmNode n) → spell_arm_row (view_arm_row k) ≡ flat_map spell_arm (map view_arm (items-the_row-ArmNode n k))
arm_row end_of-ArmNode = refl
arm_row (more_of-ArmNode label colon statement tail) = ap (λ (ts : List Token). spell_arm (view_arm (record { label = label; colon = colon; statement = statement })) ++ ts) (arm_row tail)

pub arm_items : (v : Vec ArmNode) → spell_arm_row (view_arm_row (hidden-the_row-ArmNode-2 v)) ≡ flat_map spell_arm (map view_arm v.items)
arm_items v = arm_row (hidden-the_row-ArmNode-2 v) ∙ ap (λ (xs : List ArmNode). flat_map spell_arm (map view_arm xs)) (items_hidden-the_row-ArmNode-2 v)

pub sequence_spells : (sequence : Option Place) (left : Place) (v : Vec StatementNode) (right : Place) → spell_core (view_core (the_core.Sequence sequence left v right)) ≡ spell_option (λ p. mark kind.Sequence p ∷ []) sequence ++ mark kind.LeftBrace left ∷ (flat_map spell_statement (map view_statement v.items) ++ mark kind.RightBrace right ∷ [])
sequence_spells sequence left v right = ap (λ (ts : List Token). spell_option (λ p. mark kind.Sequence p ∷ []) sequence ++ mark kind.LeftBrace left ∷ (ts ++ mark kind.RightBrace right ∷ [])) (statement_items v)

pub together_spells : (word : TogetherWord) (place : Place) (join : Option JoinNode) (left : Place) (v : Vec StatementNode) (right : Place) → spell_core (view_core (the_core.Together word place join left v right)) ≡ mark (together_word_kind word) place ∷ (spell_option spell_join (option_map view_join join) ++ mark kind.LeftBrace left ∷ (flat_map spell_statement (map view_statement v.items) ++ mark kind.RightBrace right ∷ []))
together_spells word place join left v right = ap (λ (ts : List Token). mark (together_word_kind word) place ∷ (spell_option spell_join (option_map view_join join) ++ mark kind.LeftBrace left ∷ (ts ++ mark kind.RightBrace right ∷ []))) (statement_items v)

pub select_spells : (select left : Place) (first : _) (v : Vec BranchNode) (right : Place) → spell_core (view_core (the_core.Select select left first v right)) ≡ mark kind.Select select ∷ mark kind.LeftBrace left ∷ (spell_branch (view_branch first.value) ++ (flat_map spell_branch (map view_branch v.items) ++ mark kind.RightBrace right ∷ []))
select_spells select left first v right = ap (λ (ts : List Token). mark kind.Select select ∷ mark kind.LeftBrace left ∷ (spell_branch (view_branch first.value) ++ (ts ++ mark kind.RightBrace right ∷ []))) (branch_items v)

pub match_spells : (match_place left_parenthesis : Place) (expr : ExprNode) (right_parenthesis left : Place) (first : _) (v : Vec ArmNode) (right : Place) → spell_core (view_core (the_core.Match match_place left_parenthesis expr right_parenthesis left first v right)) ≡ mark kind.Match match_place ∷ mark kind.LeftParenthesis left_parenthesis ∷ (spell_expr (view_expr expr) ++ mark kind.RightParenthesis right_parenthesis ∷ mark kind.LeftBrace left ∷ (spell_arm (view_arm first.value) ++ (flat_map spell_arm (map view_arm v.items) ++ mark kind.RightBrace right ∷ [])))
match_spells match_place left_parenthesis expr right_parenthesis left first v right = ap (λ (ts : List Token). mark kind.Match match_place ∷ mark kind.LeftParenthesis left_parenthesis ∷ (spell_expr (view_expr expr) ++ mark kind.RightParenthesis right_parenthesis ∷ mark kind.LeftBrace left ∷ (spell_arm (view_arm first.value) ++ (ts ++ mark kind.RightBrace right ∷ [])))) (arm_items v)
