-- The binds in the rows of an activity are those in its lists.
use Rattle.std.proofs.Common.{◌≡◌, ℕ, ◌+◌, ◌<◌, List, ◌++◌, refl, sym, ap, ◌∙◌, map, length, append_assoc}
use Rattle.std.proofs.lemmas.Grind.{flat_map-append}
use Rattle.std.proofs.lemmas.List.{drop_more}
use Rattle.std.specs.Prelude.{drop, get_or, Option}
use Rattle.std.specs.List.{flat_map}
use Rattle.std.specs.Global.{Vec}
use Rattle.pst_base.specs.declared.position.Place.{Place}
use Rattle.pst_ast.specs.declared.activity.CoreNode.{Row_of-StatementNode, end_of-StatementNode, more_of-StatementNode, items-the_row-StatementNode, items_hidden-the_row-StatementNode-0, Row_of-BranchNode, end_of-BranchNode, more_of-BranchNode, items-the_row-BranchNode, items_hidden-the_row-BranchNode-1, Row_of-ArmNode, end_of-ArmNode, more_of-ArmNode, items-the_row-ArmNode, items_hidden-the_row-ArmNode-2}
use Rattle.pst_ast.specs.declared.activity.CoreNode.TheBlock.{hidden-the_row-StatementNode-0, hidden-the_row-BranchNode-1, hidden-the_row-ArmNode-2}
use Rattle.pst_ast.specs.declared.activity.CoreNode.TheVariants as the_core
use Rattle.pst_ast.specs.declared.activity.StatementNode.{StatementNode}
use Rattle.pst_ast.specs.declared.activity.BranchNode.{BranchNode}
use Rattle.pst_ast.specs.declared.activity.ArmNode.{ArmNode}
use Rattle.pst_ast.specs.declared.activity.JoinNode.{JoinNode}
use Rattle.pst_ast.specs.declared.activity.TogetherWord.{TogetherWord}
use Rattle.pst_ast.specs.declared.expression.ExprNode.{ExprNode}
use Rattle.pst_ast.specs.ActivityTree.{BindTree}
use Rattle.pst_ast.specs.ActivityView.{view_arm, view_arm_row, view_branch, view_branch_row, view_core, view_statement, view_statement_row}
use Rattle.pst_model.specs.declared.activity.Tie.{Tie}
use Rattle.pst_terms.specs.Sources.{Sources}
use Rattle.pst_terms.specs.Readings.{Setting}
use Rattle.pst_elab_rules.specs.Ties.{ties_of, core_binds, statement_binds, row_binds, branch_binds, branch_row_binds, arm_binds, arm_row_binds}
use Rattle.pst_activity_ties.specs.Tied.{tied}

pub tied_append : (s : Sources) (setting : Setting) (xs ys : List BindTree) → tied s setting (xs ++ ys) ≡ tied s setting xs ++ tied s setting ys
tied_append s setting xs ys = flat_map-append (ties_of s setting) xs ys

-- those of two parts
pub tied_both : (s : Sources) (setting : Setting) (old mid : List Tie) (xs ys all : List BindTree) → mid ≡ old ++ tied s setting xs → all ≡ xs ++ ys → mid ++ tied s setting ys ≡ old ++ tied s setting all
tied_both s setting old mid xs ys all is both =
    ap (λ (ts : List Tie). ts ++ tied s setting ys) is
    ∙ append_assoc old (tied s setting xs) (tied s setting ys)
    ∙ ap (λ (ts : List Tie). old ++ ts) (sym (tied_append s setting xs ys))
    ∙ ap (λ (bs : List BindTree). old ++ tied s setting bs) (sym both)

-- those of one after another
pub tied_more : {X Y : Type 0} (s : Sources) (setting : Setting) (view : X → Y) (f : Y → List BindTree) (old new total : List Tie) (items : List X) (i : ℕ) (item : X) → i < length items → item ≡ get_or items i item
    → new ≡ old ++ tied s setting (f (view item)) → old ++ tied s setting (flat_map f (map view (drop i items))) ≡ total → new ++ tied s setting (flat_map f (map view (drop (i + 1) items))) ≡ total
tied_more {X} {Y} s setting view f old new total items i item within at is e =
    let rest = flat_map f (map view (drop (i + 1) items)) in
    tied_both s setting old new (f (view item)) rest (f (view item) ++ rest) is refl
    ∙ ap (λ (x : X). old ++ tied s setting (f (view x) ++ rest)) at
    ∙ ap (λ (xs : List X). old ++ tied s setting (flat_map f (map view xs))) (sym (drop_more items i item within))
    ∙ e

-- a tie of its numbers
abbrev pub tie : ℕ → ℕ → ℕ → ℕ → Tie
tie from_handle from_reference to_handle to_reference = record { from_handle = from_handle; from_reference = from_reference; to_handle = to_handle; to_reference = to_reference }

statements_in : {n : _} (k : Row_of-StatementNode n) → row_binds (view_statement_row k) ≡ flat_map statement_binds (map view_statement (items-the_row-StatementNode n k))
statements_in end_of-StatementNode = refl
statements_in (more_of-StatementNode head tail) = ap (λ (bs : List BindTree). statement_binds (view_statement head) ++ bs) (statements_in tail)

pub sequence_binds_are : (sequence : Option Place) (left : Place) (v : Vec StatementNode) (right : Place) → core_binds (view_core (the_core.Sequence sequence left v right)) ≡ flat_map statement_binds (map view_statement v.items)
sequence_binds_are sequence left v right = statements_in (hidden-the_row-StatementNode-0 v) ∙ ap (λ (xs : List StatementNode). flat_map statement_binds (map view_statement xs)) (items_hidden-the_row-StatementNode-0 v)

pub together_binds_are : (word : TogetherWord) (place : Place) (join : Option JoinNode) (left : Place) (v : Vec StatementNode) (right : Place) → core_binds (view_core (the_core.Together word place join left v right)) ≡ flat_map statement_binds (map view_statement v.items)
together_binds_are word place join left v right = statements_in (hidden-the_row-StatementNode-0 v) ∙ ap (λ (xs : List StatementNode). flat_map statement_binds (map view_statement xs)) (items_hidden-the_row-StatementNode-0 v)

branches_in : {n : _} (k : Row_of-BranchNode n) → branch_row_binds (view_branch_row k) ≡ flat_map branch_binds (map view_branch (items-the_row-BranchNode n k))
branches_in end_of-BranchNode = refl
branches_in (more_of-BranchNode guard statement tail) = ap (λ (bs : List BindTree). branch_binds (view_branch (record { guard = guard; statement = statement })) ++ bs) (branches_in tail)

pub select_binds_are : (select left : Place) (first : _) (v : Vec BranchNode) (right : Place) → core_binds (view_core (the_core.Select select left first v right)) ≡ branch_binds (view_branch first.value) ++ flat_map branch_binds (map view_branch v.items)
select_binds_are select left first v right = ap (λ (bs : List BindTree). branch_binds (view_branch first.value) ++ bs) (branches_in (hidden-the_row-BranchNode-1 v) ∙ ap (λ (xs : List BranchNode). flat_map branch_binds (map view_branch xs)) (items_hidden-the_row-BranchNode-1 v))

arms_in : {n : _} (k : Row_of-ArmNode n) → arm_row_binds (view_arm_row k) ≡ flat_map arm_binds (map view_arm (items-the_row-ArmNode n k))
arms_in end_of-ArmNode = refl
arms_in (more_of-ArmNode label colon statement tail) = ap (λ (bs : List BindTree). arm_binds (view_arm (record { label = label; colon = colon; statement = statement })) ++ bs) (arms_in tail)

pub match_binds_are : (match_place left_parenthesis : Place) (expr : ExprNode) (right_parenthesis left : Place) (first : _) (v : Vec ArmNode) (right : Place) → core_binds (view_core (the_core.Match match_place left_parenthesis expr right_parenthesis left first v right)) ≡ arm_binds (view_arm first.value) ++ flat_map arm_binds (map view_arm v.items)
match_binds_are match_place left_parenthesis expr right_parenthesis left first v right = ap (λ (bs : List BindTree). arm_binds (view_arm first.value) ++ bs) (arms_in (hidden-the_row-ArmNode-2 v) ∙ ap (λ (xs : List ArmNode). flat_map arm_binds (map view_arm xs)) (items_hidden-the_row-ArmNode-2 v))
