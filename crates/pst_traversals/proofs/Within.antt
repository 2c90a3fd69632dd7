-- The traversals of a handle are those of the list that have its name.
use Rattle.std.proofs.Common.{◌≡◌, ◌++◌, ◌∷◌, [], List, Bool, true, false, refl, ap, ◌∙◌}
use Rattle.std.specs.List.{flat_map}
use Rattle.std.specs.Prelude.{if◌then◌else◌}
use Rattle.std.proofs.lemmas.List.{append-nil}
use Rattle.std.proofs.lemmas.List.Concat.{flat_map-append}
use Rattle.pst_base.specs.declared.table.NameId.{NameId}
use Rattle.pst_ast.specs.Sorts.{same_name}
use Rattle.pst_ast.specs.ActivityTree.{StatementTree, StatementEmpty, StatementLabeled, StatementPlain, CoreTree, CoreDo, CoreHandle, CoreSequence, CoreTogether, CoreSelect, CoreRepeat, CoreIf, CoreIfElse, CoreMatch, CoreBind, BranchTree, MakeBranch, ArmTree, MakeArm, StatementRow, NoStatementRow, MoreStatementRow, BranchRow, NoBranchRow, MoreBranchRow, ArmRow, NoArmRow, MoreArmRow}
use Rattle.pst_type_rules.specs.Handles.{traversals, core_traversals, row_traversals, branch_traversals, branch_row_traversals, arm_traversals, arm_row_traversals}
use Rattle.pst_traversals.specs.declared.listing.Traversed.{Traversed}
use Rattle.pst_traversals.specs.Listed.{all_in_statement, all_in_core, all_in_row, all_in_branch, all_in_branch_row, all_in_arm, all_in_arm_row, within_of, withins}

module _ (h : NameId) where
  both : (a b : List Traversed) (p q : List Bool) → withins h a ≡ p → withins h b ≡ q → withins h (a ++ b) ≡ p ++ q
  both a b p q e f = flat_map-append (within_of h) a b ∙ (ap (λ (x : List Bool). x ++ withins h b) e ∙ ap (λ (x : List Bool). p ++ x) f)

  mutual
    in_statement : (w : Bool) (t : StatementTree) → withins h (all_in_statement w t) ≡ traversals h w t
    in_statement w (StatementEmpty place) = refl
    in_statement w (StatementLabeled label core) = in_core w core
    in_statement w (StatementPlain core) = in_core w core

    in_core : (w : Bool) (t : CoreTree) → withins h (all_in_core w t) ≡ core_traversals h w t
    in_core w (CoreDo do_place name with_part) = refl
    in_core w (CoreHandle name with_part) = append-nil (if same_name name.id h then w ∷ [] else [])
    in_core w (CoreSequence word left statements right) = in_row w statements
    in_core w (CoreTogether word place join left statements right) = in_row w statements
    in_core w (CoreSelect word left first rest right) = both (all_in_branch first) (all_in_branch_row rest) (branch_traversals h first) (branch_row_traversals h rest) (in_branch first) (in_branch_row rest)
    in_core w (CoreRepeat word left index count right statement) = in_statement true statement
    in_core w (CoreIf word left condition right then_part) = in_statement true then_part
    in_core w (CoreIfElse word left condition right then_part else_place otherwise) = both (all_in_statement true then_part) (all_in_statement true otherwise) (traversals h true then_part) (traversals h true otherwise) (in_statement true then_part) (in_statement true otherwise)
    in_core w (CoreMatch word left expr right opening first rest close) = both (all_in_arm first) (all_in_arm_row rest) (arm_traversals h first) (arm_row_traversals h rest) (in_arm first) (in_arm_row rest)
    in_core w (CoreBind bind) = refl

    in_row : (w : Bool) (t : StatementRow) → withins h (all_in_row w t) ≡ row_traversals h w t
    in_row w NoStatementRow = refl
    in_row w (MoreStatementRow head tail) = both (all_in_statement w head) (all_in_row w tail) (traversals h w head) (row_traversals h w tail) (in_statement w head) (in_row w tail)

    in_branch : (t : BranchTree) → withins h (all_in_branch t) ≡ branch_traversals h t
    in_branch (MakeBranch guard statement) = in_statement true statement

    in_branch_row : (t : BranchRow) → withins h (all_in_branch_row t) ≡ branch_row_traversals h t
    in_branch_row NoBranchRow = refl
    in_branch_row (MoreBranchRow head tail) = both (all_in_branch head) (all_in_branch_row tail) (branch_traversals h head) (branch_row_traversals h tail) (in_branch head) (in_branch_row tail)

    in_arm : (t : ArmTree) → withins h (all_in_arm t) ≡ arm_traversals h t
    in_arm (MakeArm label colon statement) = in_statement true statement

    in_arm_row : (t : ArmRow) → withins h (all_in_arm_row t) ≡ arm_row_traversals h t
    in_arm_row NoArmRow = refl
    in_arm_row (MoreArmRow head tail) = both (all_in_arm head) (all_in_arm_row tail) (arm_traversals h head) (arm_row_traversals h tail) (in_arm head) (in_arm_row tail)

  pub in_statements : (ss : List StatementTree) → withins h (flat_map (all_in_statement false) ss) ≡ flat_map (traversals h false) ss
  in_statements [] = refl
  in_statements (s ∷ ss) = both (all_in_statement false s) (flat_map (all_in_statement false) ss) (traversals h false s) (flat_map (traversals h false) ss) (in_statement false s) (in_statements ss)
