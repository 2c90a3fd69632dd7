-- Which statements are branches.
use Rattle.std.proofs.Common.{◌≡◌, refl, Bool, true, false, not}
use Rattle.std.specs.Prelude.{Option, Some, None, if◌then◌else◌}
use Rattle.pst_base.specs.declared.table.NameId.{NameId}
use Rattle.pst_ast.specs.declared.shared.LabelNode.{LabelNode}
use Rattle.pst_ast.specs.ActivityTree.{StatementLabeled, StatementPlain, CoreTree, CoreDo, CoreHandle, CoreSequence, CoreTogether, CoreSelect, CoreRepeat, CoreIf, CoreIfElse, CoreMatch, CoreBind}
use Rattle.pst_ast.specs.Uses.{is_branch, label_of}
use Rattle.pst_step_parts.specs.Joined.{is_bind}

pub labeled_branch_is : (label : LabelNode) (core : CoreTree) → is_branch (StatementLabeled label core) ≡ not (is_bind core)
labeled_branch_is label (CoreDo _ _ _) = refl
labeled_branch_is label (CoreHandle _ _) = refl
labeled_branch_is label (CoreSequence _ _ _ _) = refl
labeled_branch_is label (CoreTogether _ _ _ _ _ _) = refl
labeled_branch_is label (CoreSelect _ _ _ _ _) = refl
labeled_branch_is label (CoreRepeat _ _ _ _ _ _) = refl
labeled_branch_is label (CoreIf _ _ _ _ _) = refl
labeled_branch_is label (CoreIfElse _ _ _ _ _ _ _) = refl
labeled_branch_is label (CoreMatch _ _ _ _ _ _ _ _) = refl
labeled_branch_is label (CoreBind _) = refl

pub plain_branch_is : (core : CoreTree) → is_branch (StatementPlain core) ≡ not (is_bind core)
plain_branch_is (CoreDo _ _ _) = refl
plain_branch_is (CoreHandle _ _) = refl
plain_branch_is (CoreSequence _ _ _ _) = refl
plain_branch_is (CoreTogether _ _ _ _ _ _) = refl
plain_branch_is (CoreSelect _ _ _ _ _) = refl
plain_branch_is (CoreRepeat _ _ _ _ _ _) = refl
plain_branch_is (CoreIf _ _ _ _ _) = refl
plain_branch_is (CoreIfElse _ _ _ _ _ _ _) = refl
plain_branch_is (CoreMatch _ _ _ _ _ _ _ _) = refl
plain_branch_is (CoreBind _) = refl

pub label_is : (label : LabelNode) (core : CoreTree) → label_of (StatementLabeled label core) ≡ (if is_bind core then None else Some label.name.id)
label_is label (CoreDo _ _ _) = refl
label_is label (CoreHandle _ _) = refl
label_is label (CoreSequence _ _ _ _) = refl
label_is label (CoreTogether _ _ _ _ _ _) = refl
label_is label (CoreSelect _ _ _ _ _) = refl
label_is label (CoreRepeat _ _ _ _ _ _) = refl
label_is label (CoreIf _ _ _ _ _) = refl
label_is label (CoreIfElse _ _ _ _ _ _ _) = refl
label_is label (CoreMatch _ _ _ _ _ _ _ _) = refl
label_is label (CoreBind _) = refl
