-- No activity has the token `End` in it.
use Rattle.std.proofs.Common.{List, [], ◌∷◌, Option, Some, None}
use Rattle.std.specs.List.{flat_map}
use Rattle.pst_ast.specs.declared.shared.LabelNode.{LabelNode}
use Rattle.pst_ast.specs.declared.activity.TogetherWord.TheVariants as the_together_word
use Rattle.pst_ast.specs.Marks.{spell_option}
use Rattle.pst_ast.specs.ExpressionSpelling.{spell_expr}
use Rattle.pst_ast.specs.SharedSpelling.{spell_label, spell_type_name}
use Rattle.pst_ast.specs.ActivityTree.{ActivityTree, MakeActivity, StatementTree, StatementEmpty, StatementLabeled, StatementPlain, CoreTree, CoreDo, CoreHandle, CoreSequence, CoreTogether, CoreSelect, CoreRepeat, CoreIf, CoreIfElse, CoreMatch, CoreBind, BranchTree, MakeBranch, ArmTree, MakeArm, StatementRow, NoStatementRow, MoreStatementRow, BranchRow, NoBranchRow, MoreBranchRow, ArmRow, NoArmRow, MoreArmRow}
use Rattle.pst_ast.specs.ActivitySpelling.{spell_activity, spell_statement, spell_core, spell_branch, spell_arm, spell_statement_row, spell_branch_row, spell_arm_row, spell_join, spell_guard, spell_arm_label}
use Rattle.pst_reading.proofs.Whole.{NoEnd, both_free}
use Rattle.pst_parse_operator.proofs.NoEnd.{expr_free}
use Rattle.pst_parse_part.proofs.NoEnd.{type_name_free}
use Rattle.pst_parse_step.proofs.ActivityPartsNoEnd.{with_free, join_free, bind_free, guard_free, arm_label_free}

label_free : (o : Option LabelNode) → NoEnd (spell_option spell_label o)
label_free None = tt
label_free (Some n) = (λ f. cc, (λ f. cc, tt))

mutual
  statement_free : (s : StatementTree) → NoEnd (spell_statement s)
  statement_free (StatementEmpty p) = (λ f. cc, tt)
  statement_free (StatementLabeled l c) = (λ f. cc, (λ f. cc, core_free c))
  statement_free (StatementPlain c) = core_free c

  core_free : (c : CoreTree) → NoEnd (spell_core c)
  core_free (CoreDo p n w) = (λ f. cc, both_free (spell_type_name n) _ (type_name_free n) (with_free w))
  core_free (CoreHandle n w) = (λ f. cc, with_free w)
  core_free (CoreSequence None l s r) = (λ f. cc, both_free (spell_statement_row s) _ (statements_free s) (λ f. cc, tt))
  core_free (CoreSequence (Some w) l s r) = (λ f. cc, (λ f. cc, both_free (spell_statement_row s) _ (statements_free s) (λ f. cc, tt)))
  core_free (CoreTogether the_together_word.Parallel p j l s r) = (λ f. cc, both_free (spell_option spell_join j) _ (join_free j) (λ f. cc, both_free (spell_statement_row s) _ (statements_free s) (λ f. cc, tt)))
  core_free (CoreTogether the_together_word.Schedule p j l s r) = (λ f. cc, both_free (spell_option spell_join j) _ (join_free j) (λ f. cc, both_free (spell_statement_row s) _ (statements_free s) (λ f. cc, tt)))
  core_free (CoreSelect p l b bs r) = (λ f. cc, (λ f. cc, both_free (spell_branch b) _ (branch_free b) (both_free (spell_branch_row bs) _ (branches_free bs) (λ f. cc, tt))))
  core_free (CoreRepeat p l i e r s) = (λ f. cc, (λ f. cc, both_free (spell_option spell_label i) _ (label_free i) (both_free (spell_expr e) _ (expr_free e) (λ f. cc, statement_free s))))
  core_free (CoreIf i l e r t) = (λ f. cc, (λ f. cc, both_free (spell_expr e) _ (expr_free e) (λ f. cc, statement_free t)))
  core_free (CoreIfElse i l e r t x o) = (λ f. cc, (λ f. cc, both_free (spell_expr e) _ (expr_free e) (λ f. cc, both_free (spell_statement t) _ (statement_free t) (λ f. cc, statement_free o))))
  core_free (CoreMatch p l e r b a arms z) = (λ f. cc, (λ f. cc, both_free (spell_expr e) _ (expr_free e) (λ f. cc, (λ f. cc, both_free (spell_arm a) _ (arm_free a) (both_free (spell_arm_row arms) _ (arms_free arms) (λ f. cc, tt))))))
  core_free (CoreBind b) = bind_free b

  branch_free : (b : BranchTree) → NoEnd (spell_branch b)
  branch_free (MakeBranch g s) = both_free (spell_option spell_guard g) _ (guard_free g) (statement_free s)

  arm_free : (a : ArmTree) → NoEnd (spell_arm a)
  arm_free (MakeArm l c s) = both_free (spell_arm_label l) _ (arm_label_free l) (λ f. cc, statement_free s)

  statements_free : (r : StatementRow) → NoEnd (spell_statement_row r)
  statements_free NoStatementRow = tt
  statements_free (MoreStatementRow s r) = both_free (spell_statement s) (spell_statement_row r) (statement_free s) (statements_free r)

  branches_free : (r : BranchRow) → NoEnd (spell_branch_row r)
  branches_free NoBranchRow = tt
  branches_free (MoreBranchRow b r) = both_free (spell_branch b) (spell_branch_row r) (branch_free b) (branches_free r)

  arms_free : (r : ArmRow) → NoEnd (spell_arm_row r)
  arms_free NoArmRow = tt
  arms_free (MoreArmRow a r) = both_free (spell_arm a) (spell_arm_row r) (arm_free a) (arms_free r)

all_free : (ss : List StatementTree) → NoEnd (flat_map spell_statement ss)
all_free [] = tt
all_free (s ∷ ss) = both_free (spell_statement s) (flat_map spell_statement ss) (statement_free s) (all_free ss)

pub activity_free : (a : ActivityTree) → NoEnd (spell_activity a)
activity_free (MakeActivity a l ss r) = (λ f. cc, (λ f. cc, both_free (flat_map spell_statement ss) _ (all_free ss) (λ f. cc, tt)))
