-- Each token of a tree counts once: the trees of activity.
use Rattle.std.proofs.Common.{◌≡◌, ℕ, suc, length, ap, refl, [], ◌∷◌, ◌++◌}
use Rattle.pst_ast.specs.ActivityTree.{ActivityTree, MakeActivity, StatementTree, StatementEmpty, StatementLabeled, StatementPlain, CoreTree, CoreDo, CoreHandle, CoreSequence, CoreTogether, CoreSelect, CoreRepeat, CoreIf, CoreIfElse, CoreMatch, CoreBind, BranchTree, MakeBranch, ArmTree, MakeArm, GuardTree, GuardCondition, GuardWeight, WeightTree, MakeWeight, ArmLabelTree, ArmLabelRanges, ArmLabelDefault, JoinTree, JoinBranch, JoinNothing, JoinSelect, WithTree, WithNothing, WithSet, BindTree, MakeBind, OtherEndsTree, OtherEndsOne, OtherEndsSeveral, StatementRow, NoStatementRow, MoreStatementRow, BranchRow, NoBranchRow, MoreBranchRow, ArmRow, NoArmRow, MoreArmRow}
use Rattle.pst_ast.specs.declared.activity.EndNode.{EndNode}
use Rattle.pst_ast.specs.declared.activity.NextEnd.{NextEnd}
use Rattle.pst_ast.specs.ActivityLimits.{counts_with, counts_join, counts_end, counts_next_end, counts_other_ends, counts_bind, counts_weight, counts_guard, counts_arm_label, counts_statement, counts_core, counts_branch, counts_arm, counts_statement_row, counts_branch_row, counts_arm_row, counts_activity}
use Rattle.pst_ast.specs.ActivitySpelling.{spell_with, spell_join, spell_end, spell_next_end, spell_other_ends, spell_bind, spell_weight, spell_guard, spell_arm_label, spell_statement, spell_core, spell_branch, spell_arm, spell_statement_row, spell_branch_row, spell_arm_row, spell_activity}
use Rattle.std.specs.List.{flat_map}
use Rattle.pst_ast.specs.Limits.{counted, counts_option}
use Rattle.pst_ast.specs.Marks.{mark, spell_option}
use Rattle.pst_token.specs.declared.kind.Kind.TheVariants as kind
use Rattle.pst_ast.specs.ExpressionLimits.{counts_expr}
use Rattle.pst_ast.specs.ExpressionSpelling.{spell_expr}
use Rattle.pst_ast.specs.SharedLimits.{counts_label, counts_names, counts_type_name}
use Rattle.pst_ast.specs.SharedSpelling.{spell_label, spell_names, spell_type_name}
use Rattle.pst_counted_tokens.proofs.Constraint.{each_constraint}
use Rattle.pst_counted_tokens.proofs.Expression.{each_expr}
use Rattle.pst_counted_tokens.proofs.Shared.{each_label, each_names, each_own_ranges, each_type_name}
use Rattle.pst_counted_tokens.proofs.Rows.{behind, each_of_list, each_of_option}

pub each_with : (depth : ℕ) (t : WithTree) → length (counts_with depth t) ≡ length (spell_with t)
each_with depth (WithNothing place) = refl
each_with depth (WithSet with_place set) = ap suc (each_constraint depth set)

pub each_join : (depth : ℕ) (t : JoinTree) → length (counts_join depth t) ≡ length (spell_join t)
each_join depth (JoinBranch join_branch_place left_parenthesis_place names right_parenthesis_place) = ap suc (ap suc (behind (counts_names depth names) ((counted depth 0) ∷ []) (spell_names names) ((mark kind.RightParenthesis right_parenthesis_place) ∷ []) (each_names depth names) refl))
each_join depth (JoinNothing place) = refl
each_join depth (JoinSelect join_select_place left_parenthesis_place count right_parenthesis_place) = ap suc (ap suc (behind _ _ _ _ (each_expr depth 0 count) refl))

pub each_end : (depth : ℕ) (t : EndNode) → length (counts_end depth t) ≡ length (spell_end t)
each_end depth t = refl

pub each_next_end : (depth : ℕ) (t : NextEnd) → length (counts_next_end depth t) ≡ length (spell_next_end t)
each_next_end depth t = ap suc (each_end depth t.end)

pub each_other_ends : (depth : ℕ) (t : OtherEndsTree) → length (counts_other_ends depth t) ≡ length (spell_other_ends t)
each_other_ends depth (OtherEndsOne end) = each_end depth end
each_other_ends depth (OtherEndsSeveral left_brace_place first rest right_brace_place) = ap suc (behind (counts_end depth first) ((flat_map (counts_next_end depth) rest) ++ ((counted depth 0) ∷ [])) (spell_end first) ((flat_map spell_next_end rest) ++ ((mark kind.RightBrace right_brace_place) ∷ [])) (each_end depth first) (behind (flat_map (counts_next_end depth) rest) ((counted depth 0) ∷ []) (flat_map spell_next_end rest) ((mark kind.RightBrace right_brace_place) ∷ []) (each_of_list (counts_next_end depth) spell_next_end (λ x. each_next_end depth x) rest) refl))

pub each_bind : (depth : ℕ) (t : BindTree) → length (counts_bind depth t) ≡ length (spell_bind t)
each_bind depth (MakeBind bind_place first others semicolon_place) = ap suc (behind (counts_end depth first) ((counts_other_ends depth others) ++ ((counted depth 0) ∷ [])) (spell_end first) ((spell_other_ends others) ++ ((mark kind.Semicolon semicolon_place) ∷ [])) (each_end depth first) (behind _ _ _ _ (each_other_ends depth others) refl))

pub each_weight : (depth : ℕ) (t : WeightTree) → length (counts_weight depth t) ≡ length (spell_weight t)
each_weight depth (MakeWeight left_bracket_place expr right_bracket_place) = ap suc (behind _ _ _ _ (each_expr depth 0 expr) refl)

pub each_guard : (depth : ℕ) (t : GuardTree) → length (counts_guard depth t) ≡ length (spell_guard t)
each_guard depth (GuardCondition left_parenthesis_place condition right_parenthesis_place weight colon_place) = ap suc (behind _ _ _ _ (each_expr depth 0 condition) (ap suc (behind _ _ _ _ (each_of_option _ _ (λ x. each_weight depth x) weight) refl)))
each_guard depth (GuardWeight weight colon_place) = behind _ _ _ _ (each_weight depth weight) refl

pub each_arm_label : (depth : ℕ) (t : ArmLabelTree) → length (counts_arm_label depth t) ≡ length (spell_arm_label t)
each_arm_label depth (ArmLabelRanges left_bracket_place ranges right_bracket_place) = ap suc (behind _ _ _ _ (each_own_ranges depth ranges) refl)
each_arm_label depth (ArmLabelDefault place) = refl

mutual
  pub each_statement : (depth : ℕ) (t : StatementTree) → length (counts_statement depth t) ≡ length (spell_statement t)
  each_statement depth (StatementEmpty place) = refl
  each_statement depth (StatementLabeled label core) = behind (counts_label (suc depth) label) (counts_core (suc depth) core) (spell_label label) (spell_core core) (each_label (suc depth) label) (each_core (suc depth) core)
  each_statement depth (StatementPlain core) = each_core (suc depth) core

  pub each_core : (depth : ℕ) (t : CoreTree) → length (counts_core depth t) ≡ length (spell_core t)
  each_core depth (CoreDo do_place name with_part) = ap suc (behind (counts_type_name depth name) (counts_with depth with_part) (spell_type_name name) (spell_with with_part) (each_type_name depth name) (each_with depth with_part))
  each_core depth (CoreHandle name with_part) = ap suc (each_with depth with_part)
  each_core depth (CoreSequence sequence_place left_brace_place statements right_brace_place) = behind _ _ _ _ (each_of_option _ _ (λ p. refl) sequence_place) (ap suc (behind _ _ _ _ (each_statement_row depth statements) refl))
  each_core depth (CoreTogether word place join left_brace_place statements right_brace_place) = ap suc (behind _ _ _ _ (each_of_option _ _ (λ x. each_join depth x) join) (ap suc (behind _ _ _ _ (each_statement_row depth statements) refl)))
  each_core depth (CoreSelect select_place left_brace_place first rest right_brace_place) = ap suc (ap suc (behind _ _ _ _ (each_branch depth first) (behind _ _ _ _ (each_branch_row depth rest) refl)))
  each_core depth (CoreRepeat repeat_place left_parenthesis_place index count right_parenthesis_place statement) = ap suc (ap suc (behind (counts_option (counts_label depth) index) ((counts_expr depth 0 count) ++ ((counted depth 0) ∷ (counts_statement depth statement))) (spell_option spell_label index) ((spell_expr count) ++ ((mark kind.RightParenthesis right_parenthesis_place) ∷ (spell_statement statement))) (each_of_option (counts_label depth) spell_label (λ x. each_label depth x) index) (behind _ _ _ _ (each_expr depth 0 count) (ap suc (each_statement depth statement)))))
  each_core depth (CoreIf if_place left_parenthesis_place condition right_parenthesis_place then_part) = ap suc (ap suc (behind _ _ _ _ (each_expr depth 0 condition) (ap suc (each_statement depth then_part))))
  each_core depth (CoreIfElse if_place left_parenthesis_place condition right_parenthesis_place then_part else_place otherwise) = ap suc (ap suc (behind _ _ _ _ (each_expr depth 0 condition) (ap suc (behind _ _ _ _ (each_statement depth then_part) (ap suc (each_statement depth otherwise))))))
  each_core depth (CoreMatch match_place left_parenthesis_place expr right_parenthesis_place left_brace_place first rest right_brace_place) = ap suc (ap suc (behind _ _ _ _ (each_expr depth 0 expr) (ap suc (ap suc (behind _ _ _ _ (each_arm depth first) (behind _ _ _ _ (each_arm_row depth rest) refl))))))
  each_core depth (CoreBind bind) = each_bind depth bind

  pub each_branch : (depth : ℕ) (t : BranchTree) → length (counts_branch depth t) ≡ length (spell_branch t)
  each_branch depth (MakeBranch guard statement) = behind _ _ _ _ (each_of_option _ _ (λ x. each_guard depth x) guard) (each_statement depth statement)

  pub each_arm : (depth : ℕ) (t : ArmTree) → length (counts_arm depth t) ≡ length (spell_arm t)
  each_arm depth (MakeArm label colon_place statement) = behind _ _ _ _ (each_arm_label depth label) (ap suc (each_statement depth statement))

  pub each_statement_row : (depth : ℕ) (t : StatementRow) → length (counts_statement_row depth t) ≡ length (spell_statement_row t)
  each_statement_row depth NoStatementRow = refl
  each_statement_row depth (MoreStatementRow head tail) = behind _ _ _ _ (each_statement depth head) (each_statement_row depth tail)

  pub each_branch_row : (depth : ℕ) (t : BranchRow) → length (counts_branch_row depth t) ≡ length (spell_branch_row t)
  each_branch_row depth NoBranchRow = refl
  each_branch_row depth (MoreBranchRow head tail) = behind _ _ _ _ (each_branch depth head) (each_branch_row depth tail)

  pub each_arm_row : (depth : ℕ) (t : ArmRow) → length (counts_arm_row depth t) ≡ length (spell_arm_row t)
  each_arm_row depth NoArmRow = refl
  each_arm_row depth (MoreArmRow head tail) = behind _ _ _ _ (each_arm depth head) (each_arm_row depth tail)

pub each_activity : (depth : ℕ) (t : ActivityTree) → length (counts_activity depth t) ≡ length (spell_activity t)
each_activity depth (MakeActivity activity_place left_brace_place statements right_brace_place) = ap suc (ap suc (behind _ _ _ _ (each_of_list _ _ (λ x. each_statement depth x) statements) refl))
