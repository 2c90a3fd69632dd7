-- What counts towards the limits at each token of the trees of activities; depth derivations that count are open round the tree.
use Rattle.std.specs.Prelude.{ℕ, suc, List, [], ◌∷◌, ◌++◌}
use Rattle.std.specs.List.{flat_map}
use Rattle.pst_ast.specs.ActivityTree.{ActivityTree, MakeActivity, StatementTree, StatementEmpty, StatementLabeled, StatementPlain, CoreTree, CoreDo, CoreHandle, CoreSequence, CoreTogether, CoreSelect, CoreRepeat, CoreIf, CoreIfElse, CoreMatch, CoreBind, BranchTree, MakeBranch, ArmTree, MakeArm, GuardTree, GuardCondition, GuardWeight, WeightTree, MakeWeight, ArmLabelTree, ArmLabelRanges, ArmLabelDefault, JoinTree, JoinBranch, JoinNothing, JoinSelect, WithTree, WithNothing, WithSet, BindTree, MakeBind, OtherEndsTree, OtherEndsOne, OtherEndsSeveral, StatementRow, NoStatementRow, MoreStatementRow, BranchRow, NoBranchRow, MoreBranchRow, ArmRow, NoArmRow, MoreArmRow}
use Rattle.pst_ast.specs.declared.activity.EndNode.{EndNode}
use Rattle.pst_ast.specs.declared.activity.NextEnd.{NextEnd}
use Rattle.pst_ast.specs.Limits.{Count, counted, counts_option}
use Rattle.pst_ast.specs.ConstraintLimits.{counts_constraint}
use Rattle.pst_ast.specs.ExpressionLimits.{counts_expr}
use Rattle.pst_ast.specs.SharedLimits.{counts_label, counts_names, counts_own_ranges, counts_type_name}

-- with = ";" | "with" set
abbrev pub counts_with : ℕ → WithTree → List Count
counts_with depth (WithNothing place) = counted depth 0 ∷ []
counts_with depth (WithSet with_place set) = counted depth 0 ∷ counts_constraint depth set

-- join = "join_branch" "(" NAME { "," NAME } ")" | "join_none" | "join_select" "(" expr ")"
abbrev pub counts_join : ℕ → JoinTree → List Count
counts_join depth (JoinBranch join_branch_place left_parenthesis_place names right_parenthesis_place) = counted depth 0 ∷ counted depth 0 ∷ (counts_names depth names ++ counted depth 0 ∷ [])
counts_join depth (JoinNothing place) = counted depth 0 ∷ []
counts_join depth (JoinSelect join_select_place left_parenthesis_place count right_parenthesis_place) = counted depth 0 ∷ counted depth 0 ∷ (counts_expr depth 0 count ++ counted depth 0 ∷ [])

-- end = NAME "." NAME
abbrev pub counts_end : ℕ → EndNode → List Count
counts_end depth t = counted depth 0 ∷ counted depth 0 ∷ counted depth 0 ∷ []

-- "," end
abbrev pub counts_next_end : ℕ → NextEnd → List Count
counts_next_end depth t = counted depth 0 ∷ counts_end depth t.end

-- end | "{" end { "," end } "}"
abbrev pub counts_other_ends : ℕ → OtherEndsTree → List Count
counts_other_ends depth (OtherEndsOne end) = counts_end depth end
counts_other_ends depth (OtherEndsSeveral left_brace_place first rest right_brace_place) = counted depth 0 ∷ (counts_end depth first ++ (flat_map (counts_next_end depth) rest ++ counted depth 0 ∷ []))

-- "bind" end ( end | "{" end { "," end } "}" ) ";"
abbrev pub counts_bind : ℕ → BindTree → List Count
counts_bind depth (MakeBind bind_place first others semicolon_place) = counted depth 0 ∷ (counts_end depth first ++ (counts_other_ends depth others ++ counted depth 0 ∷ []))

-- "[" expr "]"
abbrev pub counts_weight : ℕ → WeightTree → List Count
counts_weight depth (MakeWeight left_bracket_place expr right_bracket_place) = counted depth 0 ∷ (counts_expr depth 0 expr ++ counted depth 0 ∷ [])

-- What stands before the statement of a branch.
abbrev pub counts_guard : ℕ → GuardTree → List Count
counts_guard depth (GuardCondition left_parenthesis_place condition right_parenthesis_place weight colon_place) = counted depth 0 ∷ (counts_expr depth 0 condition ++ counted depth 0 ∷ (counts_option (counts_weight depth) weight ++ counted depth 0 ∷ []))
counts_guard depth (GuardWeight weight colon_place) = counts_weight depth weight ++ counted depth 0 ∷ []

-- What stands before the colon of an arm.
abbrev pub counts_arm_label : ℕ → ArmLabelTree → List Count
counts_arm_label depth (ArmLabelRanges left_bracket_place ranges right_bracket_place) = counted depth 0 ∷ (counts_own_ranges depth ranges ++ counted depth 0 ∷ [])
counts_arm_label depth (ArmLabelDefault place) = counted depth 0 ∷ []

abbrev mutual
  -- stmt = ";" | [ NAME ":" ] core
  pub counts_statement : ℕ → StatementTree → List Count
  counts_statement depth (StatementEmpty place) = counted (suc depth) 0 ∷ []
  counts_statement depth (StatementLabeled label core) = counts_label (suc depth) label ++ counts_core (suc depth) core
  counts_statement depth (StatementPlain core) = counts_core (suc depth) core

  -- core: a statement without its label.
  pub counts_core : ℕ → CoreTree → List Count
  counts_core depth (CoreDo do_place name with_part) = counted depth 0 ∷ (counts_type_name depth name ++ counts_with depth with_part)
  counts_core depth (CoreHandle name with_part) = counted depth 0 ∷ counts_with depth with_part
  counts_core depth (CoreSequence sequence_place left_brace_place statements right_brace_place) = counts_option (λ p. counted depth 0 ∷ []) sequence_place ++ counted depth 0 ∷ (counts_statement_row depth statements ++ counted depth 0 ∷ [])
  counts_core depth (CoreTogether word place join left_brace_place statements right_brace_place) = counted depth 0 ∷ (counts_option (counts_join depth) join ++ counted depth 0 ∷ (counts_statement_row depth statements ++ counted depth 0 ∷ []))
  counts_core depth (CoreSelect select_place left_brace_place first rest right_brace_place) = counted depth 0 ∷ counted depth 0 ∷ (counts_branch depth first ++ (counts_branch_row depth rest ++ counted depth 0 ∷ []))
  counts_core depth (CoreRepeat repeat_place left_parenthesis_place index count right_parenthesis_place statement) = counted depth 0 ∷ counted depth 0 ∷ (counts_option (counts_label depth) index ++ (counts_expr depth 0 count ++ counted depth 0 ∷ counts_statement depth statement))
  counts_core depth (CoreIf if_place left_parenthesis_place condition right_parenthesis_place then_part) = counted depth 0 ∷ counted depth 0 ∷ (counts_expr depth 0 condition ++ counted depth 0 ∷ counts_statement depth then_part)
  counts_core depth (CoreIfElse if_place left_parenthesis_place condition right_parenthesis_place then_part else_place otherwise) = counted depth 0 ∷ counted depth 0 ∷ (counts_expr depth 0 condition ++ counted depth 0 ∷ (counts_statement depth then_part ++ counted depth 0 ∷ counts_statement depth otherwise))
  counts_core depth (CoreMatch match_place left_parenthesis_place expr right_parenthesis_place left_brace_place first rest right_brace_place) = counted depth 0 ∷ counted depth 0 ∷ (counts_expr depth 0 expr ++ counted depth 0 ∷ counted depth 0 ∷ (counts_arm depth first ++ (counts_arm_row depth rest ++ counted depth 0 ∷ [])))
  counts_core depth (CoreBind bind) = counts_bind depth bind

  -- branch = [ ( "(" expr ")" [ "[" expr "]" ] | "[" expr "]" ) ":" ] stmt
  pub counts_branch : ℕ → BranchTree → List Count
  counts_branch depth (MakeBranch guard statement) = counts_option (counts_guard depth) guard ++ counts_statement depth statement

  -- arm = ( "[" ranges "]" | "default" ) ":" stmt
  pub counts_arm : ℕ → ArmTree → List Count
  counts_arm depth (MakeArm label colon_place statement) = counts_arm_label depth label ++ counted depth 0 ∷ counts_statement depth statement

  pub counts_statement_row : ℕ → StatementRow → List Count
  counts_statement_row depth NoStatementRow = []
  counts_statement_row depth (MoreStatementRow head tail) = counts_statement depth head ++ counts_statement_row depth tail

  pub counts_branch_row : ℕ → BranchRow → List Count
  counts_branch_row depth NoBranchRow = []
  counts_branch_row depth (MoreBranchRow head tail) = counts_branch depth head ++ counts_branch_row depth tail

  pub counts_arm_row : ℕ → ArmRow → List Count
  counts_arm_row depth NoArmRow = []
  counts_arm_row depth (MoreArmRow head tail) = counts_arm depth head ++ counts_arm_row depth tail

-- activity = "activity" "{" { stmt } "}"
abbrev pub counts_activity : ℕ → ActivityTree → List Count
counts_activity depth (MakeActivity activity_place left_brace_place statements right_brace_place) = counted depth 0 ∷ counted depth 0 ∷ (flat_map (counts_statement depth) statements ++ counted depth 0 ∷ [])
