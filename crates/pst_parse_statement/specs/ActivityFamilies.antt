-- The parsers of activities for each size: each function of the program has one of these.
use Rattle.std.specs.Prelude.{ℕ, suc, List, map, Option}
use Rattle.std.specs.Global.{Vec}
use Rattle.pst_base.specs.declared.position.Place.{Place}
use Rattle.pst_token.specs.declared.kind.Kind.TheVariants as kind
use Rattle.pst_ast.specs.declared.activity.StatementNode.{StatementNode}
use Rattle.pst_ast.specs.declared.activity.BranchNode.{BranchNode}
use Rattle.pst_ast.specs.declared.activity.ArmNode.{ArmNode}
use Rattle.pst_ast.specs.declared.activity.TogetherWord.{TogetherWord}
use Rattle.pst_ast.specs.ActivityTree.{ActivityTree, StatementTree, CoreTree, BranchTree, ArmTree, StatementRow, BranchRow, ArmRow}
use Rattle.pst_ast.specs.ActivityView.{view_statement, view_branch, view_arm}
use Rattle.pst_reading.specs.Gives.{Family}
use Rattle.pst_reading.specs.Lists.{listed}
use Rattle.pst_reading.specs.Options.{option_by, row_by}
use Rattle.pst_parse_expr.specs.Constraints.{is_at, is_other, outermost_at, constraint_at}
use Rattle.pst_parse_statement.specs.Activities.{statement_row, sequence_word_by, sequence_by, together_by, branch_by, branch_row, select_by, repeated_by, if_by, arm_by, arm_row, match_by, core_by, empty_by, named_by, plain_by, statement_by, statement_at, activity_at}

-- ---- one part

abbrev pub sequence_word_family : ℕ → Family Place
sequence_word_family depth size prefixes = sequence_word_by depth

abbrev pub nested_family : ℕ → Family StatementTree
nested_family depth size prefixes = statement_at size depth

abbrev pub sequence_family : ℕ → Family CoreTree
sequence_family depth size prefixes = sequence_by (statement_at size) size depth

abbrev pub branch_family : ℕ → Family BranchTree
branch_family depth size prefixes = branch_by (outermost_at (suc size)) (statement_at size) depth

abbrev pub select_family : ℕ → Family CoreTree
select_family depth size prefixes = select_by (outermost_at (suc size)) (statement_at size) size depth

abbrev pub repeated_family : ℕ → Family CoreTree
repeated_family depth size prefixes = repeated_by (outermost_at (suc size)) (statement_at size) depth

abbrev pub if_family : ℕ → Family CoreTree
if_family depth size prefixes = if_by (outermost_at (suc size)) (statement_at size) depth

abbrev pub arm_family : ℕ → Family ArmTree
arm_family depth size prefixes = arm_by (outermost_at (suc size)) (statement_at size) size depth

abbrev pub match_family : ℕ → Family CoreTree
match_family depth size prefixes = match_by (outermost_at (suc size)) (statement_at size) size depth

abbrev pub core_family : ℕ → Family CoreTree
core_family depth size prefixes = core_by (outermost_at (suc size)) (constraint_at (suc size)) (statement_at size) size depth

abbrev pub empty_family : ℕ → Family StatementTree
empty_family depth size prefixes = empty_by depth

abbrev pub named_family : ℕ → Family StatementTree
named_family depth size prefixes = named_by (outermost_at (suc size)) (constraint_at (suc size)) (statement_at size) size depth

abbrev pub plain_family : ℕ → Family StatementTree
plain_family depth size prefixes = plain_by (outermost_at (suc size)) (constraint_at (suc size)) (statement_at size) size depth

abbrev pub statement_family : ℕ → Family StatementTree
statement_family depth size prefixes = statement_by (outermost_at (suc size)) (constraint_at (suc size)) (statement_at size) size depth

abbrev pub together_family : TogetherWord → ℕ → Family CoreTree
together_family word depth size prefixes = together_by (outermost_at (suc size)) (statement_at size) size word depth

abbrev pub activity_family : ℕ → Family ActivityTree
activity_family depth size prefixes = activity_at size depth

-- ---- parts that may be left out

abbrev pub maybe_sequence_word_family : ℕ → Family (Option Place)
maybe_sequence_word_family depth size prefixes = option_by (is_at kind.Sequence) (sequence_word_family depth size prefixes)

-- ---- parts in a row

abbrev pub statements_family : ℕ → Family (List StatementTree)
statements_family depth = listed (is_other kind.RightBrace) (nested_family depth)

abbrev pub branches_family : ℕ → Family (List BranchTree)
branches_family depth = listed (is_other kind.RightBrace) (branch_family depth)

abbrev pub arms_family : ℕ → Family (List ArmTree)
arms_family depth = listed (is_other kind.RightBrace) (arm_family depth)

abbrev pub statement_row_family : ℕ → Family StatementRow
statement_row_family depth size prefixes = row_by statement_row (statements_family depth size prefixes)

abbrev pub branch_row_family : ℕ → Family BranchRow
branch_row_family depth size prefixes = row_by branch_row (branches_family depth size prefixes)

abbrev pub arm_row_family : ℕ → Family ArmRow
arm_row_family depth size prefixes = row_by arm_row (arms_family depth size prefixes)

-- ---- what the program has, without where it lies in memory

abbrev pub view_statements : Vec StatementNode → List StatementTree
view_statements v = map view_statement v.items

abbrev pub view_branches : Vec BranchNode → List BranchTree
view_branches v = map view_branch v.items

abbrev pub view_arms : Vec ArmNode → List ArmTree
view_arms v = map view_arm v.items
