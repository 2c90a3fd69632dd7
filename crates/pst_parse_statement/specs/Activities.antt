-- Activities, parsed from left to right: depth derivations that count are open at the tokens of a part itself.
use Rattle.std.specs.Prelude.{ℕ, zero, suc, if◌then◌else◌, Bool, true, false, ◌||◌, List, [], ◌∷◌}
use Rattle.pst_base.specs.declared.position.Place.{Place}
use Rattle.pst_token.specs.declared.kind.Kind.TheVariants as kind
use Rattle.pst_ast.specs.declared.leaf.Name.{Name}
use Rattle.pst_ast.specs.declared.activity.TogetherWord.{TogetherWord}
use Rattle.pst_ast.specs.declared.activity.TogetherWord.TheVariants as the_together_word
use Rattle.pst_ast.specs.Marks.{together_word_kind}
use Rattle.pst_ast.specs.Limits.{counted}
use Rattle.pst_ast.specs.ExpressionTree.{ExprTree}
use Rattle.pst_ast.specs.ConstraintTree.{ConstraintTree}
use Rattle.pst_ast.specs.ActivityTree.{ActivityTree, MakeActivity, StatementTree, StatementEmpty, StatementLabeled, StatementPlain, CoreTree, CoreHandle, CoreSequence, CoreTogether, CoreSelect, CoreRepeat, CoreIf, CoreIfElse, CoreMatch, BranchTree, MakeBranch, ArmTree, MakeArm, StatementRow, NoStatementRow, MoreStatementRow, BranchRow, NoBranchRow, MoreBranchRow, ArmRow, NoArmRow, MoreArmRow}
use Rattle.pst_ast.specs.ActivityProper.{statement_ends_open}
use Rattle.pst_reading.specs.Kinds.{is_name, next_is}
use Rattle.pst_reading.specs.Parser.{Parser, Done, Spent, Look, ◌>>=◌, mark_by, name_by, if_mark}
use Rattle.pst_reading.specs.Lists.{list_by}
use Rattle.pst_reading.specs.Options.{option_by, row_by}
use Rattle.pst_parse_expr.specs.Constraints.{Within, is_at, is_other, outermost_at, constraint_at}
use Rattle.pst_parse_part.specs.Times.{times_by}
use Rattle.pst_parse_step.specs.ActivityParts.{arm_label_by, begins_guard, begins_join, bound_by, do_by, guard_by, handle_by, join_by, with_by}

-- ---- blocks

abbrev pub statement_row : List StatementTree → StatementRow
statement_row [] = NoStatementRow
statement_row (statement ∷ statements) = MoreStatementRow statement (statement_row statements)

-- { stmt }, up to a brace that closes
abbrev pub statements_by : Within StatementTree → ℕ → Within StatementRow
statements_by statement turns depth = row_by statement_row (list_by (is_other kind.RightBrace) (statement depth) turns)

abbrev pub sequence_word_by : Within Place
sequence_word_by depth = mark_by kind.Sequence (counted depth 0)

-- ["sequence"] "{" { stmt } "}"
abbrev pub sequence_by : Within StatementTree → ℕ → Within CoreTree
sequence_by statement turns depth = do
  word ← option_by (is_at kind.Sequence) (sequence_word_by depth)
  left_brace ← mark_by kind.LeftBrace (counted depth 0)
  statements ← statements_by statement turns depth
  right_brace ← mark_by kind.RightBrace (counted depth 0)
  Done (CoreSequence word left_brace statements right_brace)

-- ("parallel"|"schedule") [ join ] "{" { stmt } "}"
abbrev pub together_by : Within ExprTree → Within StatementTree → ℕ → TogetherWord → Within CoreTree
together_by expr statement turns word depth = do
  place ← mark_by (together_word_kind word) (counted depth 0)
  join ← option_by begins_join (join_by expr turns depth)
  left_brace ← mark_by kind.LeftBrace (counted depth 0)
  statements ← statements_by statement turns depth
  right_brace ← mark_by kind.RightBrace (counted depth 0)
  Done (CoreTogether word place join left_brace statements right_brace)

-- ---- select

-- branch = [ ( "(" expr ")" [ "[" expr "]" ] | "[" expr "]" ) ":" ] stmt
abbrev pub branch_by : Within ExprTree → Within StatementTree → Within BranchTree
branch_by expr statement depth = do
  guard ← option_by begins_guard (guard_by expr depth)
  chosen ← statement depth
  Done (MakeBranch guard chosen)

abbrev pub branch_row : List BranchTree → BranchRow
branch_row [] = NoBranchRow
branch_row (branch ∷ branches) = MoreBranchRow branch (branch_row branches)

-- { branch }, up to a brace that closes
abbrev pub branches_by : Within ExprTree → Within StatementTree → ℕ → Within BranchRow
branches_by expr statement turns depth = row_by branch_row (list_by (is_other kind.RightBrace) (branch_by expr statement depth) turns)

-- "select" "{" branch { branch } "}"
abbrev pub select_by : Within ExprTree → Within StatementTree → ℕ → Within CoreTree
select_by expr statement turns depth = do
  select_place ← mark_by kind.Select (counted depth 0)
  left_brace ← mark_by kind.LeftBrace (counted depth 0)
  first ← branch_by expr statement depth
  rest ← branches_by expr statement turns depth
  right_brace ← mark_by kind.RightBrace (counted depth 0)
  Done (CoreSelect select_place left_brace first rest right_brace)

-- ---- repeat

-- "repeat" "(" [ NAME ":" ] expr ")" stmt
abbrev pub repeated_by : Within ExprTree → Within StatementTree → Within CoreTree
repeated_by expr statement depth = do
  repeat_place ← mark_by kind.Repeat (counted depth 0)
  times ← times_by expr depth
  repeated ← statement depth
  Done (CoreRepeat repeat_place times.0 times.1 times.2 times.3 repeated)

-- ---- if

abbrev pub else_by : Within StatementTree → ℕ → Place → Place → ExprTree → Place → StatementTree → Parser CoreTree
else_by statement depth if_place left_parenthesis condition right_parenthesis then_part = do
  else_place ← mark_by kind.Else (counted depth 0)
  otherwise ← statement depth
  Done (CoreIfElse if_place left_parenthesis condition right_parenthesis then_part else_place otherwise)

-- a statement that ends with an open `if` has taken every `else` behind it
abbrev pub maybe_else_by : Within StatementTree → ℕ → Place → Place → ExprTree → Place → StatementTree → Bool → Parser CoreTree
maybe_else_by statement depth if_place left condition right then_part true = Done (CoreIf if_place left condition right then_part)
maybe_else_by statement depth if_place left condition right then_part false = if_mark kind.Else (else_by statement depth if_place left condition right then_part) (Done (CoreIf if_place left condition right then_part))

-- "if" "(" expr ")" stmt [ "else" stmt ]
abbrev pub if_by : Within ExprTree → Within StatementTree → Within CoreTree
if_by expr statement depth = do
  if_place ← mark_by kind.If (counted depth 0)
  left_parenthesis ← mark_by kind.LeftParenthesis (counted depth 0)
  condition ← expr depth
  right_parenthesis ← mark_by kind.RightParenthesis (counted depth 0)
  then_part ← statement depth
  maybe_else_by statement depth if_place left_parenthesis condition right_parenthesis then_part (statement_ends_open then_part)

-- ---- match

-- arm = ( "[" ranges "]" | "default" ) ":" stmt
abbrev pub arm_by : Within ExprTree → Within StatementTree → ℕ → Within ArmTree
arm_by expr statement turns depth = do
  label ← arm_label_by turns depth
  colon ← mark_by kind.Colon (counted depth 0)
  chosen ← statement depth
  Done (MakeArm label colon chosen)

abbrev pub arm_row : List ArmTree → ArmRow
arm_row [] = NoArmRow
arm_row (arm ∷ arms) = MoreArmRow arm (arm_row arms)

-- { arm }, up to a brace that closes
abbrev pub arms_by : Within ExprTree → Within StatementTree → ℕ → Within ArmRow
arms_by expr statement turns depth = row_by arm_row (list_by (is_other kind.RightBrace) (arm_by expr statement turns depth) turns)

-- "match" "(" expr ")" "{" arm { arm } "}"
abbrev pub match_by : Within ExprTree → Within StatementTree → ℕ → Within CoreTree
match_by expr statement turns depth = do
  match_place ← mark_by kind.Match (counted depth 0)
  left_parenthesis ← mark_by kind.LeftParenthesis (counted depth 0)
  matched ← expr depth
  right_parenthesis ← mark_by kind.RightParenthesis (counted depth 0)
  left_brace ← mark_by kind.LeftBrace (counted depth 0)
  first ← arm_by expr statement turns depth
  rest ← arms_by expr statement turns depth
  right_brace ← mark_by kind.RightBrace (counted depth 0)
  Done (CoreMatch match_place left_parenthesis matched right_parenthesis left_brace first rest right_brace)

-- ---- core, stmt

abbrev pub core_by : Within ExprTree → Within ConstraintTree → Within StatementTree → ℕ → Within CoreTree
core_by expr set statement turns depth = if_mark kind.Do (do_by set depth) (
    if_mark kind.LeftBrace (sequence_by statement turns depth) (
    if_mark kind.Sequence (sequence_by statement turns depth) (
    if_mark kind.Parallel (together_by expr statement turns the_together_word.Parallel depth) (
    if_mark kind.Schedule (together_by expr statement turns the_together_word.Schedule depth) (
    if_mark kind.Select (select_by expr statement turns depth) (
    if_mark kind.Repeat (repeated_by expr statement depth) (
    if_mark kind.If (if_by expr statement depth) (
    if_mark kind.Match (match_by expr statement turns depth) (
    if_mark kind.Bind (bound_by turns depth)
    (handle_by set depth))))))))))

abbrev pub empty_by : Within StatementTree
empty_by depth = do
  place ← mark_by kind.Semicolon (counted depth 0)
  Done (StatementEmpty place)

abbrev pub labeled_by : Within ExprTree → Within ConstraintTree → Within StatementTree → ℕ → ℕ → Name → Parser StatementTree
labeled_by expr set statement turns depth name = do
  colon ← mark_by kind.Colon (counted depth 0)
  core ← core_by expr set statement turns depth
  Done (StatementLabeled (record { name = name; colon = colon }) core)

abbrev pub traversed_by : Within ConstraintTree → ℕ → Name → Parser StatementTree
traversed_by set depth name = do
  with_part ← with_by set depth
  Done (StatementPlain (CoreHandle name with_part))

-- a name is a label where a colon comes next, and else a handle
abbrev pub named_by : Within ExprTree → Within ConstraintTree → Within StatementTree → ℕ → Within StatementTree
named_by expr set statement turns depth = do
  name ← name_by (counted depth 0)
  if_mark kind.Colon (labeled_by expr set statement turns depth name) (traversed_by set depth name)

abbrev pub plain_by : Within ExprTree → Within ConstraintTree → Within StatementTree → ℕ → Within StatementTree
plain_by expr set statement turns depth = do
  core ← core_by expr set statement turns depth
  Done (StatementPlain core)

-- stmt = ";" | [ NAME ":" ] core
abbrev pub statement_by : Within ExprTree → Within ConstraintTree → Within StatementTree → ℕ → Within StatementTree
statement_by expr set statement turns depth = if_mark kind.Semicolon (empty_by depth) (
    Look (λ next. if next_is is_name next then named_by expr set statement turns depth else plain_by expr set statement turns depth))

-- each statement is a derivation that counts; statements within one another, and turns of each loop, are fewer than size
unfoldable pub statement_at : ℕ → Within StatementTree
statement_at zero depth = Spent
statement_at (suc size) depth = statement_by (outermost_at (suc size)) (constraint_at (suc size)) (statement_at size) size (suc depth)

-- activity = "activity" "{" { stmt } "}"
abbrev pub activity_by : Within StatementTree → ℕ → Within ActivityTree
activity_by statement turns depth = do
  activity_place ← mark_by kind.Activity (counted depth 0)
  left_brace ← mark_by kind.LeftBrace (counted depth 0)
  statements ← list_by (is_other kind.RightBrace) (statement depth) turns
  right_brace ← mark_by kind.RightBrace (counted depth 0)
  Done (MakeActivity activity_place left_brace statements right_brace)

abbrev pub activity_at : ℕ → Within ActivityTree
activity_at size depth = activity_by (statement_at size) size depth
