-- Rows of activities are their lists, and parts that have no rule of their own.
use Rattle.std.proofs.Common.{◌≡◌, ℕ, ◌+◌, List, [], ◌∷◌, ◌++◌, refl, ap}
use Rattle.std.specs.List.{flat_map, AllByRecursion}
use Rattle.pst_base.specs.declared.position.Place.{Place}
use Rattle.pst_token.specs.declared.kind.Kind.{Kind}
use Rattle.pst_token.specs.declared.token.Token.{Token}
use Rattle.pst_ast.specs.Marks.{mark}
use Rattle.pst_ast.specs.Limits.{Count, counted}
use Rattle.pst_ast.specs.ActivityTree.{StatementTree, BranchTree, ArmTree, StatementRow, NoStatementRow, MoreStatementRow, BranchRow, NoBranchRow, MoreBranchRow, ArmRow, NoArmRow, MoreArmRow}
use Rattle.pst_ast.specs.ActivitySpelling.{spell_statement, spell_branch, spell_arm, spell_statement_row, spell_branch_row, spell_arm_row}
use Rattle.pst_ast.specs.ActivityProper.{IsProperStatement, IsProperBranch, IsProperArm, AreProperStatement, AreProperBranch, AreProperArm}
use Rattle.pst_ast.specs.ActivityLimits.{counts_statement, counts_branch, counts_arm, counts_statement_row, counts_branch_row, counts_arm_row}
use Rattle.pst_parse_statement.specs.Activities.{statement_row, branch_row, arm_row}

-- a word by its place
abbrev pub spell_word : Kind → Place → List Token
spell_word k p = mark k p ∷ []

abbrev pub counts_word : ℕ → Place → List Count
counts_word d p = counted d 0 ∷ []

-- ---- rows: statement

pub statements_spelled : (xs : List StatementTree) → spell_statement_row (statement_row xs) ≡ flat_map spell_statement xs
statements_spelled [] = refl
statements_spelled (x ∷ xs) = ap (λ (u : List Token). spell_statement x ++ u) (statements_spelled xs)

pub statements_counted : (d : ℕ) (xs : List StatementTree) → counts_statement_row d (statement_row xs) ≡ flat_map (counts_statement d) xs
statements_counted d [] = refl
statements_counted d (x ∷ xs) = ap (λ (u : List Count). counts_statement d x ++ u) (statements_counted d xs)

pub statements_proper : (xs : List StatementTree) → AllByRecursion IsProperStatement xs → AreProperStatement (statement_row xs)
statements_proper [] h = tt
statements_proper (x ∷ xs) h = (h.0, statements_proper xs h.1)

pub list_of_statements : StatementRow → List StatementTree
list_of_statements NoStatementRow = []
list_of_statements (MoreStatementRow x xs) = x ∷ list_of_statements xs

pub statements_are : (w : StatementRow) → statement_row (list_of_statements w) ≡ w
unfolding list_of_statements
statements_are NoStatementRow = refl
statements_are (MoreStatementRow x xs) = ap (MoreStatementRow x) (statements_are xs)

pub all_statements : (w : StatementRow) → AreProperStatement w → AllByRecursion IsProperStatement (list_of_statements w)
unfolding list_of_statements
all_statements NoStatementRow h = tt
all_statements (MoreStatementRow x xs) h = (h.0, all_statements xs h.1)

-- ---- rows: branch

pub branches_spelled : (xs : List BranchTree) → spell_branch_row (branch_row xs) ≡ flat_map spell_branch xs
branches_spelled [] = refl
branches_spelled (x ∷ xs) = ap (λ (u : List Token). spell_branch x ++ u) (branches_spelled xs)

pub branches_counted : (d : ℕ) (xs : List BranchTree) → counts_branch_row d (branch_row xs) ≡ flat_map (counts_branch d) xs
branches_counted d [] = refl
branches_counted d (x ∷ xs) = ap (λ (u : List Count). counts_branch d x ++ u) (branches_counted d xs)

pub branches_proper : (xs : List BranchTree) → AllByRecursion IsProperBranch xs → AreProperBranch (branch_row xs)
branches_proper [] h = tt
branches_proper (x ∷ xs) h = (h.0, branches_proper xs h.1)

pub list_of_branches : BranchRow → List BranchTree
list_of_branches NoBranchRow = []
list_of_branches (MoreBranchRow x xs) = x ∷ list_of_branches xs

pub branches_are : (w : BranchRow) → branch_row (list_of_branches w) ≡ w
unfolding list_of_branches
branches_are NoBranchRow = refl
branches_are (MoreBranchRow x xs) = ap (MoreBranchRow x) (branches_are xs)

pub all_branches : (w : BranchRow) → AreProperBranch w → AllByRecursion IsProperBranch (list_of_branches w)
unfolding list_of_branches
all_branches NoBranchRow h = tt
all_branches (MoreBranchRow x xs) h = (h.0, all_branches xs h.1)

-- ---- rows: arm

pub arms_spelled : (xs : List ArmTree) → spell_arm_row (arm_row xs) ≡ flat_map spell_arm xs
arms_spelled [] = refl
arms_spelled (x ∷ xs) = ap (λ (u : List Token). spell_arm x ++ u) (arms_spelled xs)

pub arms_counted : (d : ℕ) (xs : List ArmTree) → counts_arm_row d (arm_row xs) ≡ flat_map (counts_arm d) xs
arms_counted d [] = refl
arms_counted d (x ∷ xs) = ap (λ (u : List Count). counts_arm d x ++ u) (arms_counted d xs)

pub arms_proper : (xs : List ArmTree) → AllByRecursion IsProperArm xs → AreProperArm (arm_row xs)
arms_proper [] h = tt
arms_proper (x ∷ xs) h = (h.0, arms_proper xs h.1)

pub list_of_arms : ArmRow → List ArmTree
list_of_arms NoArmRow = []
list_of_arms (MoreArmRow x xs) = x ∷ list_of_arms xs

pub arms_are : (w : ArmRow) → arm_row (list_of_arms w) ≡ w
unfolding list_of_arms
arms_are NoArmRow = refl
arms_are (MoreArmRow x xs) = ap (MoreArmRow x) (arms_are xs)

pub all_arms : (w : ArmRow) → AreProperArm w → AllByRecursion IsProperArm (list_of_arms w)
unfolding list_of_arms
all_arms NoArmRow h = tt
all_arms (MoreArmRow x xs) h = (h.0, all_arms xs h.1)
