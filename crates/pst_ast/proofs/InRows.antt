-- Lists of trees as the rows in a tree, spelled and proper alike.
use Rattle.std.proofs.Common.{refl, ap}
use Rattle.std.specs.Prelude.{List, [], Option, Some, None, ◌∷◌, ◌++◌, ◌≡◌}
use Rattle.std.specs.List.{flat_map, AllByRecursion}
use Rattle.pst_token.specs.declared.token.Token.{Token}
use Rattle.pst_ast.specs.Marks.{spell_option, OptionIs}
use Rattle.pst_ast.specs.ExpressionTree.{NextPartTree, IndexTree, NextRangeTree, NextPartRow, MaybeIndex, NextRangeRow, NoNextPartRow, MoreNextPartRow, NoIndex, SomeIndex, NoNextRangeRow, MoreNextRangeRow}
use Rattle.pst_ast.specs.ConstraintTree.{ConstraintItemTree, ConstraintItemRow, NoConstraintItemRow, MoreConstraintItemRow}
use Rattle.pst_ast.specs.ActivityTree.{StatementTree, BranchTree, ArmTree, StatementRow, BranchRow, ArmRow, NoStatementRow, MoreStatementRow, NoBranchRow, MoreBranchRow, NoArmRow, MoreArmRow}
use Rattle.pst_ast.specs.BodyTree.{BodyStatementTree, BodyStatementRow, NoBodyStatementRow, MoreBodyStatementRow}
use Rattle.pst_ast.specs.ExpressionSpelling.{spell_next_part, spell_index, spell_next_range, spell_next_part_row, spell_maybe_index, spell_next_range_row}
use Rattle.pst_ast.specs.ConstraintSpelling.{spell_constraint_item, spell_constraint_item_row}
use Rattle.pst_ast.specs.ActivitySpelling.{spell_statement, spell_branch, spell_arm, spell_statement_row, spell_branch_row, spell_arm_row}
use Rattle.pst_ast.specs.BodySpelling.{spell_body_statement, spell_body_statement_row}
use Rattle.pst_ast.specs.ExpressionProper.{IsProperNextPart, IsProperIndex, IsProperNextRange, AreProperNextPart, IsProperMaybeIndex, AreProperNextRange}
use Rattle.pst_ast.specs.ConstraintProper.{IsProperConstraintItem, AreProperConstraintItem}
use Rattle.pst_ast.specs.ActivityProper.{IsProperStatement, IsProperBranch, IsProperArm, AreProperStatement, AreProperBranch, AreProperArm}
use Rattle.pst_ast.specs.BodyProper.{IsProperBodyStatement, AreProperBodyStatement}

abbrev pub next_parts_row : List NextPartTree → NextPartRow
next_parts_row [] = NoNextPartRow
next_parts_row (x ∷ xs) = MoreNextPartRow x (next_parts_row xs)

pub next_parts_spelled : (xs : List NextPartTree) → spell_next_part_row (next_parts_row xs) ≡ flat_map spell_next_part xs
next_parts_spelled [] = refl
next_parts_spelled (x ∷ xs) = ap (λ (ts : List Token). spell_next_part x ++ ts) (next_parts_spelled xs)

pub next_parts_proper : (xs : List NextPartTree) → AllByRecursion IsProperNextPart xs → AreProperNextPart (next_parts_row xs)
next_parts_proper [] h = tt
next_parts_proper (x ∷ xs) h = (h.0, next_parts_proper xs h.1)

abbrev pub next_ranges_row : List NextRangeTree → NextRangeRow
next_ranges_row [] = NoNextRangeRow
next_ranges_row (x ∷ xs) = MoreNextRangeRow x (next_ranges_row xs)

pub next_ranges_spelled : (xs : List NextRangeTree) → spell_next_range_row (next_ranges_row xs) ≡ flat_map spell_next_range xs
next_ranges_spelled [] = refl
next_ranges_spelled (x ∷ xs) = ap (λ (ts : List Token). spell_next_range x ++ ts) (next_ranges_spelled xs)

pub next_ranges_proper : (xs : List NextRangeTree) → AllByRecursion IsProperNextRange xs → AreProperNextRange (next_ranges_row xs)
next_ranges_proper [] h = tt
next_ranges_proper (x ∷ xs) h = (h.0, next_ranges_proper xs h.1)

abbrev pub items_row : List ConstraintItemTree → ConstraintItemRow
items_row [] = NoConstraintItemRow
items_row (x ∷ xs) = MoreConstraintItemRow x (items_row xs)

pub items_spelled : (xs : List ConstraintItemTree) → spell_constraint_item_row (items_row xs) ≡ flat_map spell_constraint_item xs
items_spelled [] = refl
items_spelled (x ∷ xs) = ap (λ (ts : List Token). spell_constraint_item x ++ ts) (items_spelled xs)

pub items_proper : (xs : List ConstraintItemTree) → AllByRecursion IsProperConstraintItem xs → AreProperConstraintItem (items_row xs)
items_proper [] h = tt
items_proper (x ∷ xs) h = (h.0, items_proper xs h.1)

abbrev pub statements_row : List StatementTree → StatementRow
statements_row [] = NoStatementRow
statements_row (x ∷ xs) = MoreStatementRow x (statements_row xs)

pub statements_spelled : (xs : List StatementTree) → spell_statement_row (statements_row xs) ≡ flat_map spell_statement xs
statements_spelled [] = refl
statements_spelled (x ∷ xs) = ap (λ (ts : List Token). spell_statement x ++ ts) (statements_spelled xs)

pub statements_proper : (xs : List StatementTree) → AllByRecursion IsProperStatement xs → AreProperStatement (statements_row xs)
statements_proper [] h = tt
statements_proper (x ∷ xs) h = (h.0, statements_proper xs h.1)

abbrev pub branches_row : List BranchTree → BranchRow
branches_row [] = NoBranchRow
branches_row (x ∷ xs) = MoreBranchRow x (branches_row xs)

pub branches_spelled : (xs : List BranchTree) → spell_branch_row (branches_row xs) ≡ flat_map spell_branch xs
branches_spelled [] = refl
branches_spelled (x ∷ xs) = ap (λ (ts : List Token). spell_branch x ++ ts) (branches_spelled xs)

pub branches_proper : (xs : List BranchTree) → AllByRecursion IsProperBranch xs → AreProperBranch (branches_row xs)
branches_proper [] h = tt
branches_proper (x ∷ xs) h = (h.0, branches_proper xs h.1)

abbrev pub arms_row : List ArmTree → ArmRow
arms_row [] = NoArmRow
arms_row (x ∷ xs) = MoreArmRow x (arms_row xs)

pub arms_spelled : (xs : List ArmTree) → spell_arm_row (arms_row xs) ≡ flat_map spell_arm xs
arms_spelled [] = refl
arms_spelled (x ∷ xs) = ap (λ (ts : List Token). spell_arm x ++ ts) (arms_spelled xs)

pub arms_proper : (xs : List ArmTree) → AllByRecursion IsProperArm xs → AreProperArm (arms_row xs)
arms_proper [] h = tt
arms_proper (x ∷ xs) h = (h.0, arms_proper xs h.1)

abbrev pub body_statements_row : List BodyStatementTree → BodyStatementRow
body_statements_row [] = NoBodyStatementRow
body_statements_row (x ∷ xs) = MoreBodyStatementRow x (body_statements_row xs)

pub body_statements_spelled : (xs : List BodyStatementTree) → spell_body_statement_row (body_statements_row xs) ≡ flat_map spell_body_statement xs
body_statements_spelled [] = refl
body_statements_spelled (x ∷ xs) = ap (λ (ts : List Token). spell_body_statement x ++ ts) (body_statements_spelled xs)

pub body_statements_proper : (xs : List BodyStatementTree) → AllByRecursion IsProperBodyStatement xs → AreProperBodyStatement (body_statements_row xs)
body_statements_proper [] h = tt
body_statements_proper (x ∷ xs) h = (h.0, body_statements_proper xs h.1)

abbrev pub maybe_index : Option IndexTree → MaybeIndex
maybe_index None = NoIndex
maybe_index (Some index) = SomeIndex index

pub maybe_index_spelled : (index : Option IndexTree) → spell_maybe_index (maybe_index index) ≡ spell_option spell_index index
maybe_index_spelled None = refl
maybe_index_spelled (Some index) = refl

pub maybe_index_proper : (index : Option IndexTree) → OptionIs IsProperIndex index → IsProperMaybeIndex (maybe_index index)
maybe_index_proper None h = tt
maybe_index_proper (Some index) h = h
