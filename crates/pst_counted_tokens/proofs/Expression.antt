-- Each token of a tree counts once: the trees of expression.
use Rattle.std.proofs.Common.{◌≡◌, ℕ, suc, ◌+◌, length, ap, refl}
use Rattle.pst_ast.specs.ExpressionTree.{ExprTree, ExprUnary, ExprBinary, ExprIn, UnaryTree, UnaryPrefix, UnaryPrimary, PrimaryTree, PrimaryNumber, PrimaryTrue, PrimaryFalse, PrimaryPath, PrimaryGroup, PathTree, PathDotted, PathItem, PathLongItem, PartTree, MakePart, NextPartTree, MakeNextPart, IndexTree, MakeIndex, RangesTree, MakeRanges, NextRangeTree, MakeNextRange, RangeTree, RangeSingle, RangeBetween, NextPartRow, NoNextPartRow, MoreNextPartRow, MaybeIndex, NoIndex, SomeIndex, NextRangeRow, NoNextRangeRow, MoreNextRangeRow}
use Rattle.pst_ast.specs.ExpressionOperators.{operators_expr, operators_part, operators_range, operators_ranges}
use Rattle.pst_ast.specs.ExpressionLimits.{counts_expr, counts_unary, counts_primary, counts_path, counts_part, counts_next_part, counts_index, counts_ranges, counts_next_range, counts_range, counts_next_part_row, counts_maybe_index, counts_next_range_row}
use Rattle.pst_ast.specs.ExpressionSpelling.{spell_expr, spell_unary, spell_primary, spell_path, spell_part, spell_next_part, spell_index, spell_ranges, spell_next_range, spell_range, spell_next_part_row, spell_maybe_index, spell_next_range_row}
use Rattle.pst_counted_tokens.proofs.Rows.{behind}

mutual
  pub each_expr : (depth : ℕ) (before : ℕ) (t : ExprTree) → length (counts_expr depth before t) ≡ length (spell_expr t)
  each_expr depth before (ExprUnary unary) = each_unary depth before unary
  each_expr depth before (ExprBinary left operator place right) = behind _ _ _ _ (each_expr depth before left) (ap suc (each_expr depth (suc (before + operators_expr left)) right))
  each_expr depth before (ExprIn left in_place left_bracket_place ranges right_bracket_place) = behind _ _ _ _ (each_expr depth before left) (ap suc (ap suc (behind _ _ _ _ (each_ranges depth (suc (before + operators_expr left)) ranges) refl)))

  pub each_unary : (depth : ℕ) (before : ℕ) (t : UnaryTree) → length (counts_unary depth before t) ≡ length (spell_unary t)
  each_unary depth before (UnaryPrefix operator place operand) = ap suc (each_unary (suc depth) (suc before) operand)
  each_unary depth before (UnaryPrimary primary) = each_primary depth before primary

  pub each_primary : (depth : ℕ) (before : ℕ) (t : PrimaryTree) → length (counts_primary depth before t) ≡ length (spell_primary t)
  each_primary depth before (PrimaryNumber number) = refl
  each_primary depth before (PrimaryTrue place) = refl
  each_primary depth before (PrimaryFalse place) = refl
  each_primary depth before (PrimaryPath path) = each_path depth before path
  each_primary depth before (PrimaryGroup left_parenthesis_place expr right_parenthesis_place) = ap suc (behind _ _ _ _ (each_expr (suc depth) before expr) refl)

  pub each_path : (depth : ℕ) (before : ℕ) (t : PathTree) → length (counts_path depth before t) ≡ length (spell_path t)
  each_path depth before (PathDotted first rest) = behind _ _ _ _ (each_part depth before first) (each_next_part_row depth (before + operators_part first) rest)
  each_path depth before (PathItem first colons_place second) = refl
  each_path depth before (PathLongItem first colons_place second more_colons_place third) = refl

  pub each_part : (depth : ℕ) (before : ℕ) (t : PartTree) → length (counts_part depth before t) ≡ length (spell_part t)
  each_part depth before (MakePart name index) = ap suc (each_maybe_index depth before index)

  pub each_next_part : (depth : ℕ) (before : ℕ) (t : NextPartTree) → length (counts_next_part depth before t) ≡ length (spell_next_part t)
  each_next_part depth before (MakeNextPart dot_place part) = ap suc (each_part depth before part)

  pub each_index : (depth : ℕ) (before : ℕ) (t : IndexTree) → length (counts_index depth before t) ≡ length (spell_index t)
  each_index depth before (MakeIndex left_bracket_place expr right_bracket_place) = ap suc (behind _ _ _ _ (each_expr (suc depth) before expr) refl)

  pub each_ranges : (depth : ℕ) (before : ℕ) (t : RangesTree) → length (counts_ranges depth before t) ≡ length (spell_ranges t)
  each_ranges depth before (MakeRanges first rest) = behind _ _ _ _ (each_range depth before first) (each_next_range_row depth (before + operators_range first) rest)

  pub each_next_range : (depth : ℕ) (before : ℕ) (t : NextRangeTree) → length (counts_next_range depth before t) ≡ length (spell_next_range t)
  each_next_range depth before (MakeNextRange comma_place range) = ap suc (each_range depth before range)

  pub each_range : (depth : ℕ) (before : ℕ) (t : RangeTree) → length (counts_range depth before t) ≡ length (spell_range t)
  each_range depth before (RangeSingle expr) = each_expr depth before expr
  each_range depth before (RangeBetween low dots_place high) = behind _ _ _ _ (each_expr depth before low) (ap suc (each_expr depth (before + operators_expr low) high))

  pub each_next_part_row : (depth : ℕ) (before : ℕ) (t : NextPartRow) → length (counts_next_part_row depth before t) ≡ length (spell_next_part_row t)
  each_next_part_row depth before NoNextPartRow = refl
  each_next_part_row depth before (MoreNextPartRow (MakeNextPart dot_place part) tail) = ap suc (behind _ _ _ _ (each_part depth before part) (each_next_part_row depth (before + operators_part part) tail))

  pub each_maybe_index : (depth : ℕ) (before : ℕ) (t : MaybeIndex) → length (counts_maybe_index depth before t) ≡ length (spell_maybe_index t)
  each_maybe_index depth before NoIndex = refl
  each_maybe_index depth before (SomeIndex part) = each_index depth before part

  pub each_next_range_row : (depth : ℕ) (before : ℕ) (t : NextRangeRow) → length (counts_next_range_row depth before t) ≡ length (spell_next_range_row t)
  each_next_range_row depth before NoNextRangeRow = refl
  each_next_range_row depth before (MoreNextRangeRow (MakeNextRange comma_place range) tail) = ap suc (behind _ _ _ _ (each_range depth before range) (each_next_range_row depth (before + operators_range range) tail))
