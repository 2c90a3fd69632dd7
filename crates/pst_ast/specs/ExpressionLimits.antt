-- What counts towards the limits at each token of an expression: depth derivations that count are open round it, and before operators of its outermost expression stand in front of it.
use Rattle.std.specs.Prelude.{ℕ, suc, ◌+◌, List, [], ◌∷◌, ◌++◌}
use Rattle.pst_ast.specs.ExpressionTree.{ExprTree, ExprUnary, ExprBinary, ExprIn, UnaryTree, UnaryPrefix, UnaryPrimary, PrimaryTree, PrimaryNumber, PrimaryTrue, PrimaryFalse, PrimaryPath, PrimaryGroup, PathTree, PathDotted, PathItem, PathLongItem, PartTree, MakePart, NextPartTree, MakeNextPart, IndexTree, MakeIndex, RangesTree, MakeRanges, NextRangeTree, MakeNextRange, RangeTree, RangeSingle, RangeBetween, NextPartRow, NoNextPartRow, MoreNextPartRow, MaybeIndex, NoIndex, SomeIndex, NextRangeRow, NoNextRangeRow, MoreNextRangeRow}
use Rattle.pst_ast.specs.ExpressionOperators.{operators_expr, operators_part, operators_range, operators_ranges}
use Rattle.pst_ast.specs.Limits.{Count, counted}

abbrev mutual
  -- expr: operators between parts, by level.
  pub counts_expr : ℕ → ℕ → ExprTree → List Count
  counts_expr depth before (ExprUnary unary) = counts_unary depth before unary
  counts_expr depth before (ExprBinary left operator place right) = counts_expr depth before left ++ counted depth (suc (before + operators_expr left)) ∷ counts_expr depth (suc (before + operators_expr left)) right
  counts_expr depth before (ExprIn left in_place left_bracket_place ranges right_bracket_place) = counts_expr depth before left ++ counted depth (suc (before + operators_expr left)) ∷ counted depth (suc (before + operators_expr left)) ∷ (counts_ranges depth (suc (before + operators_expr left)) ranges ++ counted depth (suc (before + operators_expr left) + operators_ranges ranges) ∷ [])

  -- unary = ("-" | "!" | "~") unary | primary
  pub counts_unary : ℕ → ℕ → UnaryTree → List Count
  counts_unary depth before (UnaryPrefix operator place operand) = counted (suc depth) (suc before) ∷ counts_unary (suc depth) (suc before) operand
  counts_unary depth before (UnaryPrimary primary) = counts_primary depth before primary

  -- primary = NUMBER | "true" | "false" | path | "(" expr ")"
  pub counts_primary : ℕ → ℕ → PrimaryTree → List Count
  counts_primary depth before (PrimaryNumber number) = counted depth before ∷ []
  counts_primary depth before (PrimaryTrue place) = counted depth before ∷ []
  counts_primary depth before (PrimaryFalse place) = counted depth before ∷ []
  counts_primary depth before (PrimaryPath path) = counts_path depth before path
  counts_primary depth before (PrimaryGroup left_parenthesis_place expr right_parenthesis_place) = counted (suc depth) before ∷ (counts_expr (suc depth) before expr ++ counted (suc depth) (before + operators_expr expr) ∷ [])

  -- path = NAME [ index ] { "." NAME [ index ] } | NAME "::" NAME [ "::" NAME ]
  pub counts_path : ℕ → ℕ → PathTree → List Count
  counts_path depth before (PathDotted first rest) = counts_part depth before first ++ counts_next_part_row depth (before + operators_part first) rest
  counts_path depth before (PathItem first colons_place second) = counted depth before ∷ counted depth before ∷ counted depth before ∷ []
  counts_path depth before (PathLongItem first colons_place second more_colons_place third) = counted depth before ∷ counted depth before ∷ counted depth before ∷ counted depth before ∷ counted depth before ∷ []

  -- NAME [ index ]
  pub counts_part : ℕ → ℕ → PartTree → List Count
  counts_part depth before (MakePart name index) = counted depth before ∷ counts_maybe_index depth before index

  -- "." NAME [ index ]
  pub counts_next_part : ℕ → ℕ → NextPartTree → List Count
  counts_next_part depth before (MakeNextPart dot_place part) = counted depth before ∷ counts_part depth before part

  -- index = "[" expr "]"
  pub counts_index : ℕ → ℕ → IndexTree → List Count
  counts_index depth before (MakeIndex left_bracket_place expr right_bracket_place) = counted (suc depth) before ∷ (counts_expr (suc depth) before expr ++ counted (suc depth) (before + operators_expr expr) ∷ [])

  -- ranges = range { "," range }, behind an operator `in`
  pub counts_ranges : ℕ → ℕ → RangesTree → List Count
  counts_ranges depth before (MakeRanges first rest) = counts_range depth before first ++ counts_next_range_row depth (before + operators_range first) rest

  -- "," range
  pub counts_next_range : ℕ → ℕ → NextRangeTree → List Count
  counts_next_range depth before (MakeNextRange comma_place range) = counted depth before ∷ counts_range depth before range

  -- range = expr [ ".." expr ]
  pub counts_range : ℕ → ℕ → RangeTree → List Count
  counts_range depth before (RangeSingle expr) = counts_expr depth before expr
  counts_range depth before (RangeBetween low dots_place high) = counts_expr depth before low ++ counted depth (before + operators_expr low) ∷ counts_expr depth (before + operators_expr low) high

  pub counts_next_part_row : ℕ → ℕ → NextPartRow → List Count
  counts_next_part_row depth before NoNextPartRow = []
  counts_next_part_row depth before (MoreNextPartRow (MakeNextPart dot_place part) tail) = counted depth before ∷ (counts_part depth before part ++ counts_next_part_row depth (before + operators_part part) tail)

  pub counts_maybe_index : ℕ → ℕ → MaybeIndex → List Count
  counts_maybe_index depth before NoIndex = []
  counts_maybe_index depth before (SomeIndex part) = counts_index depth before part

  pub counts_next_range_row : ℕ → ℕ → NextRangeRow → List Count
  counts_next_range_row depth before NoNextRangeRow = []
  counts_next_range_row depth before (MoreNextRangeRow (MakeNextRange comma_place range) tail) = counted depth before ∷ (counts_range depth before range ++ counts_next_range_row depth (before + operators_range range) tail)
