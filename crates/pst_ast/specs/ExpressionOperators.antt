-- How many operators an expression has: those between parts, `in`, and those before a part, also in its brackets, indices and ranges.
use Rattle.std.specs.Prelude.{ℕ, suc, ◌+◌}
use Rattle.pst_ast.specs.ExpressionTree.{ExprTree, ExprUnary, ExprBinary, ExprIn, UnaryTree, UnaryPrefix, UnaryPrimary, PrimaryTree, PrimaryNumber, PrimaryTrue, PrimaryFalse, PrimaryPath, PrimaryGroup, PathTree, PathDotted, PathItem, PathLongItem, PartTree, MakePart, NextPartTree, MakeNextPart, IndexTree, MakeIndex, RangesTree, MakeRanges, NextRangeTree, MakeNextRange, RangeTree, RangeSingle, RangeBetween, NextPartRow, NoNextPartRow, MoreNextPartRow, MaybeIndex, NoIndex, SomeIndex, NextRangeRow, NoNextRangeRow, MoreNextRangeRow}

abbrev mutual
  -- expr: operators between parts, by level.
  pub operators_expr : ExprTree → ℕ
  operators_expr (ExprUnary unary) = operators_unary unary
  operators_expr (ExprBinary left operator place right) = suc (operators_expr left + operators_expr right)
  operators_expr (ExprIn left in_place left_bracket_place ranges right_bracket_place) = suc (operators_expr left + operators_ranges ranges)

  -- unary = ("-" | "!" | "~") unary | primary
  pub operators_unary : UnaryTree → ℕ
  operators_unary (UnaryPrefix operator place operand) = suc (operators_unary operand)
  operators_unary (UnaryPrimary primary) = operators_primary primary

  -- primary = NUMBER | "true" | "false" | path | "(" expr ")"
  pub operators_primary : PrimaryTree → ℕ
  operators_primary (PrimaryNumber number) = 0
  operators_primary (PrimaryTrue place) = 0
  operators_primary (PrimaryFalse place) = 0
  operators_primary (PrimaryPath path) = operators_path path
  operators_primary (PrimaryGroup left_parenthesis_place expr right_parenthesis_place) = operators_expr expr

  -- path = NAME [ index ] { "." NAME [ index ] } | NAME "::" NAME [ "::" NAME ]
  pub operators_path : PathTree → ℕ
  operators_path (PathDotted first rest) = operators_part first + operators_next_part_row rest
  operators_path (PathItem first colons_place second) = 0
  operators_path (PathLongItem first colons_place second more_colons_place third) = 0

  -- NAME [ index ]
  pub operators_part : PartTree → ℕ
  operators_part (MakePart name index) = operators_maybe_index index

  -- "." NAME [ index ]
  pub operators_next_part : NextPartTree → ℕ
  operators_next_part (MakeNextPart dot_place part) = operators_part part

  -- index = "[" expr "]"
  pub operators_index : IndexTree → ℕ
  operators_index (MakeIndex left_bracket_place expr right_bracket_place) = operators_expr expr

  -- ranges = range { "," range }
  pub operators_ranges : RangesTree → ℕ
  operators_ranges (MakeRanges first rest) = operators_range first + operators_next_range_row rest

  -- "," range
  pub operators_next_range : NextRangeTree → ℕ
  operators_next_range (MakeNextRange comma_place range) = operators_range range

  -- range = expr [ ".." expr ]
  pub operators_range : RangeTree → ℕ
  operators_range (RangeSingle expr) = operators_expr expr
  operators_range (RangeBetween low dots_place high) = operators_expr low + operators_expr high

  pub operators_next_part_row : NextPartRow → ℕ
  operators_next_part_row NoNextPartRow = 0
  operators_next_part_row (MoreNextPartRow head tail) = operators_next_part head + operators_next_part_row tail

  pub operators_maybe_index : MaybeIndex → ℕ
  operators_maybe_index NoIndex = 0
  operators_maybe_index (SomeIndex part) = operators_index part

  pub operators_next_range_row : NextRangeRow → ℕ
  operators_next_range_row NoNextRangeRow = 0
  operators_next_range_row (MoreNextRangeRow head tail) = operators_next_range head + operators_next_range_row tail
