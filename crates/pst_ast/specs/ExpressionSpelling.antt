-- The tokens of the trees of expression.
use Rattle.std.specs.Prelude.{List, [], ◌∷◌, ◌++◌}
use Rattle.pst_token.specs.declared.token.Token.{Token}
use Rattle.pst_token.specs.declared.kind.Kind.TheVariants as kind
use Rattle.pst_ast.specs.Marks.{mark, name_token, number_token, operator_kind, prefix_operator_kind}
use Rattle.pst_ast.specs.ExpressionTree.{ExprTree, ExprUnary, ExprBinary, ExprIn, UnaryTree, UnaryPrefix, UnaryPrimary, PrimaryTree, PrimaryNumber, PrimaryTrue, PrimaryFalse, PrimaryPath, PrimaryGroup, PathTree, PathDotted, PathItem, PathLongItem, PartTree, MakePart, NextPartTree, MakeNextPart, IndexTree, MakeIndex, RangesTree, MakeRanges, NextRangeTree, MakeNextRange, RangeTree, RangeSingle, RangeBetween, NextPartRow, NoNextPartRow, MoreNextPartRow, MaybeIndex, NoIndex, SomeIndex, NextRangeRow, NoNextRangeRow, MoreNextRangeRow}

abbrev mutual
  -- expr: operators between parts, by level.
  pub spell_expr : ExprTree → List Token
  spell_expr (ExprUnary unary) = spell_unary unary
  spell_expr (ExprBinary left operator place right) = spell_expr left ++ mark (operator_kind operator) place ∷ spell_expr right
  spell_expr (ExprIn left in_place left_bracket_place ranges right_bracket_place) = spell_expr left ++ mark kind.In in_place ∷ mark kind.LeftBracket left_bracket_place ∷ (spell_ranges ranges ++ mark kind.RightBracket right_bracket_place ∷ [])

  -- unary = ("-" | "!" | "~") unary | primary
  pub spell_unary : UnaryTree → List Token
  spell_unary (UnaryPrefix operator place operand) = mark (prefix_operator_kind operator) place ∷ spell_unary operand
  spell_unary (UnaryPrimary primary) = spell_primary primary

  -- primary = NUMBER | "true" | "false" | path | "(" expr ")"
  pub spell_primary : PrimaryTree → List Token
  spell_primary (PrimaryNumber number) = number_token number ∷ []
  spell_primary (PrimaryTrue place) = mark kind.True place ∷ []
  spell_primary (PrimaryFalse place) = mark kind.False place ∷ []
  spell_primary (PrimaryPath path) = spell_path path
  spell_primary (PrimaryGroup left_parenthesis_place expr right_parenthesis_place) = mark kind.LeftParenthesis left_parenthesis_place ∷ (spell_expr expr ++ mark kind.RightParenthesis right_parenthesis_place ∷ [])

  -- path = NAME [ index ] { "." NAME [ index ] } | NAME "::" NAME [ "::" NAME ]
  pub spell_path : PathTree → List Token
  spell_path (PathDotted first rest) = spell_part first ++ spell_next_part_row rest
  spell_path (PathItem first colons_place second) = name_token first ∷ mark kind.ColonColon colons_place ∷ name_token second ∷ []
  spell_path (PathLongItem first colons_place second more_colons_place third) = name_token first ∷ mark kind.ColonColon colons_place ∷ name_token second ∷ mark kind.ColonColon more_colons_place ∷ name_token third ∷ []

  -- NAME [ index ]
  pub spell_part : PartTree → List Token
  spell_part (MakePart name index) = name_token name ∷ spell_maybe_index index

  -- "." NAME [ index ]
  pub spell_next_part : NextPartTree → List Token
  spell_next_part (MakeNextPart dot_place part) = mark kind.Dot dot_place ∷ spell_part part

  -- index = "[" expr "]"
  pub spell_index : IndexTree → List Token
  spell_index (MakeIndex left_bracket_place expr right_bracket_place) = mark kind.LeftBracket left_bracket_place ∷ (spell_expr expr ++ mark kind.RightBracket right_bracket_place ∷ [])

  -- ranges = range { "," range }
  pub spell_ranges : RangesTree → List Token
  spell_ranges (MakeRanges first rest) = spell_range first ++ spell_next_range_row rest

  -- "," range
  pub spell_next_range : NextRangeTree → List Token
  spell_next_range (MakeNextRange comma_place range) = mark kind.Comma comma_place ∷ spell_range range

  -- range = expr [ ".." expr ]
  pub spell_range : RangeTree → List Token
  spell_range (RangeSingle expr) = spell_expr expr
  spell_range (RangeBetween low dots_place high) = spell_expr low ++ mark kind.DotDot dots_place ∷ spell_expr high

  pub spell_next_part_row : NextPartRow → List Token
  spell_next_part_row NoNextPartRow = []
  spell_next_part_row (MoreNextPartRow head tail) = spell_next_part head ++ spell_next_part_row tail

  pub spell_maybe_index : MaybeIndex → List Token
  spell_maybe_index NoIndex = []
  spell_maybe_index (SomeIndex part) = spell_index part

  pub spell_next_range_row : NextRangeRow → List Token
  spell_next_range_row NoNextRangeRow = []
  spell_next_range_row (MoreNextRangeRow head tail) = spell_next_range head ++ spell_next_range_row tail
