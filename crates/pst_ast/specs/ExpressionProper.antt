-- Trees that group as their tokens are read: expression.
use Rattle.std.specs.Prelude.{ℕ, ◌≤◌, ◌<◌}
use Rattle.pst_ast.specs.ExpressionTree.{ExprTree, ExprUnary, ExprBinary, ExprIn, UnaryTree, UnaryPrefix, UnaryPrimary, PrimaryTree, PrimaryNumber, PrimaryTrue, PrimaryFalse, PrimaryPath, PrimaryGroup, PathTree, PathDotted, PathItem, PathLongItem, PartTree, MakePart, NextPartTree, MakeNextPart, IndexTree, MakeIndex, RangesTree, MakeRanges, NextRangeTree, MakeNextRange, RangeTree, RangeSingle, RangeBetween, NextPartRow, NoNextPartRow, MoreNextPartRow, MaybeIndex, NoIndex, SomeIndex, NextRangeRow, NoNextRangeRow, MoreNextRangeRow}
use Rattle.pst_ast.specs.declared.leaf.Operator.{Operator}
use Rattle.pst_ast.specs.declared.leaf.Operator.TheVariants as the_operator

-- how tightly an operator binds, from 0 for `||` to 9 for `*`
abbrev pub level_of : Operator → ℕ
level_of the_operator.Or = 0
level_of the_operator.And = 1
level_of the_operator.BitOr = 2
level_of the_operator.BitXor = 3
level_of the_operator.BitAnd = 4
level_of the_operator.Equal = 5
level_of the_operator.NotEqual = 5
level_of the_operator.Less = 6
level_of the_operator.LessEqual = 6
level_of the_operator.Greater = 6
level_of the_operator.GreaterEqual = 6
level_of the_operator.ShiftLeft = 7
level_of the_operator.ShiftRight = 7
level_of the_operator.Add = 8
level_of the_operator.Subtract = 8
level_of the_operator.Multiply = 9
level_of the_operator.Divide = 9
level_of the_operator.Remainder = 9

-- how tightly the outermost operator between parts binds; `in` binds as `<` does
abbrev pub level : ExprTree → ℕ
level (ExprUnary unary) = 10
level (ExprBinary left operator place right) = level_of operator
level (ExprIn left in_place left_bracket_place ranges right_bracket_place) = 6

abbrev mutual
  -- expr: operators between parts, by level.
  pub IsProperExpr : ExprTree → Type 0
  IsProperExpr (ExprUnary unary) = IsProperUnary unary
  IsProperExpr (ExprBinary left operator place right) = IsProperExpr left × IsProperExpr right × (level_of operator ≤ level left) × (level_of operator < level right)
  IsProperExpr (ExprIn left in_place left_bracket_place ranges right_bracket_place) = IsProperExpr left × IsProperRanges ranges × (6 ≤ level left)

  -- unary = ("-" | "!" | "~") unary | primary
  pub IsProperUnary : UnaryTree → Type 0
  IsProperUnary (UnaryPrefix operator place operand) = IsProperUnary operand
  IsProperUnary (UnaryPrimary primary) = IsProperPrimary primary

  -- primary = NUMBER | "true" | "false" | path | "(" expr ")"
  pub IsProperPrimary : PrimaryTree → Type 0
  IsProperPrimary (PrimaryNumber number) = Unit {0}
  IsProperPrimary (PrimaryTrue place) = Unit {0}
  IsProperPrimary (PrimaryFalse place) = Unit {0}
  IsProperPrimary (PrimaryPath path) = IsProperPath path
  IsProperPrimary (PrimaryGroup left_parenthesis_place expr right_parenthesis_place) = IsProperExpr expr

  -- path = NAME [ index ] { "." NAME [ index ] } | NAME "::" NAME [ "::" NAME ]
  pub IsProperPath : PathTree → Type 0
  IsProperPath (PathDotted first rest) = IsProperPart first × AreProperNextPart rest
  IsProperPath (PathItem first colons_place second) = Unit {0}
  IsProperPath (PathLongItem first colons_place second more_colons_place third) = Unit {0}

  -- NAME [ index ]
  pub IsProperPart : PartTree → Type 0
  IsProperPart (MakePart name index) = IsProperMaybeIndex index

  -- "." NAME [ index ]
  pub IsProperNextPart : NextPartTree → Type 0
  IsProperNextPart (MakeNextPart dot_place part) = IsProperPart part

  -- index = "[" expr "]"
  pub IsProperIndex : IndexTree → Type 0
  IsProperIndex (MakeIndex left_bracket_place expr right_bracket_place) = IsProperExpr expr

  -- ranges = range { "," range }
  pub IsProperRanges : RangesTree → Type 0
  IsProperRanges (MakeRanges first rest) = IsProperRange first × AreProperNextRange rest

  -- "," range
  pub IsProperNextRange : NextRangeTree → Type 0
  IsProperNextRange (MakeNextRange comma_place range) = IsProperRange range

  -- range = expr [ ".." expr ]
  pub IsProperRange : RangeTree → Type 0
  IsProperRange (RangeSingle expr) = IsProperExpr expr
  IsProperRange (RangeBetween low dots_place high) = IsProperExpr low × IsProperExpr high

  pub AreProperNextPart : NextPartRow → Type 0
  AreProperNextPart NoNextPartRow = Unit {0}
  AreProperNextPart (MoreNextPartRow head tail) = IsProperNextPart head × AreProperNextPart tail

  pub IsProperMaybeIndex : MaybeIndex → Type 0
  IsProperMaybeIndex NoIndex = Unit {0}
  IsProperMaybeIndex (SomeIndex part) = IsProperIndex part

  pub AreProperNextRange : NextRangeRow → Type 0
  AreProperNextRange NoNextRangeRow = Unit {0}
  AreProperNextRange (MoreNextRangeRow head tail) = IsProperNextRange head × AreProperNextRange tail
