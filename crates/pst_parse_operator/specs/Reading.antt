-- Expressions, parsed from left to right: depth derivations that count are open, and before operators of the outermost expression stand in front.
use Rattle.std.specs.Prelude.{ℕ, zero, suc, ◌+◌, ◌-◌, if◌then◌else◌, Bool, true, false, Option, Some, None}
use Rattle.pst_token.specs.declared.kind.Kind.TheVariants as kind
use Rattle.pst_token.specs.declared.token.Token.{Token}
use Rattle.pst_ast.specs.declared.leaf.Name.{Name}
use Rattle.pst_ast.specs.declared.leaf.Operator.{Operator}
use Rattle.pst_ast.specs.declared.leaf.PrefixOperator.{PrefixOperator}
use Rattle.pst_ast.specs.ExpressionTree.{ExprTree, ExprUnary, ExprBinary, ExprIn, UnaryTree, UnaryPrefix, UnaryPrimary, PrimaryTree, PrimaryNumber, PrimaryTrue, PrimaryFalse, PrimaryPath, PrimaryGroup, PathTree, PathDotted, PathItem, PathLongItem, MakePart, MakeNextPart, IndexTree, MakeIndex, RangesTree, MakeRanges, MakeNextRange, RangeTree, RangeSingle, RangeBetween, NextPartTree, NextPartRow, NoNextPartRow, MoreNextPartRow, MaybeIndex, NoIndex, SomeIndex, NextRangeTree, NextRangeRow, NoNextRangeRow, MoreNextRangeRow}
use Rattle.pst_ast.specs.ExpressionOperators.{operators_expr, operators_part, operators_next_part_row, operators_range, operators_ranges, operators_next_range_row}
use Rattle.pst_ast.specs.Limits.{counted}
use Rattle.pst_reading.specs.Kinds.{is_mark, is_number, next_is}
use Rattle.pst_reading.specs.Parser.{Parser, Done, Spent, Look, Take, ◌>>=◌, followed_by, mark_by, name_by, if_mark, repeat_by}
use Rattle.pst_parse_operator.specs.Operators.{operator_of, is_in, prefix_of}

-- a parser for each number of open derivations and of operators in front
abbrev pub Parsers : Type 0 → Type 0
Parsers A = ℕ → ℕ → Parser A

-- ---- the operator table: parts of a level are what binds tighter, with operators of the level between

-- an operator of the level and the part on its right
abbrev pub binary_by : Parsers ExprTree → ℕ → ℕ → ExprTree → Operator → Parser ExprTree
binary_by tighter depth before left operator = Take (counted depth (suc (before + operators_expr left))) (λ token. followed_by (tighter depth (suc (before + operators_expr left))) (λ right. Done (ExprBinary left operator token.place right)))

-- `in` and its ranges
abbrev pub in_by : Parsers RangesTree → ℕ → ℕ → ExprTree → Parser ExprTree
in_by ranges depth before left = do
  in_place ← mark_by kind.In (counted depth (suc (before + operators_expr left)))
  left_bracket ← mark_by kind.LeftBracket (counted depth (suc (before + operators_expr left)))
  all ← ranges depth (suc (before + operators_expr left))
  right_bracket ← mark_by kind.RightBracket (counted depth (suc (before + operators_expr left) + operators_ranges all))
  Done (ExprIn left in_place left_bracket all right_bracket)

abbrev pub operation_by : Parsers ExprTree → Parsers RangesTree → ℕ → ℕ → ExprTree → Option Operator → Bool → Option (Parser ExprTree)
operation_by tighter ranges depth before left (Some operator) is_membership = Some (binary_by tighter depth before left operator)
operation_by tighter ranges depth before left None true = Some (in_by ranges depth before left)
operation_by tighter ranges depth before left None false = None

abbrev pub operation_of : Parsers ExprTree → Parsers RangesTree → ℕ → ℕ → ℕ → ExprTree → Option Token → Option (Parser ExprTree)
operation_of tighter ranges level depth before left next = operation_by tighter ranges depth before left (operator_of level next) (is_in level next)

-- above is how many levels bind tighter than the operators of this one: 10 for all
abbrev pub level_by : Parsers UnaryTree → Parsers RangesTree → ℕ → ℕ → Parsers ExprTree
level_by unary ranges turns zero depth before = followed_by (unary depth before) (λ u. Done (ExprUnary u))
level_by unary ranges turns (suc above) depth before = followed_by (level_by unary ranges turns above depth before) (repeat_by (operation_of (level_by unary ranges turns above) ranges (9 - above) depth before) turns)

-- ---- what stands between operators

abbrev pub index_by : Parsers ExprTree → Parsers IndexTree
index_by expr depth before = do
  left_bracket ← mark_by kind.LeftBracket (counted (suc depth) before)
  inner ← expr (suc depth) before
  right_bracket ← mark_by kind.RightBracket (counted (suc depth) (before + operators_expr inner))
  Done (MakeIndex left_bracket inner right_bracket)

abbrev pub maybe_index_by : Parsers ExprTree → Parsers MaybeIndex
maybe_index_by expr depth before = if_mark kind.LeftBracket (followed_by (index_by expr depth before) (λ index. Done (SomeIndex index))) (Done NoIndex)

-- a name with its index behind a dot
abbrev pub next_part_by : Parsers ExprTree → Parsers NextPartTree
next_part_by expr depth before = do
  dot ← mark_by kind.Dot (counted depth before)
  name ← name_by (counted depth before)
  index ← maybe_index_by expr depth before
  Done (MakeNextPart dot (MakePart name index))

-- one more at the end of a row
abbrev pub with_part : NextPartRow → NextPartTree → NextPartRow
with_part NoNextPartRow part = MoreNextPartRow part NoNextPartRow
with_part (MoreNextPartRow head tail) part = MoreNextPartRow head (with_part tail part)

abbrev pub parts_of : Parsers ExprTree → ℕ → ℕ → NextPartRow → Option Token → Option (Parser NextPartRow)
parts_of expr depth before row next = if next_is (is_mark kind.Dot) next then Some (followed_by (next_part_by expr depth (before + operators_next_part_row row)) (λ part. Done (with_part row part))) else None

-- a path whose first name has no `::` behind it
abbrev pub dotted_by : Parsers ExprTree → ℕ → ℕ → ℕ → Name → Parser PathTree
dotted_by expr turns depth before name = do
  index ← maybe_index_by expr depth before
  rest ← repeat_by (parts_of expr depth (before + operators_part (MakePart name index))) turns NoNextPartRow
  Done (PathDotted (MakePart name index) rest)

-- an item of an enum, behind the first name
abbrev pub item_by : ℕ → ℕ → Name → Parser PathTree
item_by depth before first = do
  colons ← mark_by kind.ColonColon (counted depth before)
  second ← name_by (counted depth before)
  if_mark kind.ColonColon (do
    more_colons ← mark_by kind.ColonColon (counted depth before)
    third ← name_by (counted depth before)
    Done (PathLongItem first colons second more_colons third)) (Done (PathItem first colons second))

abbrev pub path_by : Parsers ExprTree → ℕ → Parsers PathTree
path_by expr turns depth before = followed_by (name_by (counted depth before)) (λ name. if_mark kind.ColonColon (item_by depth before name) (dotted_by expr turns depth before name))

abbrev pub group_by : Parsers ExprTree → Parsers PrimaryTree
group_by expr depth before = do
  left_parenthesis ← mark_by kind.LeftParenthesis (counted (suc depth) before)
  inner ← expr (suc depth) before
  right_parenthesis ← mark_by kind.RightParenthesis (counted (suc depth) (before + operators_expr inner))
  Done (PrimaryGroup left_parenthesis inner right_parenthesis)

abbrev pub number_by : Parsers PrimaryTree
number_by depth before = Take (counted depth before) (λ token. Done (PrimaryNumber (record { value = token.number; place = token.place })))

abbrev pub primary_by : Parsers ExprTree → ℕ → Parsers PrimaryTree
primary_by expr turns depth before = Look (λ next. if next_is is_number next then number_by depth before else (
    if_mark kind.LeftParenthesis (group_by expr depth before) (
    if_mark kind.True (followed_by (mark_by kind.True (counted depth before)) (λ place. Done (PrimaryTrue place))) (
    if_mark kind.False (followed_by (mark_by kind.False (counted depth before)) (λ place. Done (PrimaryFalse place)))
    (followed_by (path_by expr turns depth before) (λ path. Done (PrimaryPath path)))))))

-- an operator before its part counts as a derivation and as an operator
abbrev pub prefix_by : Parsers PrimaryTree → Parsers UnaryTree → ℕ → ℕ → Option PrefixOperator → Parser UnaryTree
prefix_by primary unary depth before None = followed_by (primary depth before) (λ p. Done (UnaryPrimary p))
prefix_by primary unary depth before (Some operator) = Take (counted (suc depth) (suc before)) (λ token. followed_by (unary (suc depth) (suc before)) (λ operand. Done (UnaryPrefix operator token.place operand)))

abbrev pub unary_by : Parsers PrimaryTree → ℕ → Parsers UnaryTree
unary_by primary zero depth before = Spent
unary_by primary (suc prefixes) depth before = Look (λ next. prefix_by primary (unary_by primary prefixes) depth before (prefix_of next))

-- ---- ranges

abbrev pub range_by : Parsers ExprTree → Parsers RangeTree
range_by expr depth before = followed_by (expr depth before) (λ low. if_mark kind.DotDot (do
  dots ← mark_by kind.DotDot (counted depth (before + operators_expr low))
  high ← expr depth (before + operators_expr low)
  Done (RangeBetween low dots high)) (Done (RangeSingle low)))

abbrev pub with_range : NextRangeRow → NextRangeTree → NextRangeRow
with_range NoNextRangeRow range = MoreNextRangeRow range NoNextRangeRow
with_range (MoreNextRangeRow head tail) range = MoreNextRangeRow head (with_range tail range)

abbrev pub next_range_by : Parsers ExprTree → Parsers NextRangeTree
next_range_by expr depth before = do
  comma ← mark_by kind.Comma (counted depth before)
  range ← range_by expr depth before
  Done (MakeNextRange comma range)

abbrev pub more_ranges_of : Parsers ExprTree → ℕ → ℕ → NextRangeRow → Option Token → Option (Parser NextRangeRow)
more_ranges_of expr depth before row next = if next_is (is_mark kind.Comma) next then Some (followed_by (next_range_by expr depth (before + operators_next_range_row row)) (λ range. Done (with_range row range))) else None

abbrev pub ranges_by : Parsers ExprTree → ℕ → Parsers RangesTree
ranges_by expr turns depth before = do
  first ← range_by expr depth before
  rest ← repeat_by (more_ranges_of expr depth (before + operators_range first)) turns NoNextRangeRow
  Done (MakeRanges first rest)

-- ---- the whole: parts within one another, and turns of each loop, are fewer than size

unfoldable pub expr_at : ℕ → Parsers ExprTree
expr_at zero depth before = Spent
expr_at (suc size) depth before = level_by (unary_by (primary_by (expr_at size) size) (suc size)) (ranges_by (expr_at size) size) size 10 depth before

abbrev pub expr_parser : ℕ → ℕ → Parser ExprTree
expr_parser depth size = expr_at size depth 0
