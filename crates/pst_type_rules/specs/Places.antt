-- The first tokens of expressions, ranges and types, and the `in`s within the left parts of others.
use Rattle.std.specs.Prelude.{Bool, true, List, [], ◌∷◌, ◌++◌, if◌then◌else◌}
use Rattle.pst_base.specs.declared.position.Place.{Place}
use Rattle.pst_ast.specs.ExpressionTree.{ExprTree, ExprUnary, ExprBinary, ExprIn, UnaryTree, UnaryPrefix, UnaryPrimary, PrimaryTree, PrimaryNumber, PrimaryTrue, PrimaryFalse, PrimaryPath, PrimaryGroup, PathTree, PathDotted, PathItem, PathLongItem, PartTree, MakePart, NextPartTree, MakeNextPart, MakeIndex, RangesTree, MakeRanges, NextRangeTree, MakeNextRange, RangeTree, RangeSingle, RangeBetween, NextPartRow, NoNextPartRow, MoreNextPartRow, MaybeIndex, NoIndex, SomeIndex, NextRangeRow, NoNextRangeRow, MoreNextRangeRow}
use Rattle.pst_ast.specs.SharedTree.{PlainTree, PlainInt, PlainBit, PlainBool, TypeTree, TypePlain, TypeNamed}

-- ---- first tokens

abbrev pub part_place : PartTree → Place
part_place (MakePart name index) = name.place

abbrev pub path_place : PathTree → Place
path_place (PathDotted first rest) = part_place first
path_place (PathItem first colons second) = first.place
path_place (PathLongItem first colons second more_colons third) = first.place

abbrev pub primary_place : PrimaryTree → Place
primary_place (PrimaryNumber number) = number.place
primary_place (PrimaryTrue place) = place
primary_place (PrimaryFalse place) = place
primary_place (PrimaryPath path) = path_place path
primary_place (PrimaryGroup left expr right) = left

abbrev pub unary_place : UnaryTree → Place
unary_place (UnaryPrefix operator place operand) = place
unary_place (UnaryPrimary primary) = primary_place primary

abbrev pub expr_place : ExprTree → Place
expr_place (ExprUnary unary) = unary_place unary
expr_place (ExprBinary left operator place right) = expr_place left
expr_place (ExprIn left in_place opening ranges close) = expr_place left

abbrev pub range_place : RangeTree → Place
range_place (RangeSingle expr) = expr_place expr
range_place (RangeBetween low dots high) = expr_place low

abbrev pub plain_place : PlainTree → Place
plain_place (PlainInt place width) = place
plain_place (PlainBit place width) = place
plain_place (PlainBool place) = place

abbrev pub type_place : TypeTree → Place
type_place (TypePlain plain domain) = plain_place plain
type_place (TypeNamed name domain) = name.first.place

-- ---- `in` in the left part of another `in`

-- the places of the `in`s that stand there; of all `in`s, where the whole stands in the left part of one
abbrev mutual
  pub ins : Bool → ExprTree → List Place
  ins within (ExprUnary unary) = unary_ins within unary
  ins within (ExprBinary left operator place right) = ins within left ++ ins within right
  ins within (ExprIn left in_place opening ranges close) = (if within then in_place ∷ [] else []) ++ (ins true left ++ ranges_ins within ranges)

  pub unary_ins : Bool → UnaryTree → List Place
  unary_ins within (UnaryPrefix operator place operand) = unary_ins within operand
  unary_ins within (UnaryPrimary primary) = primary_ins within primary

  pub primary_ins : Bool → PrimaryTree → List Place
  primary_ins within (PrimaryNumber number) = []
  primary_ins within (PrimaryTrue place) = []
  primary_ins within (PrimaryFalse place) = []
  primary_ins within (PrimaryPath path) = path_ins within path
  primary_ins within (PrimaryGroup left expr right) = ins within expr

  pub path_ins : Bool → PathTree → List Place
  path_ins within (PathDotted first rest) = part_ins within first ++ next_part_ins within rest
  path_ins within (PathItem first colons second) = []
  path_ins within (PathLongItem first colons second more_colons third) = []

  pub part_ins : Bool → PartTree → List Place
  part_ins within (MakePart name index) = index_ins within index

  pub index_ins : Bool → MaybeIndex → List Place
  index_ins within NoIndex = []
  index_ins within (SomeIndex (MakeIndex left expr right)) = ins within expr

  pub next_part_ins : Bool → NextPartRow → List Place
  next_part_ins within NoNextPartRow = []
  next_part_ins within (MoreNextPartRow head tail) = dotted_ins within head ++ next_part_ins within tail

  pub dotted_ins : Bool → NextPartTree → List Place
  dotted_ins within (MakeNextPart dot part) = part_ins within part

  pub ranges_ins : Bool → RangesTree → List Place
  ranges_ins within (MakeRanges first rest) = range_ins within first ++ next_range_ins within rest

  pub range_ins : Bool → RangeTree → List Place
  range_ins within (RangeSingle expr) = ins within expr
  range_ins within (RangeBetween low dots high) = ins within low ++ ins within high

  pub next_range_ins : Bool → NextRangeRow → List Place
  next_range_ins within NoNextRangeRow = []
  next_range_ins within (MoreNextRangeRow head tail) = comma_range_ins within head ++ next_range_ins within tail

  pub comma_range_ins : Bool → NextRangeTree → List Place
  comma_range_ins within (MakeNextRange comma range) = range_ins within range
