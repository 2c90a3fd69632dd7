-- Expressions over things that their paths stand for, with `in` rewritten.
use Rattle.std.specs.Prelude.{ℤ, pos, List, Option, Some, None}
use Rattle.pst_ast.specs.ExpressionTree.{ExprTree, ExprUnary, ExprBinary, ExprIn, UnaryTree, UnaryPrefix, UnaryPrimary, PrimaryTree, PrimaryNumber, PrimaryTrue, PrimaryFalse, PrimaryPath, PrimaryGroup, PathTree, PathDotted, PathItem, PathLongItem, PartTree, MakePart, NextPartTree, MakeNextPart, IndexTree, MakeIndex, RangesTree, MakeRanges, NextRangeTree, MakeNextRange, RangeTree, RangeSingle, RangeBetween, NextPartRow, NoNextPartRow, MoreNextPartRow, MaybeIndex, NoIndex, SomeIndex, NextRangeRow, NoNextRangeRow, MoreNextRangeRow}
use Rattle.pst_expr.specs.declared.tree.UnaryOp.{UnaryOp}
use Rattle.pst_expr.specs.declared.tree.BinaryOp.{BinaryOp}
use Rattle.pst_expr.specs.declared.tree.BinaryOp.TheVariants.{LessOrEqual, GreaterOrEqual, Equal, And, Or}
use Rattle.pst_type_rules.specs.Values.{unary_of, binary_of}

-- an array is the list of its elements
pub data Term (X : Type 0) : Type 0 where
  Number : (n : ℤ) → Term X
  Leaf : (x : X) → Term X
  Prefix : (operator : UnaryOp) (operand : Term X) → Term X
  Infix : (operator : BinaryOp) (left right : Term X) → Term X
  Indexed : (elements : List X) (index : Term X) → Term X

-- what a path stands for, its index apart
pub data Reading (X : Type 0) : Type 0 where
  ANumber : (n : ℤ) → Reading X
  AThing : (x : X) → Reading X
  AnArray : (elements : List X) → Reading X

abbrev pub term_at : {X : Type 0} → Reading X → Option (Term X) → Term X
term_at (ANumber n) index = Number n
term_at (AThing x) index = Leaf x
term_at (AnArray elements) None = Number (pos 0)
term_at (AnArray elements) (Some index) = Indexed elements index

abbrev pub first_some : {X : Type 0} → Option X → Option X → Option X
first_some None b = b
first_some (Some a) b = Some a

abbrev mutual
  pub term_of : {X : Type 0} → (PathTree → Reading X) → ExprTree → Term X
  term_of read (ExprUnary unary) = unary_term read unary
  term_of read (ExprBinary left operator place right) = Infix (binary_of operator) (term_of read left) (term_of read right)
  term_of read (ExprIn left in_place opening ranges close) = ranges_term read (term_of read left) ranges

  pub unary_term : {X : Type 0} → (PathTree → Reading X) → UnaryTree → Term X
  unary_term read (UnaryPrefix operator place operand) = Prefix (unary_of operator) (unary_term read operand)
  unary_term read (UnaryPrimary primary) = primary_term read primary

  pub primary_term : {X : Type 0} → (PathTree → Reading X) → PrimaryTree → Term X
  primary_term read (PrimaryNumber number) = Number number.value
  primary_term read (PrimaryTrue place) = Number (pos 1)
  primary_term read (PrimaryFalse place) = Number (pos 0)
  primary_term read (PrimaryPath path) = term_at (read path) (path_index read path)
  primary_term read (PrimaryGroup left expr right) = term_of read expr

  -- the index of a path, which has one at most
  pub path_index : {X : Type 0} → (PathTree → Reading X) → PathTree → Option (Term X)
  path_index read (PathDotted first rest) = first_some (part_index read first) (row_index read rest)
  path_index read (PathItem first colons second) = None
  path_index read (PathLongItem first colons second more_colons third) = None

  pub part_index : {X : Type 0} → (PathTree → Reading X) → PartTree → Option (Term X)
  part_index read (MakePart name index) = maybe_index read index

  pub maybe_index : {X : Type 0} → (PathTree → Reading X) → MaybeIndex → Option (Term X)
  maybe_index read NoIndex = None
  maybe_index read (SomeIndex index) = Some (index_term read index)

  pub index_term : {X : Type 0} → (PathTree → Reading X) → IndexTree → Term X
  index_term read (MakeIndex left expr right) = term_of read expr

  pub row_index : {X : Type 0} → (PathTree → Reading X) → NextPartRow → Option (Term X)
  row_index read NoNextPartRow = None
  row_index read (MoreNextPartRow head tail) = first_some (dotted_index read head) (row_index read tail)

  pub dotted_index : {X : Type 0} → (PathTree → Reading X) → NextPartTree → Option (Term X)
  dotted_index read (MakeNextPart dot part) = part_index read part

  -- x in [a..b, c] is x >= a && x <= b || x == c
  pub ranges_term : {X : Type 0} → (PathTree → Reading X) → Term X → RangesTree → Term X
  ranges_term read x (MakeRanges first rest) = or_ranges read x (range_term read x first) rest

  pub or_ranges : {X : Type 0} → (PathTree → Reading X) → Term X → Term X → NextRangeRow → Term X
  or_ranges read x before NoNextRangeRow = before
  or_ranges read x before (MoreNextRangeRow head tail) = or_ranges read x (Infix Or before (next_range_term read x head)) tail

  pub next_range_term : {X : Type 0} → (PathTree → Reading X) → Term X → NextRangeTree → Term X
  next_range_term read x (MakeNextRange comma range) = range_term read x range

  pub range_term : {X : Type 0} → (PathTree → Reading X) → Term X → RangeTree → Term X
  range_term read x (RangeSingle expr) = Infix Equal x (term_of read expr)
  range_term read x (RangeBetween low dots high) = Infix And (Infix GreaterOrEqual x (term_of read low)) (Infix LessOrEqual x (term_of read high))
