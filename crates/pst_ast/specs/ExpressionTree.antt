-- The trees of the rules of expressions, without where they lie in memory.
use Rattle.pst_ast.specs.declared.leaf.Name.{Name}
use Rattle.pst_ast.specs.declared.leaf.Number.{Number}
use Rattle.pst_ast.specs.declared.leaf.Operator.{Operator}
use Rattle.pst_base.specs.declared.position.Place.{Place}
use Rattle.pst_ast.specs.declared.leaf.PrefixOperator.{PrefixOperator}

mutual
  -- expr: operators between parts, by level.
  pub data ExprTree : Type 0 where
    -- A part without an operator between parts.
    ExprUnary : (unary : UnaryTree) → ExprTree
    -- An operator between two parts.
    ExprBinary : (left : ExprTree) → (operator : Operator) → (place : Place) → (right : ExprTree) → ExprTree
    -- expr "in" "[" ranges "]"
    ExprIn : (left : ExprTree) → (in_place : Place) → (left_bracket_place : Place) → (ranges : RangesTree) → (right_bracket_place : Place) → ExprTree

  -- unary = ("-" | "!" | "~") unary | primary
  pub data UnaryTree : Type 0 where
    -- An operator before its part.
    UnaryPrefix : (operator : PrefixOperator) → (place : Place) → (operand : UnaryTree) → UnaryTree
    -- A part without an operator.
    UnaryPrimary : (primary : PrimaryTree) → UnaryTree

  -- primary = NUMBER | "true" | "false" | path | "(" expr ")"
  pub data PrimaryTree : Type 0 where
    -- A number.
    PrimaryNumber : (number : Number) → PrimaryTree
    -- true
    PrimaryTrue : (place : Place) → PrimaryTree
    -- false
    PrimaryFalse : (place : Place) → PrimaryTree
    -- A path.
    PrimaryPath : (path : PathTree) → PrimaryTree
    -- An expression in brackets.
    PrimaryGroup : (left_parenthesis_place : Place) → (expr : ExprTree) → (right_parenthesis_place : Place) → PrimaryTree

  -- path = NAME [ index ] { "." NAME [ index ] } | NAME "::" NAME [ "::" NAME ]
  pub data PathTree : Type 0 where
    -- Names with dots between them.
    PathDotted : (first : PartTree) → (rest : NextPartRow) → PathTree
    -- An item of an enum.
    PathItem : (first : Name) → (colons_place : Place) → (second : Name) → PathTree
    -- An item of an enum of a component.
    PathLongItem : (first : Name) → (colons_place : Place) → (second : Name) → (more_colons_place : Place) → (third : Name) → PathTree

  -- NAME [ index ]
  pub data PartTree : Type 0 where
    MakePart : (name : Name) → (index : MaybeIndex) → PartTree

  -- "." NAME [ index ]
  pub data NextPartTree : Type 0 where
    MakeNextPart : (dot_place : Place) → (part : PartTree) → NextPartTree

  -- index = "[" expr "]"
  pub data IndexTree : Type 0 where
    MakeIndex : (left_bracket_place : Place) → (expr : ExprTree) → (right_bracket_place : Place) → IndexTree

  -- ranges = range { "," range }
  pub data RangesTree : Type 0 where
    MakeRanges : (first : RangeTree) → (rest : NextRangeRow) → RangesTree

  -- "," range
  pub data NextRangeTree : Type 0 where
    MakeNextRange : (comma_place : Place) → (range : RangeTree) → NextRangeTree

  -- range = expr [ ".." expr ]
  pub data RangeTree : Type 0 where
    -- One value.
    RangeSingle : (expr : ExprTree) → RangeTree
    -- All values from one to another.
    RangeBetween : (low : ExprTree) → (dots_place : Place) → (high : ExprTree) → RangeTree

  pub data NextPartRow : Type 0 where
    NoNextPartRow : NextPartRow
    MoreNextPartRow : (head : NextPartTree) → (tail : NextPartRow) → NextPartRow

  pub data MaybeIndex : Type 0 where
    NoIndex : MaybeIndex
    SomeIndex : (part : IndexTree) → MaybeIndex

  pub data NextRangeRow : Type 0 where
    NoNextRangeRow : NextRangeRow
    MoreNextRangeRow : (head : NextRangeTree) → (tail : NextRangeRow) → NextRangeRow
