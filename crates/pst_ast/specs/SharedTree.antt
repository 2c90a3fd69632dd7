-- The trees of the rules of parts that several rules share, without where they lie in memory.
use Rattle.std.specs.Prelude.{List, Option}
use Rattle.pst_ast.specs.declared.leaf.Name.{Name}
use Rattle.pst_ast.specs.declared.shared.NextName.{NextName}
use Rattle.pst_base.specs.declared.position.Place.{Place}
use Rattle.pst_ast.specs.declared.shared.TypeName.{TypeName}
use Rattle.pst_ast.specs.ExpressionTree.{ExprTree, RangesTree}

-- "," expr
pub data NextExprTree : Type 0 where
  MakeNextExpr : (comma_place : Place) → (expr : ExprTree) → NextExprTree

-- NAME { "," NAME }
pub data NamesTree : Type 0 where
  MakeNames : (first : Name) → (rest : List NextName) → NamesTree

-- ":" expr
pub data LowTree : Type 0 where
  MakeLow : (colon_place : Place) → (expr : ExprTree) → LowTree

-- width = "[" expr [ ":" expr ] "]"
pub data WidthTree : Type 0 where
  MakeWidth : (left_bracket_place : Place) → (expr : ExprTree) → (low : Option LowTree) → (right_bracket_place : Place) → WidthTree

-- plain = ("int"|"bit") [width] | "bool"
pub data PlainTree : Type 0 where
  -- Numbers with a sign.
  PlainInt : (int_place : Place) → (width : Option WidthTree) → PlainTree
  -- Numbers without a sign.
  PlainBit : (bit_place : Place) → (width : Option WidthTree) → PlainTree
  -- bool
  PlainBool : (place : Place) → PlainTree

-- "in" "[" ranges "]"
pub data DomainTree : Type 0 where
  MakeDomain : (in_place : Place) → (left_bracket_place : Place) → (ranges : RangesTree) → (right_bracket_place : Place) → DomainTree

-- type = plain ["in" "[" ranges "]"] | tname ["in" "[" ranges "]"]
pub data TypeTree : Type 0 where
  -- A plain type.
  TypePlain : (plain : PlainTree) → (domain : Option DomainTree) → TypeTree
  -- A type with a name.
  TypeNamed : (name : TypeName) → (domain : Option DomainTree) → TypeTree
