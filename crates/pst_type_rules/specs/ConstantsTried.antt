-- The definitions on two enums, each name and token at a column of its own:
--   enum E { A, B = 1 << 4, C, D = F::Y * 2 }
--   enum F { X = C, Y, Z = Z, W = 0 && Z }
use Rattle.std.specs.Prelude.{ℕ, ℤ, pos, List, [], ◌∷◌, Some, None, codes}
use Rattle.pst_ast.specs.declared.leaf.Operator.{Operator}
use Rattle.pst_ast.specs.declared.leaf.Operator.TheVariants as sign
use Rattle.pst_ast.specs.ExpressionTree.{ExprTree, ExprUnary, ExprBinary, ExprIn, UnaryPrimary, PrimaryTree, PrimaryNumber, PrimaryPath, PathDotted, PathItem, MakePart, NoIndex, NoNextPartRow, MakeRanges, RangeSingle, RangeBetween, NoNextRangeRow, MoreNextRangeRow, MakeNextRange}
use Rattle.pst_ast.specs.SharedTree.{TypeTree, TypePlain, PlainBit, MakeWidth, MakeDomain}
use Rattle.pst_ast.specs.DeclarationTree.{UnitTree, MakeUnit, ItemEnum, MakeEnum, EnumItemTree, MakeEnumItem, MakeNextEnumItem, MakeEnumValue}
use Rattle.pst_token.specs.declared.token.Token.{Token}
use Rattle.pst_token.specs.declared.kind.Kind.TheVariants as kind
use Rattle.pst_ast.specs.declared.environment.Environment.{Environment}
use Rattle.pst_ast.specs.declared.referent.Owner.TheVariants.{Nobody}
use Rattle.pst_ast.specs.Uses.{environment}
use Rattle.pst_ast.specs.Tried.{at, name}
use Rattle.pst_type_rules.specs.Constants.{IsItemValue, HasValue, IsConstant}
use Rattle.pst_type_rules.specs.Domains.{IsDomainOf, span}

abbrev pub names : List (List ℕ)
names = codes "E" ∷ codes "A" ∷ codes "B" ∷ codes "C" ∷ codes "D" ∷ codes "F" ∷ codes "X" ∷ codes "Y" ∷ codes "Z" ∷ codes "W" ∷ codes "nothing" ∷ []

abbrev pub primary : PrimaryTree → ExprTree
primary p = ExprUnary (UnaryPrimary p)

abbrev pub number : ℕ → ℕ → ExprTree
number n column = primary (PrimaryNumber (record { value = pos n; place = at column }))

abbrev pub named : ℕ → ℕ → ExprTree
named id column = primary (PrimaryPath (PathDotted (MakePart (name id column) NoIndex) NoNextPartRow))

abbrev pub of_two : ExprTree → Operator → ℕ → ExprTree → ExprTree
of_two left operator column right = ExprBinary left operator (at column) right

abbrev pub item : ℕ → ℕ → EnumItemTree
item id column = MakeEnumItem (name id column) None

abbrev pub item_with : ℕ → ℕ → ExprTree → EnumItemTree
item_with id column expr = MakeEnumItem (name id column) (Some (MakeEnumValue (at column) expr))

abbrev pub end : Token
end = record { kind = kind.End; name = record { 0 = 0 }; number = pos 0; place = at 90 }

-- 1 << 4, and F::Y * 2
abbrev pub shifted : ExprTree
shifted = of_two (number 1 4) sign.ShiftLeft 5 (number 4 6)

abbrev pub doubled : ExprTree
doubled = of_two (primary (PrimaryPath (PathItem (name 5 9) (at 10) (name 7 11)))) sign.Multiply 12 (number 2 13)

-- 0 && Z
abbrev pub hidden : ExprTree
hidden = of_two (number 0 27) sign.And 28 (named 8 29)

abbrev pub units : List UnitTree
units =
    MakeUnit
    (ItemEnum (MakeEnum (at 1) (name 0 1) (at 1) (item 1 2) (MakeNextEnumItem (at 3) (item_with 2 3 shifted) ∷ MakeNextEnumItem (at 7) (item 3 7) ∷ MakeNextEnumItem (at 8) (item_with 4 8 doubled) ∷ []) (at 14))
    ∷ ItemEnum (MakeEnum (at 20) (name 5 20) (at 20) (item_with 6 21 (named 3 22)) (MakeNextEnumItem (at 23) (item 7 23) ∷ MakeNextEnumItem (at 24) (item_with 8 24 (named 8 25)) ∷ MakeNextEnumItem (at 26) (item_with 9 26 hidden) ∷ []) (at 30))
    ∷ [])
    end ∷ []

-- outside of all types
abbrev pub top : Environment
top = environment None Nobody

abbrev pub Item : ℕ → ℤ → Type 0
Item column v = IsItemValue units names (at column) v

-- 3 in [1..2, 3]
abbrev pub inside : ExprTree
inside = ExprIn (number 3 40) (at 41) (at 42) (MakeRanges (RangeBetween (number 1 43) (at 44) (number 2 45)) (MoreNextRangeRow (MakeNextRange (at 46) (RangeSingle (number 3 47))) NoNextRangeRow)) (at 48)

-- 1 / 0, and 1 || nothing
abbrev pub quotient : ExprTree
quotient = of_two (number 1 40) sign.Divide 41 (number 0 42)

abbrev pub with_nothing : ExprTree
with_nothing = of_two (number 1 40) sign.Or 41 (named 10 42)

-- bit[2] in [0..1, 2]
abbrev pub small : TypeTree
small =
    TypePlain (PlainBit (at 50) (Some (MakeWidth (at 51) (number 2 52) None (at 53))))
    (Some (MakeDomain (at 54) (at 55) (MakeRanges (RangeBetween (number 0 56) (at 57) (number 1 58)) (MoreNextRangeRow (MakeNextRange (at 59) (RangeSingle (number 2 60))) NoNextRangeRow)) (at 61)))

pub record ConstantsAreTried : Type 0 where
  -- items: the first, one with an expression, the next one, and items of another enum by themselves and with it
  pub first : Item 2 (pos 0)
  pub given : Item 3 (pos 16)
  pub next : Item 7 (pos 17)
  pub of_other : Item 21 (pos 17)
  pub behind_other : Item 23 (pos 18)
  pub with_enum : Item 8 (pos 36)
  -- an item that needs itself, and one that doesn't need that one
  pub itself : (v : ℤ) → Item 24 v → ⊥
  pub not_needed : Item 26 (pos 0)
  -- expressions
  pub in_second : HasValue units names top inside (pos 1)
  pub no_quotient : (v : ℤ) → HasValue units names top quotient v → ⊥
  pub right_not_needed : HasValue units names top with_nothing (pos 1)
  pub no_constant : (v : ℤ) → IsConstant units names top with_nothing v → ⊥
  -- ranges that touch are one span
  pub one_span : IsDomainOf units names top small (span (pos 0) (pos 2) ∷ [])
