-- The values of types, and the domains of fields.
use Rattle.std.specs.Prelude.{◌≡◌, ◌↔◌, ℕ, ◌-◌, ◌^◌, ℤ, pos, neg_ℤ, ◌+ℤ◌, ◌-ℤ◌, ◌<ℤ◌, ◌≤ℤ◌, List, [], ◌∷◌, Option, Some, None, AllPairs}
use Rattle.std.specs.List.{Contains}
use Rattle.pst_base.specs.declared.position.Place.{Place}
use Rattle.pst_ast.specs.declared.shared.TypeName.{TypeName}
use Rattle.pst_ast.specs.ExpressionTree.{ExprTree, RangesTree, MakeRanges, RangeTree, RangeSingle, RangeBetween}
use Rattle.pst_ast.specs.SharedTree.{MakeLow, WidthTree, MakeWidth, PlainTree, PlainInt, PlainBit, PlainBool, DomainTree, MakeDomain, TypeTree, TypePlain, TypeNamed}
use Rattle.pst_ast.specs.DeclarationTree.{UnitTree}
use Rattle.pst_expr.specs.declared.ranges.Span.{Span}
use Rattle.pst_expr.specs.Spans.{IsInSpan, IsInSpans, IsDomain}
use Rattle.pst_ast.specs.declared.scope_declaration.Declaration.{Declaration}
use Rattle.pst_ast.specs.Declarations.{declarations}
use Rattle.pst_ast.specs.declared.environment.Environment.{Environment}
use Rattle.pst_ast.specs.Lookups.{type_named}
use Rattle.pst_ast.specs.Uses.{next_ends}
use Rattle.pst_type_rules.specs.Enums.{DeclaredItem, DeclaredEnum, enum_at}
use Rattle.pst_type_rules.specs.Constants.{IsItemValue, IsConstant}

abbrev pub span : ℤ → ℤ → Span
span low high = record { low = low; high = high }

-- ---- plain types

-- the width: [W], or [M:0] for M + 1
pub data HasWidth (units : List UnitTree) (names : List (List ℕ)) (at : Environment) : WidthTree → ℤ → Type 0 where
  ByCount : (left right : Place) (expr : ExprTree) (w : ℤ) → IsConstant units names at expr w → HasWidth units names at (MakeWidth left expr None right) w
  ByHighest : (left colon right : Place) (highest lowest : ExprTree) (m : ℤ) → IsConstant units names at highest m → IsConstant units names at lowest (pos 0)
      → HasWidth units names at (MakeWidth left highest (Some (MakeLow colon lowest)) right) (m +ℤ pos 1)

abbrev pub signed_span : ℕ → Span
signed_span width = span (neg_ℤ (pos (2 ^ (width - 1)))) (pos (2 ^ (width - 1)) -ℤ pos 1)

abbrev pub unsigned_span : ℕ → Span
unsigned_span width = span (pos 0) (pos (2 ^ width) -ℤ pos 1)

-- the span of a plain type
pub data HasSpan (units : List UnitTree) (names : List (List ℕ)) (at : Environment) : PlainTree → Span → Type 0 where
  Int : (place : Place) → HasSpan units names at (PlainInt place None) (signed_span 32)
  IntOfWidth : (place : Place) (width : WidthTree) (w : ℕ) → HasWidth units names at width (pos w) → HasSpan units names at (PlainInt place (Some width)) (signed_span w)
  Bit : (place : Place) → HasSpan units names at (PlainBit place None) (unsigned_span 1)
  BitOfWidth : (place : Place) (width : WidthTree) (w : ℕ) → HasWidth units names at width (pos w) → HasSpan units names at (PlainBit place (Some width)) (unsigned_span w)
  Boolean : (place : Place) → HasSpan units names at (PlainBool place) (span (pos 0) (pos 1))

-- ---- ranges

-- the span of a range of constants
pub data IsSpanOf (units : List UnitTree) (names : List (List ℕ)) (at : Environment) : RangeTree → Span → Type 0 where
  Single : (expr : ExprTree) (v : ℤ) → IsConstant units names at expr v → IsSpanOf units names at (RangeSingle expr) (span v v)
  Between : (low high : ExprTree) (dots : Place) (a b : ℤ) → IsConstant units names at low a → IsConstant units names at high b → IsSpanOf units names at (RangeBetween low dots high) (span a b)

abbrev pub ranges_of : RangesTree → List RangeTree
ranges_of (MakeRanges first rest) = first ∷ next_ends rest

-- the ranges behind `in`
abbrev pub ranges_behind : Option DomainTree → List RangeTree
ranges_behind None = []
ranges_behind (Some (MakeDomain in_place left ranges right)) = ranges_of ranges

abbrev pub ranges_in : TypeTree → List RangeTree
ranges_in (TypePlain plain domain) = ranges_behind domain
ranges_in (TypeNamed name domain) = ranges_behind domain

-- a value in one of the ranges
pub record IsInRanges (units : List UnitTree) (names : List (List ℕ)) (at : Environment) (ranges : List RangeTree) (v : ℤ) : Type 0 where
  pub range : RangeTree
  pub among : Contains ranges range
  pub span : Span
  pub is : IsSpanOf units names at range span
  pub inside : IsInSpan v span

-- without `in` each value is kept
abbrev pub IsKept : List UnitTree → List (List ℕ) → Environment → Option DomainTree → ℤ → Type 0
IsKept units names at None v = Unit {0}
IsKept units names at (Some (MakeDomain in_place left ranges right)) v = IsInRanges units names at (ranges_of ranges) v

-- ---- types

-- the enum of a name
pub record IsEnumNamed (units : List UnitTree) (component : Option Place) (name : TypeName) (e : DeclaredEnum) : Type 0 where
  pub declaration : Declaration
  pub named : type_named (declarations units) component name ≡ Some declaration
  pub is : enum_at units declaration.name.place ≡ Some e

-- a value of a type
pub data IsInType (units : List UnitTree) (names : List (List ℕ)) (at : Environment) : TypeTree → ℤ → Type 0 where
  OfPlain : (plain : PlainTree) (domain : Option DomainTree) (s : Span) (v : ℤ) → HasSpan units names at plain s → IsInSpan v s → IsKept units names at domain v
      → IsInType units names at (TypePlain plain domain) v
  OfEnum : (name : TypeName) (domain : Option DomainTree) (e : DeclaredEnum) (i : DeclaredItem) (v : ℤ) → IsEnumNamed units at.component name e → Contains e.items i
      → IsItemValue units names i.name.place v → IsKept units names at domain v → IsInType units names at (TypeNamed name domain) v

-- the width of a plain type, or each item of an enum, has a value
pub data IsBaseKnown (units : List UnitTree) (names : List (List ℕ)) (at : Environment) : TypeTree → Type 0 where
  Plain : (plain : PlainTree) (domain : Option DomainTree) (s : Span) → HasSpan units names at plain s → IsBaseKnown units names at (TypePlain plain domain)
  Enum : (name : TypeName) (domain : Option DomainTree) (e : DeclaredEnum) → IsEnumNamed units at.component name e
      → ((i : DeclaredItem) → Contains e.items i → (v : ℤ) × IsItemValue units names i.name.place v) → IsBaseKnown units names at (TypeNamed name domain)

-- each part of a type has a value, and no range is reversed
pub record IsKnown (units : List UnitTree) (names : List (List ℕ)) (at : Environment) (type : TypeTree) : Type 0 where
  pub base : IsBaseKnown units names at type
  pub ranges : (r : RangeTree) → Contains (ranges_in type) r → (s : Span) × IsSpanOf units names at r s × (s.low ≤ℤ s.high)

-- The domain of a type: spans that have its values and no others. Between each two of them a number is missing, so no others are fewer (a law).
pub record IsDomainOf (units : List UnitTree) (names : List (List ℕ)) (at : Environment) (type : TypeTree) (spans : List Span) : Type 0 where
  pub domain : IsDomain spans
  pub apart : AllPairs (λ s t. (s.high +ℤ pos 1) <ℤ t.low) spans
  pub values : (v : ℤ) → IsInSpans v spans ↔ IsInType units names at type v
