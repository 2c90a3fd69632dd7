-- The spans of constants and of enum items that have values.
use Rattle.std.specs.Prelude.{◌≡◌, ◌↔◌, ℤ, List, Option, Some, None}
use Rattle.std.specs.List.{Contains, flat_map}
use Rattle.std.specs.Option.{option_and_then, option_map, option_to_list}
use Rattle.pst_base.specs.declared.position.Place.{Place}
use Rattle.pst_ast.specs.declared.shared.TypeName.{TypeName}
use Rattle.pst_ast.specs.ExpressionTree.{ExprTree, RangeTree}
use Rattle.pst_ast.specs.ExpressionView.{view_ranges}
use Rattle.pst_ast.specs.declared.expression.RangesNode.{RangesNode}
use Rattle.pst_ast.specs.SharedTree.{PlainTree, DomainTree, MakeDomain, TypeTree, TypePlain, TypeNamed}
use Rattle.pst_expr.specs.declared.ranges.Span.{Span}
use Rattle.pst_expr.specs.Spans.{IsInSpan, IsInSpans}
use Rattle.pst_ast.specs.declared.scope_declaration.Declaration.{Declaration}
use Rattle.pst_ast.specs.declared.environment.Environment.{Environment}
use Rattle.pst_ast.specs.Lookups.{type_named}
use Rattle.pst_type_rules.specs.Domains.{ranges_of, span}
use Rattle.pst_enum_values.specs.Gathered.{EnumPlaces}
use Rattle.pst_enum_values.specs.Kept.{enum_in}
use Rattle.pst_joined_spans.specs.Joined.{AreJoined}
use Rattle.pst_range_rules.specs.Spans.{span_of}
use Rattle.pst_range_rules.specs.Types.{base_span}

-- ---- the spans of what has a value

-- the spans of ranges, of each that has one
abbrev pub known_spans : (ExprTree → Option ℤ) → List RangeTree → List Span
known_spans value ranges = flat_map (λ r. option_to_list (span_of value r)) ranges

abbrev pub point : ℤ → Span
point v = span v v

-- the values at places, of each that has one
abbrev pub points : (Place → Option ℤ) → List Place → List Span
points known places = flat_map (λ p. option_to_list (option_map point (known p))) places

-- ---- the values of enums

-- the value of an item whose name stands at one of the places
abbrev pub HasItem : (Place → Option ℤ) → List Place → ℤ → Type 0
HasItem known places v = (p : Place) × Contains places p × (known p ≡ Some v)

-- joined spans that have the values of an enum's items, and no others
abbrev pub AreEnumSpans : (Place → Option ℤ) → List Place → List Span → Type 0
AreEnumSpans known places spans = AreJoined spans × ((v : ℤ) → IsInSpans v spans ↔ HasItem known places v)

-- what is found of an enum: its spans, or nothing where there is no enum
abbrev pub IsFound : (Place → Option ℤ) → Option EnumPlaces → Option (List Span) → Type 0
IsFound known None None = Unit {0}
IsFound known None (Some spans) = ⊥
IsFound known (Some e) None = ⊥
IsFound known (Some e) (Some spans) = AreEnumSpans known e.items spans

-- ---- the values of types

-- in one of the ranges; without ranges each value is
abbrev pub IsKeptBy : (ExprTree → Option ℤ) → Option DomainTree → ℤ → Type 0
IsKeptBy value None v = Unit {0}
IsKeptBy value (Some (MakeDomain in_place left ranges right)) v = IsInSpans v (known_spans value (ranges_of ranges))

-- joined spans that have the numbers of others in ranges
abbrev pub AreWithin : (ExprTree → Option ℤ) → List Span → RangesNode → List Span → Type 0
AreWithin value base ranges spans = AreJoined spans × ((v : ℤ) → IsInSpans v spans ↔ (IsInSpans v base × IsInSpans v (known_spans value (ranges_of (view_ranges ranges)))))

-- joined spans that have the kept numbers of others
abbrev pub AreCut : (ExprTree → Option ℤ) → List Span → Option DomainTree → List Span → Type 0
AreCut value base domain spans = AreJoined spans × ((v : ℤ) → IsInSpans v spans ↔ (IsInSpans v base × IsKeptBy value domain v))

abbrev pub ArePlain : (ExprTree → Option ℤ) → Option Span → Option DomainTree → List Span → Type 0
ArePlain value base domain spans = AreJoined spans × ((v : ℤ) → IsInSpans v spans ↔ ((s : Span) × (base ≡ Some s) × IsInSpan v s × IsKeptBy value domain v))

abbrev pub AreNamed : (ExprTree → Option ℤ) → (Place → Option ℤ) → Option EnumPlaces → Option DomainTree → List Span → Type 0
AreNamed value known enum domain spans = AreJoined spans × ((v : ℤ) → IsInSpans v spans ↔ ((e : EnumPlaces) × (enum ≡ Some e) × HasItem known e.items v × IsKeptBy value domain v))

-- the enum that a name stands for
abbrev pub enum_of_name : List Declaration → List EnumPlaces → Environment → TypeName → Option EnumPlaces
enum_of_name ds enums at name = option_and_then (λ d. enum_in enums d.name.place) (type_named ds at.component name)

-- joined spans that have the values of a type, by those of constants and items
abbrev pub AreTyped : (ExprTree → Option ℤ) → (Place → Option ℤ) → List Declaration → List EnumPlaces → Environment → TypeTree → List Span → Type 0
AreTyped value known ds enums at (TypePlain plain domain) spans = ArePlain value (base_span value plain) domain spans
AreTyped value known ds enums at (TypeNamed name domain) spans = AreNamed value known (enum_of_name ds enums at name) domain spans
