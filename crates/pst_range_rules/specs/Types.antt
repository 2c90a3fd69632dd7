-- Types without values, by the values that constants and enum items have.
use Rattle.std.specs.Prelude.{nat_eq, ℤ, pos, negsuc, int_le, Bool, false, not, ◌&&◌, List, length, Option, Some, None, is_some, if◌then◌else◌}
use Rattle.std.specs.Int.{int_min, int_max}
use Rattle.std.specs.List.{list_all, list_any}
use Rattle.std.specs.Option.{option_and_then}
use Rattle.pst_base.specs.declared.position.Place.{Place}
use Rattle.pst_ast.specs.declared.shared.TypeName.{TypeName}
use Rattle.pst_ast.specs.ExpressionTree.{ExprTree}
use Rattle.pst_ast.specs.SharedTree.{WidthTree, PlainTree, PlainInt, PlainBit, PlainBool, DomainTree, TypePlain, TypeNamed}
use Rattle.pst_num.specs.Range.{least, greatest}
use Rattle.pst_expr.specs.declared.ranges.Span.{Span}
use Rattle.pst_ast.specs.declared.scope_declaration.Declaration.{Declaration}
use Rattle.pst_ast.specs.declared.referent.Finding.{Finding}
use Rattle.pst_ast.specs.Lookups.{type_named}
use Rattle.pst_ast.specs.NameRules.{finding}
use Rattle.pst_type_rules.specs.Domains.{span, signed_span, unsigned_span, ranges_behind}
use Rattle.pst_type_rules.specs.Places.{type_place}
use Rattle.pst_name_rules.specs.Earlier.{earlier}
use Rattle.pst_enum_values.specs.Gathered.{EnumPlaces, EnumRow, are_known, is_inside, values_of}
use Rattle.pst_enum_values.specs.Kept.{enum_in}
use Rattle.pst_range_rules.specs.declared.span.RangeSpan.{RangeSpan}
use Rattle.pst_range_rules.specs.Spans.{have_common, reversed_in, spans_of}
use Rattle.pst_range_rules.specs.Widths.{width_by}

-- ---- the values of a plain type

abbrev pub signed_of : ℤ → Option Span
signed_of (pos w) = Some (signed_span w)
signed_of (negsuc n) = None

abbrev pub unsigned_of : ℤ → Option Span
unsigned_of (pos w) = Some (unsigned_span w)
unsigned_of (negsuc n) = None

-- the span of a plain type
abbrev pub base_of_int : (ExprTree → Option ℤ) → Option WidthTree → Option Span
base_of_int value None = Some (signed_span 32)
base_of_int value (Some width) = option_and_then signed_of (width_by value width)

abbrev pub base_of_bit : (ExprTree → Option ℤ) → Option WidthTree → Option Span
base_of_bit value None = Some (unsigned_span 1)
base_of_bit value (Some width) = option_and_then unsigned_of (width_by value width)

abbrev pub base_span : (ExprTree → Option ℤ) → PlainTree → Option Span
base_span value (PlainInt place width) = base_of_int value width
base_span value (PlainBit place width) = base_of_bit value width
base_span value (PlainBool place) = Some (span (pos 0) (pos 1))

-- the values from -2^63 to 2^63 - 1 among those of a span
abbrev pub clamped : Span → Span
clamped s = span (int_max s.low least) (int_min s.high greatest)

-- ---- the values of an enum

abbrev pub enum_has : (Place → Option ℤ) → List Place → Span → Bool
enum_has known items s = list_any (is_inside s) (values_of known items)

-- ---- types without values

-- a range is known and not reversed, and none of the values is in it
abbrev pub misses : (Span → Bool) → Option Span → Bool
misses has None = false
misses has (Some s) = int_le s.low s.high && not (has s)

-- each range is so
abbrev pub keeps_nothing : (Span → Bool) → List RangeSpan → Bool
keeps_nothing has ranges = list_all (λ r. misses has r.span) ranges

abbrev pub is_empty_plain : Option Span → Bool → List RangeSpan → Bool
is_empty_plain None has_domain ranges = false
is_empty_plain (Some base) has_domain ranges = has_domain && keeps_nothing (have_common base) ranges

abbrev pub is_empty_enum : (Place → Option ℤ) → Option EnumPlaces → Bool → List RangeSpan → Bool
is_empty_enum known None has_domain ranges = false
is_empty_enum known (Some e) has_domain ranges =
    are_known known e.items && (if has_domain then keeps_nothing (enum_has known e.items) ranges else nat_eq (length (values_of known e.items)) 0)

-- the same by the values that are kept of an enum
abbrev pub row_has : EnumRow → Span → Bool
row_has row s = list_any (is_inside s) row.values

abbrev pub is_empty_row : EnumRow → Bool → List RangeSpan → Bool
is_empty_row row has_domain ranges = row.known && (if has_domain then keeps_nothing (row_has row) ranges else nat_eq (length row.values) 0)

-- rule 10 at a reversed range, or else at a type without values
abbrev pub type_by_ranges : List RangeSpan → Place → Bool → Option Finding
type_by_ranges ranges place empty = earlier (reversed_in ranges) (if empty then finding place 10 else None)

abbrev pub plain_type : (ExprTree → Option ℤ) → PlainTree → Option DomainTree → Option Finding
plain_type value plain domain =
    type_by_ranges (spans_of value (ranges_behind domain)) (type_place (TypePlain plain domain)) (is_empty_plain (base_span value plain) (is_some domain) (spans_of value (ranges_behind domain)))

-- the enum that a name stands for
abbrev pub enum_named : List Declaration → List EnumPlaces → Option Place → TypeName → Option EnumPlaces
enum_named ds enums component name = option_and_then (λ d. enum_in enums d.name.place) (type_named ds component name)

abbrev pub named_type : (ExprTree → Option ℤ) → (Place → Option ℤ) → Option EnumPlaces → TypeName → Option DomainTree → Option Finding
named_type value known enum name domain =
    type_by_ranges (spans_of value (ranges_behind domain)) (type_place (TypeNamed name domain)) (is_empty_enum known enum (is_some domain) (spans_of value (ranges_behind domain)))
