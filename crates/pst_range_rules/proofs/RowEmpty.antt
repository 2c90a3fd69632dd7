-- Types without values, by the rows of their enums.
use Rattle.std.proofs.Common.{◌≡◌, ℤ, Bool, true, false, not, ◌&&◌, List, [], ◌∷◌, length, nat_eq, Option, refl, sym, ap, ◌∙◌}
use Rattle.std.specs.Prelude.{int_le, Some, None}
use Rattle.std.proofs.lemmas.List.Sorted.{length_permutation, list_any-IsPermutation}
use Rattle.pst_base.specs.declared.position.Place.{Place}
use Rattle.pst_expr.specs.declared.ranges.Span.{Span}
use Rattle.pst_enum_values.specs.Gathered.{EnumPlaces, EnumRow, IsRow, are_known, is_inside, values_of}
use Rattle.pst_enum_values.specs.Kept.{IsFound}
use Rattle.pst_range_rules.specs.declared.span.RangeSpan.{RangeSpan}
use Rattle.pst_range_rules.specs.Types.{enum_has, is_empty_enum, is_empty_row, keeps_nothing, misses, row_has}

module _ (f g : Span → Bool) (same : (s : Span) → f s ≡ g s) where
  misses_same : (o : Option Span) → misses f o ≡ misses g o
  misses_same None = refl
  misses_same (Some s) = ap (λ (b : Bool). int_le s.low s.high && not b) (same s)

  keeps_same : (ranges : List RangeSpan) → keeps_nothing f ranges ≡ keeps_nothing g ranges
  keeps_same [] = refl
  keeps_same (r ∷ more) = ap (λ (b : Bool). b && keeps_nothing f more) (misses_same r.span) ∙ ap (λ (b : Bool). misses g r.span && b) (keeps_same more)

module _ (known : Place → Option ℤ) (e : EnumPlaces) (row : EnumRow) (is : IsRow known e.items row) (ranges : List RangeSpan) where
  same_has : (s : Span) → row_has row s ≡ enum_has known e.items s
  same_has s = sym (list_any-IsPermutation (is_inside s) (values_of known e.items) row.values is.same)

  row_by : (has_domain : Bool) → is_empty_row row has_domain ranges ≡ is_empty_enum known (Some e) has_domain ranges
  row_by true =
      ap (λ (b : Bool). b && keeps_nothing (row_has row) ranges) is.known_is ∙ ap (λ (b : Bool). are_known known e.items && b) (keeps_same (row_has row) (enum_has known e.items) same_has ranges)
  row_by false =
      ap (λ (b : Bool). b && nat_eq (length row.values) 0) is.known_is ∙ ap (λ (n : _). are_known known e.items && nat_eq n 0) (length_permutation (values_of known e.items) row.values is.same)

pub row_empty : (known : Place → Option ℤ) (e : Option EnumPlaces) (row : EnumRow) (has_domain : Bool) (ranges : List RangeSpan) → IsFound known e (Some row)
    → is_empty_row row has_domain ranges ≡ is_empty_enum known e has_domain ranges
row_empty known None row has_domain ranges found = absurd found
row_empty known (Some e) row has_domain ranges found = row_by known e row found ranges has_domain
