-- How the spans of enums are kept.
use Rattle.std.specs.Prelude.{◌≡◌, map}
use Rattle.std.specs.List.{AllZip}
use Rattle.pst_field_domains.specs.declared.table.EnumSpans.TheInside.{Inside}
use Rattle.pst_field_domains.specs.Kept.{IsRowOf}

-- each enum has its spans
pub record IsEnumTable (t : Inside) : Type 0 where
  pub places_are : t.places ≡ map (λ e. e.node.now.name.place) t.enums.now
  pub rows_are : AllZip (IsRowOf t.values.now) t.enums.now t.rows.items
