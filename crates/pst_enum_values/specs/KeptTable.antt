-- How the values of all enums are kept.
use Rattle.std.specs.Prelude.{◌≡◌, map}
use Rattle.std.specs.List.{AllZip}
use Rattle.pst_enum_values.specs.Kept.{IsRowOf}
use Rattle.pst_enum_values.specs.declared.table.EnumTable.TheInside.{Inside}

-- each enum has its row
pub record IsEnumTable (t : Inside) : Type 0 where
  pub places_are : t.places ≡ map (λ e. e.node.now.name.place) t.enums.now
  pub rows_are : AllZip (IsRowOf t.values.now) t.enums.now t.rows.items
