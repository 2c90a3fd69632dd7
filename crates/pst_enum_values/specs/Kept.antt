-- The values of enums as they are found.
use Rattle.std.specs.Prelude.{ℤ, List, Option, Some, None}
use Rattle.std.specs.List.{find}
use Rattle.pst_base.specs.declared.position.Place.{Place}
use Rattle.pst_ast.specs.Sorts.{same_place}
use Rattle.pst_site_lists.specs.declared.site.EnumSite.{EnumSite}
use Rattle.pst_site_lists.specs.Sited.{view_enum_site}
use Rattle.pst_evaluate.specs.Kept as items
use Rattle.pst_enum_values.specs.Gathered.{EnumPlaces, EnumRow, IsRow, enum_places}

-- the enums, and what is kept of their items
pub record EnumsKept : Type 0 where
  pub enums : List EnumPlaces
  pub items : items.Kept

abbrev pub places_of_site : EnumSite → EnumPlaces
places_of_site e = enum_places (view_enum_site e)

-- the row is that of the enum
abbrev pub IsRowOf : items.Kept → EnumSite → EnumRow → Type 0
IsRowOf k e row = IsRow (items.known_in k) (places_of_site e).items row

-- the enum whose name stands at a place
abbrev pub enum_in : List EnumPlaces → Place → Option EnumPlaces
enum_in enums place = find (λ e. same_place e.name place) enums

-- what is found of an enum: its row, or nothing where there is no enum
abbrev pub IsFound : (Place → Option ℤ) → Option EnumPlaces → Option EnumRow → Type 0
IsFound known None None = Unit {0}
IsFound known None (Some row) = ⊥
IsFound known (Some e) None = ⊥
IsFound known (Some e) (Some row) = IsRow known e.items row

abbrev pub IsFoundRow : EnumsKept → Place → Option EnumRow → Type 0
IsFoundRow t place found = IsFound (items.known_in t.items) (enum_in t.enums place) found
