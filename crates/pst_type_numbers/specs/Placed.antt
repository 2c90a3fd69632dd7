-- The types of one sort by the places of their names.
use Rattle.std.specs.Prelude.{◌≡◌, ℕ, Bool, List, length, map}
use Rattle.std.specs.Option.{option_map_or}
use Rattle.pst_base.specs.declared.position.Place.{Place}
use Rattle.pst_places.specs.Numbers.{number_in}
use Rattle.pst_ast.specs.declared.scope_declaration.Declaration.{Declaration}
use Rattle.pst_ast.specs.declared.scope_declaration.Sort.{Sort}
use Rattle.pst_ast.specs.Sorts.{is_action, is_object, is_function}
use Rattle.pst_type_rules.specs.Members.{those_that}
use Rattle.pst_type_numbers.specs.declared.places.TypeSort.{TypeSort}
use Rattle.pst_type_numbers.specs.declared.places.TypeSort.TheVariants as by
use Rattle.pst_type_numbers.specs.declared.places.TypePlaces.{TypePlaces}
use Rattle.pst_type_numbers.specs.declared.places.TypeTables.{TypeTables}

abbrev pub is_of : TypeSort → Sort → Bool
is_of by.Action s = is_action s
is_of by.Object s = is_object s
is_of by.Function s = is_function s

-- these are the places of the types of a sort
pub record ArePlaces (sort : TypeSort) (ds : List Declaration) (p : TypePlaces) : Type 0 where
  pub places : p.places ≡ map (λ d. d.name.place) (those_that (is_of sort) ds)
  pub counted : p.count ≡ length (those_that (is_of sort) ds)

-- these are the places of the types of each sort
pub record AreTables (ds : List Declaration) (t : TypeTables) : Type 0 where
  pub actions_are : ArePlaces by.Action ds t.actions
  pub objects_are : ArePlaces by.Object ds t.objects
  pub functions_are : ArePlaces by.Function ds t.functions

-- the number of the place of a declaration, or how many there are
abbrev pub number_or : List Place → ℕ → Declaration → ℕ
number_or places count d = option_map_or (λ n. n) (number_in places d.name.place) count
