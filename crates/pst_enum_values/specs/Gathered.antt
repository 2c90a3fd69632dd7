-- The values of the items of enums, by those that are known.
use Rattle.std.specs.Prelude.{◌≡◌, ℕ, ◌≤◌, ◌<◌, ℤ, ◌≤ℤ◌, int_le, Bool, ◌&&◌, List, ◌∷◌, map, length, Option, is_some, slice_index_or}
use Rattle.std.specs.List.{flat_map, list_all}
use Rattle.std.specs.List.Sorted.{IsPermutation}
use Rattle.std.specs.Option.{option_to_list}
use Rattle.pst_base.specs.declared.position.Place.{Place}
use Rattle.pst_ast.specs.DeclarationTree.{EnumTree, MakeEnum, EnumItemTree, MakeEnumItem}
use Rattle.pst_expr.specs.declared.ranges.Span.{Span}
use Rattle.pst_ast.specs.Declarations.{next_item}
use Rattle.pst_type_rules.specs.Enums.{DeclaredEnum}

-- ---- the places of the names of items

-- an enum by places: that of its name, and those of the names of its items
pub record EnumPlaces : Type 0 where
  pub name : Place
  pub items : List Place

abbrev pub enum_places : DeclaredEnum → EnumPlaces
enum_places e = record { name = e.name.place; items = map (λ i. i.name.place) e.items }

abbrev pub place_of_item : EnumItemTree → Place
place_of_item (MakeEnumItem name value) = name.place

abbrev pub places_in : EnumTree → List Place
places_in (MakeEnum word name left first rest right) = place_of_item first ∷ map place_of_item (map next_item rest)

-- ---- their values

-- those that have one, in their order
abbrev pub values_of : (Place → Option ℤ) → List Place → List ℤ
values_of known places = flat_map (λ p. option_to_list (known p)) places

-- each has one
abbrev pub are_known : (Place → Option ℤ) → List Place → Bool
are_known known places = list_all (λ p. is_some (known p)) places

-- ---- values that are kept

pub record EnumRow : Type 0 where
  pub known : Bool
  pub values : List ℤ

-- whether each item has a value, and the values in some order
pub record IsRow (known : Place → Option ℤ) (places : List Place) (row : EnumRow) : Type 0 where
  pub known_is : row.known ≡ are_known known places
  pub same : IsPermutation (values_of known places) row.values

abbrev pub is_inside : Span → ℤ → Bool
is_inside s v = int_le s.low v && int_le v s.high

abbrev pub IsAscending : List ℤ → Type 0
IsAscending values = (i j : ℕ) (d : ℤ) → i ≤ j → j < length values → slice_index_or values i d ≤ℤ slice_index_or values j d
