-- Enum items that get their values one after another.
use Rattle.std.specs.Prelude.{◌≡◌, ◌↔◌, ℕ, ℤ, List, map, Option, Some, None, IsSome, slice_get, slice_index_or}
use Rattle.std.specs.List.{flat_map}
use Rattle.pst_base.specs.declared.position.Place.{Place}
use Rattle.pst_ast.specs.DeclarationTree.{UnitTree}
use Rattle.pst_ast.specs.DeclarationView.{view_unit}
use Rattle.pst_ast.specs.Declarations.{declarations}
use Rattle.pst_type_rules.specs.Constants.{IsItemValue}
use Rattle.pst_type_rules.specs.Enums.{enums}
use Rattle.pst_evaluate.specs.declared.item.ListedItem.{ListedItem}
use Rattle.pst_evaluate.specs.declared.sources.ItemSources.{ItemSources}
use Rattle.pst_evaluate.specs.Known.{item_value, known_by}
use Rattle.pst_evaluate.specs.Listed.{items_of, view_each, view_listed}

-- the items are those of the sources, and the rest is theirs
pub record AreListed (s : ItemSources) : Type 0 where
  pub declared : s.index.now ≡ declarations (map view_unit s.units.now)
  pub items : view_each s.items.now ≡ flat_map items_of (enums (map view_unit s.units.now))
  pub places : s.places.now ≡ map (λ i. i.name.place) s.items.now

-- what is known is what items have
abbrev pub AreItemValues : List UnitTree → List (List ℕ) → (Place → Option ℤ) → Type 0
AreItemValues units names known = (place : Place) (v : ℤ) → known place ≡ Some v ↔ IsItemValue units names place v

-- each value that is kept is that of its item
abbrev pub AreDerived : ItemSources → List (Option ℤ) → Type 0
AreDerived s values = (place : Place) (v : ℤ) → known_by s.places.now values place ≡ Some v → IsItemValue (map view_unit s.units.now) s.names.now place v

-- an item has that value by those that are kept
abbrev pub HasValueSoFar : ItemSources → List (Option ℤ) → ℕ → ℤ → Type 0
HasValueSoFar s values n v = (i : ListedItem) → slice_get s.items.now n ≡ Some i → item_value s.index.now s.names.now (known_by s.places.now values) (view_listed i) ≡ Some v

-- where an item has a value by those that are kept, it is kept
abbrev pub IsSettled : ItemSources → List (Option ℤ) → ℕ → Type 0
IsSettled s values n =
    (i : ListedItem) (v : ℤ) → slice_get s.items.now n ≡ Some i → item_value s.index.now s.names.now (known_by s.places.now values) (view_listed i) ≡ Some v → IsSome (slice_index_or values n None)

abbrev pub AreSettled : ItemSources → List (Option ℤ) → Type 0
AreSettled s values = (n : ℕ) → IsSettled s values n
