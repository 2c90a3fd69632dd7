-- The binds of pools.
use Rattle.std.specs.Prelude.{List, [], ◌∷◌, Option, Some, None}
use Rattle.std.specs.List.{flat_map, filter_map}
use Rattle.pst_base.specs.declared.position.Place.{Place}
use Rattle.pst_ast.specs.declared.leaf.Name.{Name}
use Rattle.pst_ast.specs.DeclarationTree.{UnitTree, ItemTree, ItemComponent, MakeComponent, ComponentPartTree, ComponentPartPoolBind, MakePoolBind, TargetsAll}
use Rattle.pst_ast.specs.Uses.{Use, Targets, uses}
use Rattle.pst_type_rules.specs.Sites.{items_of}

-- A target of a bind in a component: instances that lead down from an instance of that component, an action type, and its reference or claim.
pub record ExplicitBind : Type 0 where
  pub component : Place
  pub pool : Name
  pub instances : List Name
  pub action : Name
  pub need : Name

-- a bind `*` in a component
pub record DefaultBind : Type 0 where
  pub component : Place
  pub pool : Name

-- ---- in the order of their text

abbrev pub explicit_of : Use → Option ExplicitBind
explicit_of (Targets component pool instances action reference) = Some (record { component = component; pool = pool; instances = instances; action = action; need = reference })
explicit_of _ = None

abbrev pub explicit_binds : List UnitTree → List ExplicitBind
explicit_binds units = filter_map explicit_of (uses units)

abbrev pub default_in_part : Place → ComponentPartTree → List DefaultBind
default_in_part component (ComponentPartPoolBind (MakePoolBind word pool (TargetsAll place) semicolon)) = record { component = component; pool = pool } ∷ []
default_in_part component _ = []

abbrev pub default_in_item : ItemTree → List DefaultBind
default_in_item (ItemComponent (MakeComponent word name left parts right)) = flat_map (default_in_part name.place) parts
default_in_item _ = []

abbrev pub default_binds : List UnitTree → List DefaultBind
default_binds units = flat_map default_in_item (flat_map items_of units)
