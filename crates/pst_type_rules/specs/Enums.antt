-- The enums of the sources, and their items.
use Rattle.std.specs.Prelude.{List, [], ◌∷◌, map, Option, Some, None}
use Rattle.std.specs.List.{find, flat_map}
use Rattle.std.specs.Option.{option_map}
use Rattle.pst_base.specs.declared.position.Place.{Place}
use Rattle.pst_ast.specs.declared.leaf.Name.{Name}
use Rattle.pst_ast.specs.ExpressionTree.{ExprTree}
use Rattle.pst_ast.specs.DeclarationTree.{UnitTree, MakeUnit, ItemTree, ItemComponent, ItemEnum, MakeComponent, ComponentPartTree, ComponentPartEnum, EnumTree, MakeEnum, EnumItemTree, MakeEnumItem, EnumValueTree, MakeEnumValue}
use Rattle.pst_ast.specs.Declarations.{next_item}
use Rattle.pst_ast.specs.Sorts.{same_place}

-- an item, in the text of a component or at file level
pub record DeclaredItem : Type 0 where
  pub component : Option Place
  pub name : Name
  -- the item before it in its enum
  pub before : Option Name
  pub expr : Option ExprTree

pub record DeclaredEnum : Type 0 where
  pub name : Name
  pub items : List DeclaredItem

abbrev pub expr_in : EnumValueTree → ExprTree
expr_in (MakeEnumValue equal expr) = expr

abbrev pub items_behind : Option Place → Option Name → List EnumItemTree → List DeclaredItem
items_behind component before [] = []
items_behind component before (MakeEnumItem name value ∷ more) =
    record { component = component; name = name; before = before; expr = option_map expr_in value } ∷ items_behind component (Some name) more

abbrev pub enum_of : Option Place → EnumTree → DeclaredEnum
enum_of component (MakeEnum word name left first rest right) = record { name = name; items = items_behind component None (first ∷ map next_item rest) }

abbrev pub enums_in_part : Place → ComponentPartTree → List DeclaredEnum
enums_in_part component (ComponentPartEnum enum) = enum_of (Some component) enum ∷ []
enums_in_part component _ = []

abbrev pub enums_in_item : ItemTree → List DeclaredEnum
enums_in_item (ItemComponent (MakeComponent word name left parts right)) = flat_map (enums_in_part name.place) parts
enums_in_item (ItemEnum enum) = enum_of None enum ∷ []
enums_in_item _ = []

abbrev pub enums_in_unit : UnitTree → List DeclaredEnum
enums_in_unit (MakeUnit items finish) = flat_map enums_in_item items

-- in the order of their text
abbrev pub enums : List UnitTree → List DeclaredEnum
enums units = flat_map enums_in_unit units

-- ---- by the place of a name

unfoldable pub enum_at : List UnitTree → Place → Option DeclaredEnum
enum_at units place = find (λ e. same_place e.name.place place) (enums units)

unfoldable pub item_at : List UnitTree → Place → Option DeclaredItem
item_at units place = find (λ i. same_place i.name.place place) (flat_map (λ e. e.items) (enums units))
