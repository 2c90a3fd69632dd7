-- What the items of an enum break, given the values of items.
use Rattle.std.specs.Prelude.{ℤ, pos, int_lt, Bool, false, ◌&&◌, ◌||◌, not, List, [], ◌∷◌, map, Option, Some, None, is_some, if◌then◌else◌}
use Rattle.std.specs.Option.{option_map_or}
use Rattle.std.specs.Ordering.{int_eq}
use Rattle.pst_base.specs.declared.position.Place.{Place}
use Rattle.pst_ast.specs.DeclarationTree.{EnumTree, MakeEnum, EnumItemTree, MakeEnumItem, EnumValueTree}
use Rattle.pst_ast.specs.declared.referent.Finding.{Finding}
use Rattle.pst_ast.specs.Declarations.{next_item}
use Rattle.pst_ast.specs.NameRules.{finding}
use Rattle.pst_type_rules.specs.Enums.{expr_in}
use Rattle.pst_type_rules.specs.Places.{expr_place}
use Rattle.pst_name_rules.specs.Earlier.{earlier}

-- it is that value
abbrev pub is_value : Option ℤ → ℤ → Bool
is_value None v = false
is_value (Some w) v = int_eq v w

-- it is a value, and none that an enum item may have
abbrev pub is_outside : Option ℤ → Bool
is_outside None = false
is_outside (Some v) = int_lt v (pos 0) || int_lt (pos 2147483647) v

abbrev pub place_of_value : Place → Option EnumValueTree → Place
place_of_value name None = name
place_of_value name (Some value) = expr_place (expr_in value)

-- the place of an item's expression, or of its name where it has none
abbrev pub place_of_tree : EnumItemTree → Place
place_of_tree (MakeEnumItem name value) = place_of_value name.place value

abbrev pub has_value : EnumItemTree → Bool
has_value (MakeEnumItem name value) = is_some value

-- what an item breaks, given its value, and whether one before it has the same
abbrev pub tree_finding : Option ℤ → Bool → EnumItemTree → Option Finding
tree_finding value repeated item = if repeated || (not (has_value item) && is_outside value) then finding (place_of_tree item) 12 else None

abbrev pub name_place : EnumItemTree → Place
name_place (MakeEnumItem name value) = name.place

-- an item whose value may be one of those that have been seen
abbrev pub seen_finding : (Place → Option ℤ) → (ℤ → Bool) → EnumItemTree → Option Finding
seen_finding known seen item = tree_finding (known (name_place item)) (option_map_or seen (known (name_place item)) false) item

-- the least of what was found before and what items break, where some values have been seen
abbrev pub least_of_items : (Place → Option ℤ) → (ℤ → Bool) → Option Finding → List EnumItemTree → Option Finding
least_of_items known seen least [] = least
least_of_items known seen least (item ∷ more) =
    least_of_items known (λ v. is_value (known (name_place item)) v || seen v) (earlier least (seen_finding known seen item)) more

-- the least of what the items of an enum break
abbrev pub enum_least : (Place → Option ℤ) → EnumTree → Option Finding
enum_least known (MakeEnum word name left first rest right) = least_of_items known (λ v. false) None (first ∷ map next_item rest)
