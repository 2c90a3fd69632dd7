-- Facts about a small source, which compute.
use Rattle.std.proofs.Common.{refl}
use Rattle.std.specs.Prelude.{◌≡◌, ◌-◌, ◌^◌, [], ◌∷◌, map, true, false, Some, None}
use Rattle.pst_ast.specs.declared.scope_declaration.Scope.TheVariants.{Part}
use Rattle.pst_ast.specs.Lookups.{Declared, Initial, Previous, ByType}
use Rattle.pst_ast.specs.Paths.{Is, Breaks, is_array, read_path}
use Rattle.pst_ast.specs.Uses.{NamesBase, NamesType, TakesItem, AnObject}
use Rattle.pst_ast.specs.NameRules.{use_finding, is_in_base, is_declared_before}
use Rattle.pst_ast.specs.Scopes.{entries, numbers_of}
use Rattle.pst_ast.specs.Lookups.{look_up, declared_at, base_of, member_of, item_at, value_named, type_of, traversed, stands_for}
use Rattle.pst_ast.specs.Tried.{at, name, type, names, state, its_field, action, input, array, derived, own_field, ds, inside, in_state, part, indexed, path}

pub field_of_input : path (inside action) (part 4 50) (part 2 51 ∷ []) ≡ Is (record { before = Declared input ∷ []; last = Declared its_field })
unfolding look_up declared_at base_of member_of item_at value_named type_of traversed stands_for read_path
field_of_input = refl

pub behind_a_value : path (inside action) (part 4 50) (part 2 51 ∷ part 8 52 ∷ []) ≡ Breaks (at 52) 6
unfolding look_up declared_at base_of member_of item_at value_named type_of traversed stands_for read_path
behind_a_value = refl

pub initial_of_input : path (inside action) (part 4 50) (part 6 51 ∷ []) ≡ Is (record { before = Declared input ∷ []; last = Initial state })
unfolding look_up declared_at base_of member_of item_at value_named type_of traversed stands_for read_path
initial_of_input = refl

pub behind_initial : path (inside action) (part 4 50) (part 6 51 ∷ part 8 52 ∷ []) ≡ Breaks (at 52) 6
unfolding look_up declared_at base_of member_of item_at value_named type_of traversed stands_for read_path
behind_initial = refl

pub no_prev_of_input : path (inside action) (part 4 50) (part 7 51 ∷ []) ≡ Breaks (at 51) 6
unfolding look_up declared_at base_of member_of item_at value_named type_of traversed stands_for read_path
no_prev_of_input = refl

pub no_such_field : path (inside action) (part 4 50) (part 8 51 ∷ []) ≡ Breaks (at 51) 6
unfolding look_up declared_at base_of member_of item_at value_named type_of traversed stands_for read_path
no_such_field = refl

pub nothing : path (inside action) (part 8 50) [] ≡ Breaks (at 50) 3
unfolding look_up declared_at base_of member_of item_at value_named type_of traversed stands_for read_path
nothing = refl

pub input_alone : path (inside action) (part 4 50) [] ≡ Breaks (at 50) 3
unfolding look_up declared_at base_of member_of item_at value_named type_of traversed stands_for read_path
input_alone = refl

pub array_alone : path (inside action) (part 5 50) [] ≡ Breaks (at 50) 3
unfolding look_up declared_at base_of member_of item_at value_named type_of traversed stands_for read_path
array_alone = refl

pub element : path (inside action) (indexed 5 50) [] ≡ Is (record { before = []; last = Declared array })
unfolding look_up declared_at base_of member_of item_at value_named type_of traversed stands_for read_path
element = refl

pub field_before_a_dot : path (inside action) (indexed 5 50) (part 2 51 ∷ []) ≡ Breaks (at 50) 3
unfolding look_up declared_at base_of member_of item_at value_named type_of traversed stands_for read_path
field_before_a_dot = refl

pub index_behind_a_field : path (inside action) (part 4 50) (indexed 2 51 ∷ []) ≡ Breaks (at 51) 3
unfolding look_up declared_at base_of member_of item_at value_named type_of traversed stands_for read_path
index_behind_a_field = refl

pub array_repeats : read_path ds names (inside action) is_array (part 5 50) [] ≡ Is (record { before = []; last = Declared array })
unfolding look_up declared_at base_of member_of item_at value_named type_of traversed stands_for read_path
array_repeats = refl

pub input_repeats : read_path ds names (inside action) is_array (part 4 50) [] ≡ Breaks (at 50) 3
unfolding look_up declared_at base_of member_of item_at value_named type_of traversed stands_for read_path
input_repeats = refl

pub from_base : path (inside derived) (part 4 50) (part 2 51 ∷ []) ≡ Is (record { before = Declared input ∷ []; last = Declared its_field })
unfolding look_up declared_at base_of member_of item_at value_named type_of traversed stands_for read_path
from_base = refl

pub own : path (inside derived) (part 2 50) [] ≡ Is (record { before = []; last = Declared own_field })
unfolding look_up declared_at base_of member_of item_at value_named type_of traversed stands_for read_path
own = refl

pub first_object : path in_state (part 6 50) [] ≡ Is (record { before = []; last = Initial state })
unfolding look_up declared_at base_of member_of item_at value_named type_of traversed stands_for read_path
first_object = refl

pub field_of_prev : path in_state (part 7 50) (part 2 51 ∷ []) ≡ Is (record { before = Previous state ∷ []; last = Declared its_field })
unfolding look_up declared_at base_of member_of item_at value_named type_of traversed stands_for read_path
field_of_prev = refl

pub prev_alone : path in_state (part 7 50) [] ≡ Breaks (at 50) 3
unfolding look_up declared_at base_of member_of item_at value_named type_of traversed stands_for read_path
prev_alone = refl

pub of_traversed : path (record (inside action) { traversal = Some (ByType (type 9 49)) }) (part 2 50) [] ≡ Is (record { before = []; last = Declared own_field })
unfolding look_up declared_at base_of member_of item_at value_named type_of traversed stands_for read_path
of_traversed = refl

pub two_items : path (inside action) (part 12 50) [] ≡ Breaks (at 50) 4
unfolding look_up declared_at base_of member_of item_at value_named type_of traversed stands_for read_path
two_items = refl

pub with_enum : use_finding ds names (TakesItem (inside action) None (name 11 50) (name 12 51)) ≡ None
unfolding look_up declared_at base_of member_of item_at value_named type_of traversed stands_for read_path
with_enum = refl

pub no_enum : use_finding ds names (TakesItem (inside action) None (name 3 50) (name 12 51)) ≡ Some (record { place = at 50; rule = 2 })
unfolding look_up declared_at base_of member_of item_at value_named type_of traversed stands_for read_path
no_enum = refl

pub no_item : use_finding ds names (TakesItem (inside action) None (name 11 50) (name 8 51)) ≡ Some (record { place = at 51; rule = 3 })
unfolding look_up declared_at base_of member_of item_at value_named type_of traversed stands_for read_path
no_item = refl

pub a_state : use_finding ds names (NamesType (Some (at 1)) AnObject (type 1 50)) ≡ None
unfolding look_up declared_at base_of member_of item_at value_named type_of traversed stands_for read_path
a_state = refl

pub no_object : use_finding ds names (NamesType (Some (at 1)) AnObject (type 3 50)) ≡ Some (record { place = at 50; rule = 2 })
unfolding look_up declared_at base_of member_of item_at value_named type_of traversed stands_for read_path
no_object = refl

pub a_base : use_finding ds names (NamesBase derived (type 3 25)) ≡ None
unfolding look_up declared_at base_of member_of item_at value_named type_of traversed stands_for read_path
a_base = refl

pub not_in_base : is_in_base ds own_field ≡ false
unfolding look_up declared_at base_of member_of item_at value_named type_of traversed stands_for read_path
not_in_base = refl

pub once : is_declared_before ds own_field ≡ false
unfolding look_up declared_at base_of member_of item_at value_named type_of traversed stands_for read_path
once = refl

pub twice : is_declared_before ds (record own_field { scope = Part (at 20); name = name 5 60 }) ≡ true
unfolding look_up declared_at base_of member_of item_at value_named type_of traversed stands_for read_path
twice = refl

pub types : map (λ e. e.place) (entries ds) ≡ at 1 ∷ at 10 ∷ at 20 ∷ at 24 ∷ at 30 ∷ at 32 ∷ []
unfolding look_up declared_at base_of member_of item_at value_named type_of traversed stands_for read_path
types = refl

pub of_array : numbers_of ds (Declared array) ≡ Some (2, 2)
unfolding look_up declared_at base_of member_of item_at value_named type_of traversed stands_for read_path
of_array = refl

pub of_derived : numbers_of ds (Declared derived) ≡ Some (3, 0)
unfolding look_up declared_at base_of member_of item_at value_named type_of traversed stands_for read_path
of_derived = refl

pub of_initial : numbers_of ds (Initial state) ≡ Some (1, 2 ^ 32 - 1)
unfolding look_up declared_at base_of member_of item_at value_named type_of traversed stands_for read_path
of_initial = refl
