-- Facts about a source with handles, locals, binds and loops.
use Rattle.std.proofs.Common.{refl}
use Rattle.std.specs.Prelude.{◌≡◌, [], ◌∷◌, Some, None}
use Rattle.pst_ast.specs.Lookups.{Declared, Number}
use Rattle.pst_ast.specs.Paths.{Is, Breaks, read_path}
use Rattle.pst_ast.specs.Uses.{Assigns, Traverses, Ends, Joins, Calls, Binds, Targets}
use Rattle.pst_ast.specs.NameRules.{use_finding, DeclarationBreaks}
use Rattle.pst_ast.specs.Scopes.{numbers_of}
use Rattle.pst_ast.specs.Tried.{at, name}
use Rattle.pst_ast.specs.Lookups.{look_up, declared_at, base_of, member_of, item_at, value_named, type_of, traversed, stands_for}
use Rattle.pst_ast.specs.NameRules.{ToBase, AtOnce, Through, Loops, Inherits, Reserved}
use Rattle.pst_ast.specs.TriedMembers.{names, ds, env, behind_local, inline, inline_index, part, path, resource, buffer_field, reserved, one, field, input, claim, handle, counter, looped, looping}

pub field_of_handle : path env (part 15 50) (part 11 51 ∷ []) ≡ Is (record { before = Declared handle ∷ []; last = Declared field })
unfolding look_up declared_at base_of member_of item_at value_named type_of traversed stands_for read_path
field_of_handle = refl

pub field_of_its_input : path env (part 15 50) (part 12 51 ∷ part 6 52 ∷ []) ≡ Is (record { before = Declared handle ∷ Declared input ∷ []; last = Declared buffer_field })
unfolding look_up declared_at base_of member_of item_at value_named type_of traversed stands_for read_path
field_of_its_input = refl

pub number_of_its_claim : path env (part 15 50) (part 13 51 ∷ part 21 52 ∷ []) ≡ Is (record { before = Declared handle ∷ Declared claim ∷ []; last = Number resource })
unfolding look_up declared_at base_of member_of item_at value_named type_of traversed stands_for read_path
number_of_its_claim = refl

pub input_of_handle : path env (part 15 50) (part 12 51 ∷ []) ≡ Breaks (at 51) 6
unfolding look_up declared_at base_of member_of item_at value_named type_of traversed stands_for read_path
input_of_handle = refl

pub handle_of_handle : path env (part 16 50) (part 15 51 ∷ part 11 52 ∷ []) ≡ Breaks (at 51) 6
unfolding look_up declared_at base_of member_of item_at value_named type_of traversed stands_for read_path
handle_of_handle = refl

pub behind_a_field : path env (part 15 50) (part 11 51 ∷ part 6 52 ∷ []) ≡ Breaks (at 52) 6
unfolding look_up declared_at base_of member_of item_at value_named type_of traversed stands_for read_path
behind_a_field = refl

pub handle_alone : path env (part 15 50) [] ≡ Breaks (at 50) 3
unfolding look_up declared_at base_of member_of item_at value_named type_of traversed stands_for read_path
handle_alone = refl

pub no_instance_id_of_input : path env (part 15 50) (part 12 51 ∷ part 21 52 ∷ []) ≡ Breaks (at 52) 6
unfolding look_up declared_at base_of member_of item_at value_named type_of traversed stands_for read_path
no_instance_id_of_input = refl

pub traversed_field : path inline (part 11 50) [] ≡ Is (record { before = []; last = Declared field })
unfolding look_up declared_at base_of member_of item_at value_named type_of traversed stands_for read_path
traversed_field = refl

pub index_hides_no_handle : path inline_index (part 11 61) [] ≡ Is (record { before = []; last = Declared field })
unfolding look_up declared_at base_of member_of item_at value_named type_of traversed stands_for read_path
index_hides_no_handle = refl

pub still_a_handle : path inline (part 15 50) (part 11 51 ∷ []) ≡ Is (record { before = Declared handle ∷ []; last = Declared field })
unfolding look_up declared_at base_of member_of item_at value_named type_of traversed stands_for read_path
still_a_handle = refl

pub its_local : path behind_local (part 17 50) [] ≡ Is (record { before = []; last = Declared counter })
unfolding look_up declared_at base_of member_of item_at value_named type_of traversed stands_for read_path
its_local = refl

pub no_local_yet : path env (part 17 50) [] ≡ Breaks (at 50) 3
unfolding look_up declared_at base_of member_of item_at value_named type_of traversed stands_for read_path
no_local_yet = refl

pub assigns_local : use_finding ds names (Assigns behind_local (name 17 50)) ≡ None
unfolding look_up declared_at base_of member_of item_at value_named type_of traversed stands_for read_path
assigns_local = refl

pub assigns_nothing : use_finding ds names (Assigns env (name 22 50)) ≡ Some (record { place = at 50; rule = 3 })
unfolding look_up declared_at base_of member_of item_at value_named type_of traversed stands_for read_path
assigns_nothing = refl

pub traverses : use_finding ds names (Traverses env (name 15 50)) ≡ None
unfolding look_up declared_at base_of member_of item_at value_named type_of traversed stands_for read_path
traverses = refl

pub traverses_no_handle : use_finding ds names (Traverses inline (name 11 50)) ≡ Some (record { place = at 50; rule = 3 })
unfolding look_up declared_at base_of member_of item_at value_named type_of traversed stands_for read_path
traverses_no_handle = refl

pub an_end : use_finding ds names (Ends env (name 15 50) (name 12 51)) ≡ None
unfolding look_up declared_at base_of member_of item_at value_named type_of traversed stands_for read_path
an_end = refl

pub end_is_a_claim : use_finding ds names (Ends env (name 15 50) (name 13 51)) ≡ Some (record { place = at 51; rule = 6 })
unfolding look_up declared_at base_of member_of item_at value_named type_of traversed stands_for read_path
end_is_a_claim = refl

pub end_of_nothing : use_finding ds names (Ends env (name 22 50) (name 12 51)) ≡ Some (record { place = at 50; rule = 3 })
unfolding look_up declared_at base_of member_of item_at value_named type_of traversed stands_for read_path
end_of_nothing = refl

pub joins : use_finding ds names (Joins (record { 0 = 17 } ∷ []) (name 17 50)) ≡ None
unfolding look_up declared_at base_of member_of item_at value_named type_of traversed stands_for read_path
joins = refl

pub joins_nothing : use_finding ds names (Joins (record { 0 = 17 } ∷ []) (name 11 50)) ≡ Some (record { place = at 50; rule = 3 })
unfolding look_up declared_at base_of member_of item_at value_named type_of traversed stands_for read_path
joins_nothing = refl

pub calls : use_finding ds names (Calls (Some (at 10)) (name 20 50)) ≡ None
unfolding look_up declared_at base_of member_of item_at value_named type_of traversed stands_for read_path
calls = refl

pub calls_no_function : use_finding ds names (Calls (Some (at 10)) (name 10 50)) ≡ Some (record { place = at 50; rule = 3 })
unfolding look_up declared_at base_of member_of item_at value_named type_of traversed stands_for read_path
calls_no_function = refl

pub binds : use_finding ds names (Binds (at 10) (name 7 50)) ≡ None
unfolding look_up declared_at base_of member_of item_at value_named type_of traversed stands_for read_path
binds = refl

pub binds_no_pool : use_finding ds names (Binds (at 10) (name 8 50)) ≡ Some (record { place = at 50; rule = 3 })
unfolding look_up declared_at base_of member_of item_at value_named type_of traversed stands_for read_path
binds_no_pool = refl

pub a_target : use_finding ds names (Targets (at 10) (name 7 49) [] (name 10 50) (name 12 51)) ≡ None
unfolding look_up declared_at base_of member_of item_at value_named type_of traversed stands_for read_path
a_target = refl

pub no_reference : use_finding ds names (Targets (at 10) (name 7 49) [] (name 10 50) (name 11 51)) ≡ Some (record { place = at 51; rule = 3 })
unfolding look_up declared_at base_of member_of item_at value_named type_of traversed stands_for read_path
no_reference = refl

pub no_action_there : use_finding ds names (Targets (at 10) (name 7 49) (name 8 50 ∷ []) (name 10 51) (name 12 52)) ≡ Some (record { place = at 51; rule = 3 })
unfolding look_up declared_at base_of member_of item_at value_named type_of traversed stands_for read_path
no_action_there = refl

pub an_action_there : use_finding ds names (Targets (at 10) (name 7 49) (name 8 50 ∷ []) (name 2 51) (name 12 52)) ≡ Some (record { place = at 52; rule = 3 })
unfolding look_up declared_at base_of member_of item_at value_named type_of traversed stands_for read_path
an_action_there = refl

pub no_instance : use_finding ds names (Targets (at 10) (name 7 49) (name 7 50 ∷ []) (name 2 51) (name 12 52)) ≡ Some (record { place = at 50; rule = 3 })
unfolding look_up declared_at base_of member_of item_at value_named type_of traversed stands_for read_path
no_instance = refl

pub instance_of_no_component : use_finding ds names (Targets (at 10) (name 7 49) (name 9 50 ∷ []) (name 2 51) (name 12 52)) ≡ Some (record { place = at 51; rule = 3 })
unfolding look_up declared_at base_of member_of item_at value_named type_of traversed stands_for read_path
instance_of_no_component = refl

pub loops : DeclarationBreaks ds names looped 5
unfolding look_up declared_at base_of member_of item_at value_named type_of traversed stands_for read_path
loops = Loops (Through looped looping looped (ToBase looping refl) (AtOnce looping looped (ToBase looped refl)))

pub is_reserved : DeclarationBreaks ds names reserved 7
unfolding look_up declared_at base_of member_of item_at value_named type_of traversed stands_for read_path
is_reserved = Reserved refl

pub not_reserved : DeclarationBreaks ds names field 7 → ⊥
unfolding look_up declared_at base_of member_of item_at value_named type_of traversed stands_for read_path
not_reserved (Inherits h) = cc
not_reserved (Reserved h) = cc

pub of_local : numbers_of ds (Declared counter) ≡ Some (6, 3)
unfolding look_up declared_at base_of member_of item_at value_named type_of traversed stands_for read_path
of_local = refl

pub of_instance : numbers_of ds (Declared one) ≡ Some (2, 2)
unfolding look_up declared_at base_of member_of item_at value_named type_of traversed stands_for read_path
of_instance = refl
