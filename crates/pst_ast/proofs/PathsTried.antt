-- Facts about paths with names behind dots, which compute.
use Rattle.std.proofs.Common.{refl}
use Rattle.std.specs.Prelude.{◌≡◌, [], ◌∷◌, Some, None}
use Rattle.pst_ast.specs.Lookups.{Declared, Number, look_up, declared_at, base_of, member_of, item_at, value_named, type_of, traversed, stands_for}
use Rattle.pst_ast.specs.Paths.{Is, Breaks, read_path}
use Rattle.pst_ast.specs.Uses.{Reads, NamesType, AnObject}
use Rattle.pst_ast.specs.NameRules.{use_finding}
use Rattle.pst_ast.specs.Scopes.{numbers_of}
use Rattle.pst_ast.specs.Tried.{at, type, indexed}
use Rattle.pst_ast.specs.TriedMembers.{names, env, part, handle}
use Rattle.pst_ast.specs.TriedPaths.{array, unknown, mistyped, ds, path, loop}

pub claim_indexed : path (part 15 50) (indexed 13 51 ∷ []) ≡ Breaks (at 51) 3
unfolding look_up declared_at base_of member_of item_at value_named type_of traversed stands_for read_path
claim_indexed = refl

pub reference_indexed : path (part 15 50) (indexed 12 51 ∷ []) ≡ Breaks (at 51) 3
unfolding look_up declared_at base_of member_of item_at value_named type_of traversed stands_for read_path
reference_indexed = refl

pub constraint_indexed : path (part 15 50) (indexed 25 51 ∷ []) ≡ Breaks (at 51) 3
unfolding look_up declared_at base_of member_of item_at value_named type_of traversed stands_for read_path
constraint_indexed = refl

pub field_indexed : path (part 15 50) (indexed 11 51 ∷ []) ≡ Breaks (at 51) 3
unfolding look_up declared_at base_of member_of item_at value_named type_of traversed stands_for read_path
field_indexed = refl

pub number_indexed : path (part 15 50) (part 13 51 ∷ indexed 21 52 ∷ []) ≡ Breaks (at 52) 3
unfolding look_up declared_at base_of member_of item_at value_named type_of traversed stands_for read_path
number_indexed = refl

pub nothing_indexed : path (part 15 50) (indexed 22 51 ∷ []) ≡ Breaks (at 51) 6
unfolding look_up declared_at base_of member_of item_at value_named type_of traversed stands_for read_path
nothing_indexed = refl

pub claim_last : path (part 15 50) (part 13 51 ∷ []) ≡ Breaks (at 51) 6
unfolding look_up declared_at base_of member_of item_at value_named type_of traversed stands_for read_path
claim_last = refl

pub constraint_last : path (part 15 50) (part 25 51 ∷ []) ≡ Breaks (at 51) 6
unfolding look_up declared_at base_of member_of item_at value_named type_of traversed stands_for read_path
constraint_last = refl

pub array_last : path (part 15 50) (part 24 51 ∷ []) ≡ Breaks (at 51) 3
unfolding look_up declared_at base_of member_of item_at value_named type_of traversed stands_for read_path
array_last = refl

pub element_last : path (part 15 50) (indexed 24 51 ∷ []) ≡ Is (record { before = Declared handle ∷ []; last = Declared array })
unfolding look_up declared_at base_of member_of item_at value_named type_of traversed stands_for read_path
element_last = refl

pub claim_repeats : loop (part 15 50) (part 13 51 ∷ []) ≡ Breaks (at 51) 3
unfolding look_up declared_at base_of member_of item_at value_named type_of traversed stands_for read_path
claim_repeats = refl

pub reference_repeats : loop (part 15 50) (part 12 51 ∷ []) ≡ Breaks (at 51) 3
unfolding look_up declared_at base_of member_of item_at value_named type_of traversed stands_for read_path
reference_repeats = refl

pub constraint_repeats : loop (part 15 50) (part 25 51 ∷ []) ≡ Breaks (at 51) 3
unfolding look_up declared_at base_of member_of item_at value_named type_of traversed stands_for read_path
constraint_repeats = refl

pub field_repeats : loop (part 15 50) (part 11 51 ∷ []) ≡ Breaks (at 51) 3
unfolding look_up declared_at base_of member_of item_at value_named type_of traversed stands_for read_path
field_repeats = refl

pub number_repeats : loop (part 15 50) (part 13 51 ∷ part 21 52 ∷ []) ≡ Breaks (at 52) 3
unfolding look_up declared_at base_of member_of item_at value_named type_of traversed stands_for read_path
number_repeats = refl

pub nothing_repeats : loop (part 15 50) (part 22 51 ∷ []) ≡ Breaks (at 51) 6
unfolding look_up declared_at base_of member_of item_at value_named type_of traversed stands_for read_path
nothing_repeats = refl

pub array_repeats : loop (part 15 50) (part 24 51 ∷ []) ≡ Is (record { before = Declared handle ∷ []; last = Declared array })
unfolding look_up declared_at base_of member_of item_at value_named type_of traversed stands_for read_path
array_repeats = refl

pub claim_indexed_between : path (part 15 50) (indexed 13 51 ∷ part 4 52 ∷ []) ≡ Breaks (at 51) 3
unfolding look_up declared_at base_of member_of item_at value_named type_of traversed stands_for read_path
claim_indexed_between = refl

pub constraint_indexed_between : path (part 15 50) (indexed 25 51 ∷ part 4 52 ∷ []) ≡ Breaks (at 51) 3
unfolding look_up declared_at base_of member_of item_at value_named type_of traversed stands_for read_path
constraint_indexed_between = refl

pub nothing_indexed_between : path (part 15 50) (indexed 22 51 ∷ part 4 52 ∷ []) ≡ Breaks (at 51) 6
unfolding look_up declared_at base_of member_of item_at value_named type_of traversed stands_for read_path
nothing_indexed_between = refl

pub constraint_between : path (part 15 50) (part 25 51 ∷ part 4 52 ∷ []) ≡ Breaks (at 51) 6
unfolding look_up declared_at base_of member_of item_at value_named type_of traversed stands_for read_path
constraint_between = refl

pub array_between : path (part 15 50) (part 24 51 ∷ part 4 52 ∷ []) ≡ Breaks (at 51) 3
unfolding look_up declared_at base_of member_of item_at value_named type_of traversed stands_for read_path
array_between = refl

pub element_between : path (part 15 50) (indexed 24 51 ∷ part 4 52 ∷ []) ≡ Breaks (at 52) 6
unfolding look_up declared_at base_of member_of item_at value_named type_of traversed stands_for read_path
element_between = refl

pub number_between : path (part 15 50) (part 13 51 ∷ part 21 52 ∷ part 4 53 ∷ []) ≡ Breaks (at 53) 6
unfolding look_up declared_at base_of member_of item_at value_named type_of traversed stands_for read_path
number_between = refl

pub handle_indexed_first : path (indexed 15 50) (part 11 51 ∷ []) ≡ Breaks (at 50) 3
unfolding look_up declared_at base_of member_of item_at value_named type_of traversed stands_for read_path
handle_indexed_first = refl

pub number_of_unknown : path (part 15 50) (part 26 51 ∷ part 21 52 ∷ []) ≡ Is (record { before = Declared handle ∷ Declared unknown ∷ []; last = Number unknown })
unfolding look_up declared_at base_of member_of item_at value_named type_of traversed stands_for read_path
number_of_unknown = refl

pub number_of_mistyped : path (part 27 50) (part 21 51 ∷ []) ≡ Is (record { before = Declared mistyped ∷ []; last = Number mistyped })
unfolding look_up declared_at base_of member_of item_at value_named type_of traversed stands_for read_path
number_of_mistyped = refl

pub number_breaks_nothing : use_finding ds names (Reads env (part 27 50) (part 21 51 ∷ [])) ≡ None
unfolding look_up declared_at base_of member_of item_at value_named type_of traversed stands_for read_path
number_breaks_nothing = refl

pub type_breaks : use_finding ds names (NamesType (Some (at 10)) AnObject (type 10 44)) ≡ Some (record { place = at 44; rule = 2 })
unfolding look_up declared_at base_of member_of item_at value_named type_of traversed stands_for read_path
type_breaks = refl

pub number_of_mistyped_indexed : path (part 27 50) (indexed 21 51 ∷ []) ≡ Breaks (at 51) 3
unfolding look_up declared_at base_of member_of item_at value_named type_of traversed stands_for read_path
number_of_mistyped_indexed = refl

pub number_of_mistyped_between : path (part 27 50) (part 21 51 ∷ part 4 52 ∷ []) ≡ Breaks (at 52) 6
unfolding look_up declared_at base_of member_of item_at value_named type_of traversed stands_for read_path
number_of_mistyped_between = refl

pub field_of_mistyped : path (part 27 50) (part 4 51 ∷ []) ≡ Breaks (at 51) 6
unfolding look_up declared_at base_of member_of item_at value_named type_of traversed stands_for read_path
field_of_mistyped = refl

pub no_meaning : numbers_of ds (Number mistyped) ≡ None
unfolding look_up declared_at base_of member_of item_at value_named type_of traversed stands_for read_path
no_meaning = refl
