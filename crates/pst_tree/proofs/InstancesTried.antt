-- Facts about the instances of small sources.
use Rattle.std.proofs.Common.{◌≡◌, refl}
use Rattle.std.specs.Prelude.{ℕ, List, [], ◌∷◌, length, Some}
use Rattle.std.specs.Option.{option_map}
use Rattle.pst_ast.specs.DeclarationTree.{UnitTree}
use Rattle.pst_ast.specs.Lookups.{look_up, declared_at, type_of}
use Rattle.pst_tree.specs.Instances.{AreInstances}
use Rattle.pst_tree.specs.Steps.{instances_within}
use Rattle.pst_tree.specs.Tried.{names, unit, leaf, pair, top, nested, large, one_c7, one_c0, HasInstances}
use Rattle.pst_tree.proofs.Found.{instances_found, map_gave}

pub nested_instances : AreInstances (unit (leaf ∷ pair ∷ top ∷ []) ∷ []) names nested
unfolding look_up declared_at type_of
nested_instances = instances_found 3 _ _ _ refl

pub in_two_files : AreInstances (unit (top ∷ []) ∷ unit (pair ∷ leaf ∷ []) ∷ []) names nested
unfolding look_up declared_at type_of
in_two_files = instances_found 3 _ _ _ refl

counted : (depth : ℕ) (units : List UnitTree) (names : List (List ℕ)) (count : ℕ) → option_map length (instances_within depth units names) ≡ Some count → HasInstances units names count
counted depth units names count e =
    let found = map_gave length (instances_within depth units names) count e in
    record { instances = found.0; are = instances_found depth units names found.0 found.1; counted = found.2 }

pub at_the_limit : HasInstances (large (one_c7 ∷ []) ∷ []) names 256
unfolding look_up declared_at type_of
at_the_limit = counted 9 _ _ 256 refl

pub one_too_many : HasInstances (large (one_c7 ∷ one_c0 ∷ []) ∷ []) names 257
unfolding look_up declared_at type_of
one_too_many = counted 9 _ _ 257 refl
