use Rattle.std.proofs.Common.{◌≡◌, ◌++◌, drop, map}
use Rattle.pst_ast.specs.Sorts.{is_handle}
use Rattle.pst_type_rules.specs.Members.{those_that}
use Rattle.pst_type_members.proofs.handles.handle_places.Given as goal

abbrev pub invariant-loop-declaration : goal.invariant-loop-declaration
invariant-loop-declaration l =
    l.places.items ++ map (λ d. d.name.place) (those_that is_handle (drop l.declaration-index l.declarations))
    ≡ map (λ d. d.name.place) (those_that is_handle l.declarations)
