use Rattle.std.proofs.Common.{◌≡◌, ◌++◌, drop, map}
use Rattle.pst_type_rules.specs.Members.{those_that}
use Rattle.pst_type_numbers.specs.Placed.{is_of}
use Rattle.pst_type_numbers.proofs.places.list_places.Given as goal

abbrev pub invariant-loop-declaration : goal.invariant-loop-declaration
invariant-loop-declaration l =
    l.places.items ++ map (λ d. d.name.place) (those_that (is_of l.by) (drop l.declaration-index l.declarations))
    ≡ map (λ d. d.name.place) (those_that (is_of l.by) l.declarations)
