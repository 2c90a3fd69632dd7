use Rattle.std.proofs.Common.{◌≡◌, ◌++◌, drop}
use Rattle.pst_type_rules.specs.Members.{those_that}
use Rattle.pst_member_bases.specs.Grouped.{is_in_group, scopes_of}
use Rattle.pst_member_bases.proofs.groups.places_with.Given as goal

abbrev pub invariant-loop-declaration : goal.invariant-loop-declaration
invariant-loop-declaration l = l.places.items ++ scopes_of (those_that (is_in_group l.group) (drop l.declaration-index l.declarations)) ≡ l.initial.places.items ++ scopes_of (those_that (is_in_group l.group) l.declarations)
