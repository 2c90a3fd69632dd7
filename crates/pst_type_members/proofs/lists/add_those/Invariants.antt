use Rattle.std.proofs.Common.{◌≡◌, ◌++◌, drop}
use Rattle.pst_type_rules.specs.Members.{those_that}
use Rattle.pst_type_members.specs.Listed.{is_of}
use Rattle.pst_type_members.proofs.lists.add_those.Given as goal

abbrev pub invariant-loop-declaration : goal.invariant-loop-declaration
invariant-loop-declaration l = l.found.items ++ those_that (is_of l.by) (drop l.declaration-index l.declarations) ≡ l.initial.found.items ++ those_that (is_of l.by) l.declarations
