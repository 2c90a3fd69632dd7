use Rattle.std.proofs.Common.{◌≡◌, ◌++◌, drop}
use Rattle.pst_ast.specs.Sorts.{is_action}
use Rattle.pst_type_rules.specs.Members.{those_that}
use Rattle.pst_source_rules.proofs.root.actions_in.Given as goal

abbrev pub invariant-loop-declaration : goal.invariant-loop-declaration
invariant-loop-declaration l = l.actions.items ++ those_that is_action (drop l.declaration-index l.declarations) ≡ those_that is_action l.declarations
