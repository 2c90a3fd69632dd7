use Rattle.std.proofs.Common.{◌≡◌, ◌++◌, drop}
use Rattle.std.specs.Prelude.{not}
use Rattle.std.specs.List.{filter}
use Rattle.pst_ast.specs.Sorts.{same_name}
use Rattle.pst_step_parts.proofs.joins.without.Given as goal

abbrev pub invariant-loop-name : goal.invariant-loop-name
invariant-loop-name l = l.left.items ++ filter (λ n. not (same_name l.label n)) (drop l.name-index l.names) ≡ filter (λ n. not (same_name l.label n)) l.names
