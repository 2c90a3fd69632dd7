use Rattle.std.proofs.Common.{◌≡◌, drop}
use Rattle.std.specs.List.{list_any}
use Rattle.pst_ast.specs.Sorts.{same_name}
use Rattle.pst_step_parts.proofs.joins.is_among.Given as goal

abbrev pub invariant-loop-name : goal.invariant-loop-name
invariant-loop-name l = list_any (same_name l.label) (drop l.name-index l.names) ≡ list_any (same_name l.label) l.names
