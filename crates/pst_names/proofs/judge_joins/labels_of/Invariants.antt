use Rattle.std.proofs.Common.{◌≡◌, ◌||◌, nat_eq, drop}
use Rattle.std.specs.HashSet.{contains}
use Rattle.std.specs.List.{list_any}
use Rattle.pst_base.specs.declared.table.NameId.{NameId}
use Rattle.pst_ast.specs.Sorts.{same_name}
use Rattle.pst_ast.specs.Uses.{labels_in}
use Rattle.pst_walk_parts.specs.Shown.{view_statements}
use Rattle.pst_names.proofs.judge_joins.labels_of.Given as goal

abbrev pub invariant-loop-statement : goal.invariant-loop-statement
invariant-loop-statement l =
    (name : NameId) → (contains nat_eq l.labels name.0 || list_any (same_name name) (labels_in (view_statements (drop l.statement-index l.statements)))) ≡ list_any (same_name name) (labels_in (view_statements l.statements))
