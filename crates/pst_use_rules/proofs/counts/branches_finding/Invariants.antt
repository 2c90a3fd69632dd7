use Rattle.std.proofs.Common.{◌≡◌, ◌≤◌, drop}
use Rattle.std.specs.Prelude.{slice_get}
use Rattle.pst_model.specs.Limits.{most_branches}
use Rattle.pst_ast.specs.Uses.{branch_places}
use Rattle.pst_walk_parts.specs.Shown.{view_statements}
use Rattle.pst_use_rules.proofs.counts.branches_finding.Given as goal

abbrev pub invariant-loop-statement : goal.invariant-loop-statement
invariant-loop-statement l = slice_get (branch_places (view_statements (drop l.statement-index l.statements))) l.left ≡ slice_get (branch_places (view_statements l.statements)) most_branches
