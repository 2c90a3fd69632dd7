use Rattle.std.proofs.Common.{◌≡◌, ◌+◌, ◌≤◌, drop}
use Rattle.pst_ast.specs.Uses.{branches_in}
use Rattle.pst_walk_parts.specs.Shown.{view_statements}
use Rattle.pst_use_rules.proofs.counts.count_of_branches.Given as goal

abbrev pub invariant-loop-statement : goal.invariant-loop-statement
invariant-loop-statement l = (l.count + branches_in (view_statements (drop l.statement-index l.statements)) ≡ branches_in (view_statements l.statements)) × (l.count ≤ l.statement-index)
