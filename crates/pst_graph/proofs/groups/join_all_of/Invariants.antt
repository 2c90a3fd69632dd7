use Rattle.std.proofs.Common.{◌≤◌, sum}
use Rattle.pst_graph.specs.Grouping.{AreMembers}
use Rattle.pst_graph.proofs.groups.join_all_of.Given as goal

abbrev pub invariant-loop-i : goal.invariant-loop-i
invariant-loop-i l = record { members : AreMembers l.scenario l.groups.items; less : sum l.groups.items ≤ sum l.initial.groups.items }
