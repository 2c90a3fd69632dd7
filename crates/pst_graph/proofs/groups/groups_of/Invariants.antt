use Rattle.std.proofs.Common.{sum}
use Rattle.pst_graph.specs.Grouping.{AreMembers}
use Rattle.pst_graph.proofs.groups.groups_of.Given as goal

abbrev pub decreases-passes : goal.decreases-passes
decreases-passes l = sum l.groups.items

abbrev pub invariant-passes : goal.invariant-passes
invariant-passes l = AreMembers l.scenario l.groups.items
