use Rattle.std.proofs.Common.{ℕ, List, subst}
use Rattle.pst_graph.specs.Grouping.{IsApart}
use Rattle.pst_graph.proofs.Grouped.{lowered_members}
use Rattle.pst_graph.proofs.groups.join_by.Goals as goal

pub returns-clause-members : goal.returns-clause-members
returns-clause-members c =
    let apart = subst (λ (g : List ℕ). IsApart c.args.scenario.now g c.in-Some.high c.in-Some.low) c.deref.ensures.value c.in-Some.ensures in
    lowered_members c.args.scenario.now c.args.groups.now.items c.lower.new.groups.items c.in-Some.high c.in-Some.low c.requires.members apart
    c.lower.ensures.many c.lower.ensures.at c.lower.ensures.others
