use Rattle.std.proofs.Common.{◌<◌, arith}
use Rattle.std.proofs.lemmas.Bool.Decides.{nat_tests}
use Rattle.pst_scen.specs.Refusals.{IsParallelOrdered}
use Rattle.pst_graph.proofs.Least.{least_pair, none_at}
use Rattle.pst_graph.proofs.Refused.{parallel_in}
use Rattle.pst_graph.proofs.refusals.find_parallel_order.Goals as goal

pub returns : goal.returns
returns c = λ a b h.
    let a_in = (parallel_in c.args.scenario.now c.args.plan.now c.requires.linked c.requires.entries a b h.parallel).0 in
    let below : a < c.loop-a.a = grind (arith, nat_tests, a_in, c.len-a-end.ensures.is, c.requires.entries.many, c.loop-a-test.false) in
    c.loop-a.invariant a b below h

pub returns-in-Some : goal.returns-in-Some
returns-in-Some c = least_pair (IsParallelOrdered c.args.scenario.now) c.loop-a.a c.in-Some.b c.loop-a.invariant c.in-Some.ensures

pub loop-a-preserved : goal.loop-a-preserved
loop-a-preserved c = none_at (IsParallelOrdered c.args.scenario.now) c.loop-a.a c.loop-a.invariant c.in_default.ensures
