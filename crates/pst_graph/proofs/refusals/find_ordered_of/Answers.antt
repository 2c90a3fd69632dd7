use Rattle.std.proofs.Common.{◌<◌, refl, arith}
use Rattle.std.proofs.lemmas.Bool.Decides.{nat_tests}
use Rattle.pst_scen.specs.Refusals.{IsParallelOrdered}
use Rattle.pst_nodes.proofs.Bits.{no_true}
use Rattle.pst_graph.proofs.Grouped.{none_below}
use Rattle.pst_graph.proofs.Least.{least_here}
use Rattle.pst_graph.proofs.Refused.{parallel_in}
use Rattle.pst_graph.proofs.refusals.find_ordered_of.Goals as goal

pub loop-b-init : goal.loop-b-init
loop-b-init c = λ b below h. let order = h.order in omega (arith, order, below)

pub returns-then-is_ordered_beside : goal.returns-then-is_ordered_beside
returns-then-is_ordered_beside c = least_here (IsParallelOrdered c.args.scenario.now c.args.a) c.loop-b.b c.loop-b.invariant (c.if-is_ordered_beside.ensures.0 refl)

pub loop-b-preserved : goal.loop-b-preserved
loop-b-preserved c = none_below (IsParallelOrdered c.args.scenario.now c.args.a) c.loop-b.b c.loop-b.invariant (λ h. no_true (c.if-is_ordered_beside.ensures.1 h))

pub returns : goal.returns
returns c = λ b h.
    let b_in = (parallel_in c.args.scenario.now c.args.plan.now c.requires.linked c.requires.entries c.args.a b h.parallel).1 in
    let below : b < c.loop-b.b = grind (arith, nat_tests, b_in, c.len-count.ensures.is, c.requires.entries.many, c.loop-b-test.false) in
    c.loop-b.invariant b below h

pub returns-then-not-stands_in_parallel : goal.returns-then-not-stands_in_parallel
returns-then-not-stands_in_parallel c = λ b h. no_true (c.if-not-stands_in_parallel.ensures b h.parallel)
