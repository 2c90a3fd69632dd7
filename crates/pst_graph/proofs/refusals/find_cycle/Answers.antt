use Rattle.std.proofs.Common.{◌<◌, refl, length, arith}
use Rattle.std.proofs.lemmas.Bool.Decides.{nat_tests}
use Rattle.pst_scen.specs.Refusals.{IsOnCycle}
use Rattle.pst_nodes.proofs.Bits.{no_true}
use Rattle.pst_graph.proofs.Grouped.{none_below}
use Rattle.pst_graph.proofs.Least.{least_here}
use Rattle.pst_graph.proofs.refusals.find_cycle.Goals as goal

pub returns-then-must : goal.returns-then-must
returns-then-must c =
    let s = c.args.scenario.now in
    let a = c.loop-a.a in
    let a_in : a < length s.actions = grind (arith, nat_tests, c.loop-a-test.true, c.len-a-end.ensures.is, c.requires.many) in
    least_here (IsOnCycle s) a c.loop-a.invariant (record { below = a_in; must = (c.requires.must a a a_in a_in).0 (c.if-must.ensures.0 refl) })

pub loop-a-preserved : goal.loop-a-preserved
loop-a-preserved c =
    let s = c.args.scenario.now in
    let a = c.loop-a.a in
    none_below (IsOnCycle s) a c.loop-a.invariant (λ h. no_true (c.if-must.ensures.1 ((c.requires.must a a h.below h.below).1 h.must)))

pub returns : goal.returns
returns c = λ a h.
    let a_in = h.below in
    let below : a < c.loop-a.a = grind (arith, nat_tests, a_in, c.len-a-end.ensures.is, c.requires.many, c.loop-a-test.false) in
    c.loop-a.invariant a below h
