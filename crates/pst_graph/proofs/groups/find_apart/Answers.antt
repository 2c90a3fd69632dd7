use Rattle.std.proofs.Common.{◌<◌, arith}
use Rattle.std.proofs.lemmas.Bool.Decides.{nat_tests}
use Rattle.pst_graph.proofs.Streaming.{none_apart}
use Rattle.pst_graph.proofs.groups.find_apart.Goals as goal

pub returns : goal.returns
returns c =
    none_apart c.args.scenario.now c.args.groups.now
    (λ a b a_in from.
    let below : a < c.loop-a.a = grind (arith, nat_tests, a_in, c.requires.count, c.loop-a-test.false) in
    c.loop-a.invariant a b below from)
