use Rattle.std.proofs.Common.{◌≤◌, ◌<◌, length, get_or, arith}
use Rattle.std.proofs.lemmas.Option.{slice_get-get_or}
use Rattle.std.proofs.lemmas.Bool.Decides.{nat_tests}
use Rattle.pst_graph.proofs.UsesApart.{blank, apart_more, apart_all}
use Rattle.pst_graph.proofs.apart.add_all_apart.Goals as goal

pub loop-i-preserved : goal.loop-i-preserved
loop-i-preserved c =
    let below : c.loop-i.i < length c.args.uses.now = grind (arith, nat_tests, c.loop-i-test.true) in
    apart_more c.args.square.now c.loop-i.square c.add_apart_from.new.square c.args.uses.now c.loop-i.i (get_or c.args.uses.now c.loop-i.i blank) (slice_get-get_or c.args.uses.now c.loop-i.i blank below) c.loop-i.invariant c.add_apart_from.ensures

pub returns : goal.returns
returns c =
    let all : length c.args.uses.now ≤ c.loop-i.i = grind (arith, nat_tests, c.loop-i-test.false) in
    apart_all c.args.square.now c.loop-i.square c.args.uses.now c.loop-i.i all c.loop-i.invariant
