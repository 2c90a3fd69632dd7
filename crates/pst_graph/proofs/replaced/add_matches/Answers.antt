use Rattle.std.proofs.Common.{◌≤◌, ◌<◌, length, get_or, arith}
use Rattle.std.proofs.lemmas.Option.{slice_get-get_or}
use Rattle.std.proofs.lemmas.Bool.Decides.{nat_tests}
use Rattle.pst_graph.proofs.WritesListed.{no_write, matching_more, matching_all}
use Rattle.pst_graph.proofs.replaced.add_matches.Goals as goal

pub loop-i-preserved : goal.loop-i-preserved
loop-i-preserved c =
    let writes = c.args.writes.now in
    let below : c.loop-i.i < length writes = grind (arith, nat_tests, c.loop-i-test.true) in
    matching_more c.args.scenario.now c.args.filled.now c.args.a writes c.args.square.now c.loop-i.square c.add_match.new.square c.loop-i.i (get_or writes c.loop-i.i no_write) (slice_get-get_or writes c.loop-i.i no_write below) c.loop-i.invariant c.add_match.ensures

pub returns : goal.returns
returns c =
    let all : length c.args.writes.now ≤ c.loop-i.i = grind (arith, nat_tests, c.loop-i-test.false) in
    matching_all c.args.scenario.now c.args.filled.now c.args.a c.args.writes.now c.args.square.now c.loop-i.square c.loop-i.i all c.loop-i.invariant
