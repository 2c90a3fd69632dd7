use Rattle.std.proofs.Common.{◌≤◌, length, refl, arith}
use Rattle.std.proofs.lemmas.Option.{slice_get_read}
use Rattle.std.proofs.lemmas.Bool.Decides.{nat_tests}
use Rattle.pst_graph.proofs.WritesListed.{reading_more, reading_all}
use Rattle.pst_graph.proofs.replaced.add_readings.Goals as goal

pub loop-i-preserved : goal.loop-i-preserved
loop-i-preserved c =
    let references = c.args.references.now in
    let is = slice_get_read references (length references) c.loop-i.i c.index-references-i.result refl c.loop-i-test.true c.index-references-i.is in
    reading_more c.args.scenario.now c.args.a c.args.writes.now references c.args.square.now c.loop-i.square c.add_reading.new.square c.loop-i.i c.index-references-i.result is c.loop-i.invariant c.add_reading.ensures

pub returns : goal.returns
returns c =
    let all : length c.args.references.now ≤ c.loop-i.i = grind (arith, nat_tests, c.loop-i-test.false) in
    reading_all c.args.scenario.now c.args.a c.args.writes.now c.args.references.now c.args.square.now c.loop-i.square c.loop-i.i all c.loop-i.invariant
