use Rattle.std.proofs.Common.{List, subst}
use Rattle.pst_scen.specs.declared.act.Filled.{Filled}
use Rattle.pst_square.specs.Squares.{Adds}
use Rattle.pst_graph.specs.Writes.{ReadsMatchingIn}
use Rattle.pst_graph.proofs.WritesListed.{row_read}
use Rattle.pst_graph.proofs.replaced.add_replacing_row.Goals as goal

pub returns : goal.returns
returns c =
    row_read c.args.scenario.now c.args.a c.act_at-act.result.now c.args.writes.now c.act_at-act.ensures c.requires.writes c.args.square.now c.add_readings.new.square c.requires.size
    (subst (λ (list : List Filled). Adds c.args.square.now c.add_readings.new.square (ReadsMatchingIn c.args.scenario.now c.args.a c.args.writes.now list)) c.as_slice.ensures c.add_readings.ensures)
