use Rattle.std.proofs.Common.{length, arith, ap}
use Rattle.pst_loops.proofs.Adding.{none_given, more_given, are_rows}
use Rattle.pst_loops.proofs.edges.add_all.Goals as goal

pub loop-at-init : goal.loop-at-init
loop-at-init c = none_given c.args.index.now c.args.rows.now c.requires.long c.requires.none

pub loop-at-preserved : goal.loop-at-preserved
loop-at-preserved c = more_given c.args.index.now c.loop-at.at c.loop-at.rows c.add_base.new.rows c.add_component.new.rows c.loop-at.invariant c.in_ok-add_base.ensures c.in_ok-add_component.ensures

pub returns : goal.returns
returns c = are_rows c.args.index.now c.loop-at.at c.loop-at.rows (let e = ap length c.as_slice-at-end.ensures in omega arith) c.loop-at.invariant
