use Rattle.pst_reduction.proofs.Rows.{thin_none, thin_more}
use Rattle.pst_reduction.proofs.reducing.thin_rows.Goals as goal

pub loop-a-init : goal.loop-a-init
loop-a-init c = thin_none c.args.row c.args.whole.now c.args.count c.args.words.now c.requires.same

pub loop-a-preserved : goal.loop-a-preserved
loop-a-preserved c = thin_more c.args.row c.args.whole.now c.args.count c.loop-a.words c.thin_row.new.words c.loop-a.a c.loop-a.invariant c.thin_row.ensures
