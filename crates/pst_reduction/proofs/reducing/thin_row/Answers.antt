use Rattle.pst_reduction.proofs.Rows.{word_in, thin_first, thin_next}
use Rattle.pst_reduction.proofs.reducing.thin_row.Goals as goal

pub loop-init : goal.loop-init
loop-init c = thin_first c.args.row c.args.whole.now c.args.count c.args.words.now c.args.a c.requires.same

pub loop-preserved : goal.loop-preserved
loop-preserved c =
    thin_next c.args.row c.args.whole.now c.args.count c.args.words.now c.loop.words c.take_row.new.words c.args.a c.in-Some.c c.in-Some.ensures.0
    (word_in c.args.count c.args.row c.in-Some.c c.requires.row c.in-Some.ensures.0) c.in-Some.ensures.1 c.loop.invariant c.take_row.ensures
