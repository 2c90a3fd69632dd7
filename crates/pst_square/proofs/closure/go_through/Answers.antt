use Rattle.pst_square.proofs.Joins.{go_next}
use Rattle.pst_square.proofs.closure.go_through.Goals as goal

pub loop-a-preserved : goal.loop-a-preserved
loop-a-preserved c =
    go_next c.args.row c.args.words.now c.loop-a.words c.lead_through.new.words c.loop-a.a c.args.m c.requires.word_in c.loop-a.invariant c.lead_through.ensures
