use Rattle.pst_rival_blanks.proofs.pairs.pair.Goals as goal

pub loop-earlier-preserved : goal.loop-earlier-preserved
loop-earlier-preserved c = λ all. c.in_ok-add_once.ensures (c.loop-earlier.invariant all)
