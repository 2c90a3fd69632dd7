use Rattle.pst_steady.proofs.runs.keep_end.Goals as goal

pub returns : goal.returns
returns c = λ q. c.in_ok-insert.ensures.updates.0 q
