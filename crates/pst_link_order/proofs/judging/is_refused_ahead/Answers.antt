use Rattle.pst_link_order.proofs.judging.is_refused_ahead.Goals as goal

pub returns-in-Refused : goal.returns-in-Refused
returns-in-Refused c = λ _. c.in_ok-judge.ensures.refused c.in-Refused.is
