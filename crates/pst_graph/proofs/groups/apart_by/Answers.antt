use Rattle.pst_graph.proofs.groups.apart_by.Goals as goal

pub returns-in_default : goal.returns-in_default
returns-in_default c = λ b to. absurd (c.in_default.ensures b to)

pub apart_of-requires-clause-link : goal.apart_of-requires-clause-link
apart_of-requires-clause-link c = c.requires.link c.in-Some.b c.in-Some.ensures

pub apart_of-requires-clause-b_in : goal.apart_of-requires-clause-b_in
apart_of-requires-clause-b_in c = c.requires.inside c.in-Some.b c.in-Some.ensures
