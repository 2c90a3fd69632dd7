use Rattle.std.proofs.Common.{sym, subst}
use Rattle.pst_model.specs.ModelView.{view_model}
use Rattle.pst_refusals.specs.Answers.{StandEarlier}
use Rattle.pst_list_walk.proofs.Refusing.{told_of}
use Rattle.pst_list_walk.proofs.walk.refused_of.Goals as goal

pub refused_in-requires-clause-earlier : goal.refused_in-requires-clause-earlier
refused_in-requires-clause-earlier c = subst StandEarlier (sym c.as_slice-nodes.ensures) c.requires.earlier

pub returns : goal.returns
returns c =
    told_of (view_model c.args.model.now) c.args.scenario.now c.as_slice-nodes.result.now c.as_slice-actions.result.now c.as_slice-firsts.result.now c.in_ok-refused.refused
    c.as_slice-nodes.ensures c.as_slice-actions.ensures c.as_slice-firsts.ensures c.in_ok-refused.ensures
