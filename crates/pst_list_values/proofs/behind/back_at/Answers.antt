use Rattle.std.proofs.Common.{subst}
use Rattle.pst_list_values.specs.Tied.{IsTied}
use Rattle.pst_list_values.proofs.Ties.{given_there, tied_shorter}
use Rattle.pst_list_values.proofs.behind.back_at.Goals as goal

pub shorter-requires : goal.shorter-requires
shorter-requires c =
    given_there c.args.lists.now c.back.new.self c.back.ensures.0 c.in-Some.behind (subst (IsTied c.args.lists.now) c.in-Some.is c.requires.tied) c.back.ensures.1
    (c.is_before-before.ensures c.if-before.false)

pub returns-clause-tied : goal.returns-clause-tied
returns-clause-tied c =
    tied_shorter c.args.lists.now c.back.new.self c.back.ensures.0 c.in-Some.behind (subst (IsTied c.args.lists.now) c.in-Some.is c.requires.tied) c.back.ensures.1
    (c.is_before-before.ensures c.if-before.false) c.shorter.result c.shorter.ensures
