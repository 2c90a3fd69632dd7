use Rattle.std.proofs.Common.{false, refl, subst}
use Rattle.pst_search.specs.Judging.{TellsPlanned}
use Rattle.pst_search.proofs.Looks.{whole_built, whole_refused}
use Rattle.pst_search.proofs.whole.plan_whole.Goals as goal

pub plan_if_any-requires : goal.plan_if_any-requires
plan_if_any-requires c = whole_built c.args.lists.now c.whole_readings_are_built.ensures.built c.in-Some.scenario.now c.requires c.in-Some.ensures.read

pub closed-requires : goal.closed-requires
closed-requires c =
    let r = c.in-Some.scenario.now in
    let told = subst (TellsPlanned r) c.in-None.is c.in_ok-plan.ensures in
    whole_refused c.args.lists.now c.whole_lists_end.ensures c.legal_is_unrefused.ensures r false c.requires c.in-Some.ensures.read refl (λ holds unrefused. told.1 unrefused)
