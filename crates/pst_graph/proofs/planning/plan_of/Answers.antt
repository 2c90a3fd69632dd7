use Rattle.std.proofs.Common.{subst}
use Rattle.std.specs.Prelude.{Option, MatchOption}
use Rattle.pst_scen.specs.Refusals.{IsUnrefused}
use Rattle.pst_graph.specs.declared.planning.PlanEnd.{PlanEnd}
use Rattle.pst_graph.specs.Ends.{IsRefusal}
use Rattle.pst_graph.proofs.Ended.{refused}
use Rattle.pst_graph.proofs.planning.plan_of.Goals as goal

pub returns-in-Some-clause-unrefused : goal.returns-in-Some-clause-unrefused
returns-in-Some-clause-unrefused c = λ free.
    let s = c.args.scenario.now in
    absurd (refused s c.in-Some.end (subst (λ (found : Option PlanEnd). MatchOption found (IsUnrefused s) (IsRefusal s)) c.in-Some.is c.in_ok-found.ensures) free)
