use Rattle.std.proofs.Common.{◌≡◌, true, false, Bool}
use Rattle.std.specs.Prelude.{not}
use Rattle.pst_search.proofs.Looks.{built_at, plan_barren}
use Rattle.pst_search.proofs.looking.plan_refuses.Goals as goal

not_true : (b : Bool) → not b ≡ true → b ≡ false
not_true true e = cc
not_true false e = cc

pub has_plan-requires : goal.has_plan-requires
has_plan-requires c = built_at c.args.lists.now c.sources_are_built.ensures c.requires c.in-Some.ensures.sources c.in-Some.scenario.now c.in-Some.ensures.read

pub returns : goal.returns
returns c =
    λ on. plan_barren c.args.lists.now c.plans_refuse_lists.ensures c.sources_are_built.ensures c.requires c.in-Some.ensures.sources c.in-Some.scenario.now c.in-Some.ensures.read c.in_ok-planned.planned
    (not_true c.in_ok-planned.planned on) c.in_ok-planned.ensures
