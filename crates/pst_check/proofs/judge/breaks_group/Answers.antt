use Rattle.std.proofs.Common.{map}
use Rattle.pst_scen.specs.Judging.{Breaks, NoGroup}
use Rattle.pst_by_rule.specs.Blocks.{act_of, lane_of, starts_in}
use Rattle.pst_check.specs.Tests.{AreGroup}
use Rattle.pst_check.proofs.Places.{not_test}
use Rattle.pst_check.proofs.Grouped.{grouped}
use Rattle.pst_check.proofs.Meanings.{group_means}
use Rattle.pst_check.proofs.judge.breaks_group.Goals as goal

pub returns : goal.returns
returns c =
    let s = c.args.scenario.now in
    let part = c.args.part.now in
    let g = grouped c.members_are_those.ensures c.groups_are_whole.ensures.whole c.groups_are_whole.ensures.one s c.args.plan.now c.requires.planned part c.requires.some in
    not_test c.is_group.result {A = AreGroup c.args.plan.now part} {B = Breaks s c.args.past.now 2 (starts_in part)} c.is_group.ensures
    (λ n. NoGroup (map act_of part) (map lane_of part) (λ w. n (g.1 w)))
    (λ k h. group_means s c.args.past.now part k (g.0 h))
