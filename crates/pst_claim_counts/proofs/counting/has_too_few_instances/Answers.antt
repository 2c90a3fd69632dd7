use Rattle.std.proofs.Common.{map, ap, ◌∙◌}
use Rattle.std.specs.Prelude.{Some}
use Rattle.pst_claim_counts.proofs.More.{groups_meet}
use Rattle.pst_claim_counts.proofs.counting.has_too_few_instances.Goals as goal

pub is_some_short-requires-clause-meet : goal.is_some_short-requires-clause-meet
is_some_short-requires-clause-meet c =
    groups_meet c.args.scenario.now c.in_ok-groups.groups.items c.in_ok-group_slots.field-0.items c.in_ok-groups.ensures.0 c.in_ok-groups.ensures.1 (c.in_ok-group_slots.ensures ∙ ap (map Some) c.deref.ensures.value)
