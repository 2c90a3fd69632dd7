use Rattle.std.proofs.Common.{map, List, ap, sym, ◌∙◌}
use Rattle.std.specs.List.{flat_map}
use Rattle.pst_model.specs.declared.activity.Step.{Step}
use Rattle.pst_model.specs.declared.activity.Branch.{Branch}
use Rattle.pst_model.specs.declared.activity.Arm.{Arm}
use Rattle.pst_sound_parts.specs.declared.traversals.Seen.{Seen}
use Rattle.pst_model.specs.ModelView.{view_step, view_branch, view_arm}
use Rattle.pst_model.specs.Traversals.{traversals, traversals_of_branch, traversals_of_arm}
use Rattle.pst_sound_parts.specs.Seen.{seen_of, joined}
use Rattle.pst_sound_parts.proofs.SeenLemmas.{in_sequence, in_parallel, in_schedule, in_joined, in_select, in_match}
use Rattle.pst_sound_parts.proofs.traversals.+seen.Goals as goal

pub seen_in-returns-in-Sequence : goal.seen_in-returns-in-Sequence
seen_in-returns-in-Sequence t c =
    c.seen_in_steps.ensures
    ∙ ap (λ (xs : List Step). seen_of (flat_map (traversals c.args.handle c.args.within) (map view_step xs))) c.as_slice.ensures.value
    ∙ sym (ap (λ (s : Step). seen_of (traversals c.args.handle c.args.within (view_step s))) c.in-Sequence.is ∙ ap seen_of (in_sequence c.args.handle c.args.within c.in-Sequence.steps))

pub seen_in-returns-in-Parallel : goal.seen_in-returns-in-Parallel
seen_in-returns-in-Parallel t c =
    c.seen_in_steps-in-Parallel.ensures
    ∙ ap (λ (xs : List Step). seen_of (flat_map (traversals c.args.handle c.args.within) (map view_step xs))) c.as_slice-in-Parallel.ensures.value
    ∙ sym (ap (λ (s : Step). seen_of (traversals c.args.handle c.args.within (view_step s))) c.in-Parallel.is ∙ ap seen_of (in_parallel c.args.handle c.args.within c.in-Parallel.steps))

pub seen_in-returns-in-Schedule : goal.seen_in-returns-in-Schedule
seen_in-returns-in-Schedule t c =
    c.seen_in_steps-in-Schedule.ensures
    ∙ ap (λ (xs : List Step). seen_of (flat_map (traversals c.args.handle c.args.within) (map view_step xs))) c.as_slice-in-Schedule.ensures.value
    ∙ sym (ap (λ (s : Step). seen_of (traversals c.args.handle c.args.within (view_step s))) c.in-Schedule.is ∙ ap seen_of (in_schedule c.args.handle c.args.within c.in-Schedule.steps))

pub seen_in-returns-in-Joined : goal.seen_in-returns-in-Joined
seen_in-returns-in-Joined t c =
    c.seen_in_steps-in-Joined.ensures
    ∙ ap (λ (xs : List Step). seen_of (flat_map (traversals c.args.handle c.args.within) (map view_step xs))) c.as_slice-in-Joined.ensures.value
    ∙ sym (ap (λ (s : Step). seen_of (traversals c.args.handle c.args.within (view_step s))) c.in-Joined.is ∙ ap seen_of (in_joined c.args.handle c.args.within c.in-Joined.parallel c.in-Joined.join c.in-Joined.steps))

pub seen_in-returns-in-Select : goal.seen_in-returns-in-Select
seen_in-returns-in-Select t c =
    c.seen_in_branches.ensures
    ∙ ap (λ (xs : List Branch). seen_of (flat_map (traversals_of_branch c.args.handle) (map view_branch xs))) c.as_slice-in-Select.ensures.value
    ∙ sym (ap (λ (s : Step). seen_of (traversals c.args.handle c.args.within (view_step s))) c.in-Select.is ∙ ap seen_of (in_select c.args.handle c.args.within c.in-Select.branches))

pub seen_in-returns-in-Match : goal.seen_in-returns-in-Match
seen_in-returns-in-Match t c =
    c.join-in-Match.ensures
    ∙ ap (λ (s : Seen). joined s c.seen_in_other-in-Match.result) (c.seen_in_arms.ensures ∙ ap (λ (xs : List Arm). seen_of (flat_map (traversals_of_arm c.args.handle) (map view_arm xs))) c.as_slice-in-Match.ensures.value)
    ∙ ap (joined (seen_of (flat_map (traversals_of_arm c.args.handle) (map view_arm c.in-Match.arms.items)))) c.seen_in_other-in-Match.ensures
    ∙ sym (ap (λ (s : Step). seen_of (traversals c.args.handle c.args.within (view_step s))) c.in-Match.is ∙ in_match c.args.handle c.args.within c.in-Match.value c.in-Match.arms c.in-Match.other)
