use Rattle.std.proofs.Common.{◌≡◌, map, List, Bool, ◌||◌, ap, sym, ◌∙◌}
use Rattle.std.specs.List.{list_any}
use Rattle.std.proofs.lemmas.Bool.{or_left}
use Rattle.pst_model.specs.declared.activity.Step.{Step}
use Rattle.pst_model.specs.declared.activity.Branch.{Branch}
use Rattle.pst_model.specs.declared.activity.Arm.{Arm}
use Rattle.pst_model.specs.ModelView.{view_step, view_branch, view_arm, maybe_step}
use Rattle.pst_refusals.specs.Inlines.{has_inline, branch_has, arm_has, maybe_has}
use Rattle.pst_refusals.proofs.Rows.{in_sequence, in_parallel, in_schedule, in_joined, in_select, in_match}
use Rattle.pst_refusals.proofs.inlines.+inlines.Goals as goal

pub has_inline-returns-in-Sequence : goal.has_inline-returns-in-Sequence
has_inline-returns-in-Sequence t c =
    c.steps_have.ensures
    ∙ ap (λ (xs : List Step). list_any (has_inline c.args.sought) (map view_step xs)) c.as_slice-in-Sequence.ensures.value
    ∙ sym (ap (λ (s : Step). has_inline c.args.sought (view_step s)) c.in-Sequence.is ∙ in_sequence c.args.sought c.in-Sequence.steps)

pub has_inline-returns-in-Parallel : goal.has_inline-returns-in-Parallel
has_inline-returns-in-Parallel t c =
    c.steps_have-in-Parallel.ensures
    ∙ ap (λ (xs : List Step). list_any (has_inline c.args.sought) (map view_step xs)) c.as_slice-in-Parallel.ensures.value
    ∙ sym (ap (λ (s : Step). has_inline c.args.sought (view_step s)) c.in-Parallel.is ∙ in_parallel c.args.sought c.in-Parallel.steps)

pub has_inline-returns-in-Schedule : goal.has_inline-returns-in-Schedule
has_inline-returns-in-Schedule t c =
    c.steps_have-in-Schedule.ensures
    ∙ ap (λ (xs : List Step). list_any (has_inline c.args.sought) (map view_step xs)) c.as_slice-in-Schedule.ensures.value
    ∙ sym (ap (λ (s : Step). has_inline c.args.sought (view_step s)) c.in-Schedule.is ∙ in_schedule c.args.sought c.in-Schedule.steps)

pub has_inline-returns-in-Joined : goal.has_inline-returns-in-Joined
has_inline-returns-in-Joined t c =
    c.steps_have-in-Joined.ensures
    ∙ ap (λ (xs : List Step). list_any (has_inline c.args.sought) (map view_step xs)) c.as_slice-in-Joined.ensures.value
    ∙ sym (ap (λ (s : Step). has_inline c.args.sought (view_step s)) c.in-Joined.is ∙ in_joined c.args.sought c.in-Joined.parallel c.in-Joined.join c.in-Joined.steps)

pub has_inline-returns-in-Select : goal.has_inline-returns-in-Select
has_inline-returns-in-Select t c =
    c.branches_have.ensures
    ∙ ap (λ (xs : List Branch). list_any (branch_has c.args.sought) (map view_branch xs)) c.as_slice-in-Select.ensures.value
    ∙ sym (ap (λ (s : Step). has_inline c.args.sought (view_step s)) c.in-Select.is ∙ in_select c.args.sought c.in-Select.branches)

pub has_inline-returns-then-arms_have : goal.has_inline-returns-then-arms_have
has_inline-returns-then-arms_have t c =
    let a : Bool = list_any (arm_has c.args.sought) (map view_arm c.in-Match.arms.items) in
    let b : Bool = maybe_has c.args.sought (maybe_step c.in-Match.other) in
    let arms : c.arms_have.result ≡ a = c.arms_have.ensures ∙ ap (λ (xs : List Arm). list_any (arm_has c.args.sought) (map view_arm xs)) c.as_slice-in-Match.ensures.value in
    let whole : has_inline c.args.sought (view_step c.args.step.now) ≡ (a || b) = ap (λ (s : Step). has_inline c.args.sought (view_step s)) c.in-Match.is ∙ in_match c.args.sought c.in-Match.value c.in-Match.arms c.in-Match.other in
    c.if-arms_have.true ∙ sym (or_left a b (sym arms ∙ c.if-arms_have.true)) ∙ sym whole

pub has_inline-returns-else-arms_have : goal.has_inline-returns-else-arms_have
has_inline-returns-else-arms_have t c =
    let a : Bool = list_any (arm_has c.args.sought) (map view_arm c.in-Match.arms.items) in
    let b : Bool = maybe_has c.args.sought (maybe_step c.in-Match.other) in
    let arms : c.arms_have.result ≡ a = c.arms_have.ensures ∙ ap (λ (xs : List Arm). list_any (arm_has c.args.sought) (map view_arm xs)) c.as_slice-in-Match.ensures.value in
    let whole : has_inline c.args.sought (view_step c.args.step.now) ≡ (a || b) = ap (λ (s : Step). has_inline c.args.sought (view_step s)) c.in-Match.is ∙ in_match c.args.sought c.in-Match.value c.in-Match.arms c.in-Match.other in
    c.other_has-else-arms_have.ensures ∙ sym (ap (λ x. x || b) (sym arms ∙ c.if-arms_have.false)) ∙ sym whole
