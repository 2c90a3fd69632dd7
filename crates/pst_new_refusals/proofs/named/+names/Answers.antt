use Rattle.std.proofs.Common.{arith, ◌≡◌, ◌++◌, OnOk, List, ℕ, ap, map, sym, subst, ◌∙◌}
use Rattle.std.proofs.lemmas.Grind.{common_steps}
use Rattle.std.specs.List.{flat_map}
use Rattle.pst_model.specs.declared.activity.Step.{Step}
use Rattle.pst_model.specs.ModelView.{view_step, view_arm, maybe_step}
use Rattle.pst_new_refusals.specs.Named.{named_in, named_in_arm, named_in_maybe}
use Rattle.pst_new_refusals.proofs.Rows.{in_sequence, in_parallel, in_schedule, in_joined, in_select, in_match, named_both}
use Rattle.pst_new_refusals.proofs.named.+names.Goals as goal

pub add_step-returns-in-Sequence : goal.add_step-returns-in-Sequence
add_step-returns-in-Sequence t c =
    subst (λ (hs : List ℕ). OnOk c.add_steps.result (c.add_steps.new.found.items ≡ c.args.found.now.items ++ hs)) (sym (ap (λ (s : Step). named_in (view_step s)) c.in-Sequence.is ∙ in_sequence c.in-Sequence.steps)) (grind (arith, common_steps))

pub add_step-returns-in-Parallel : goal.add_step-returns-in-Parallel
add_step-returns-in-Parallel t c =
    subst (λ (hs : List ℕ). OnOk c.add_steps-in-Parallel.result (c.add_steps-in-Parallel.new.found.items ≡ c.args.found.now.items ++ hs)) (sym (ap (λ (s : Step). named_in (view_step s)) c.in-Parallel.is ∙ in_parallel c.in-Parallel.steps)) (grind (arith, common_steps))

pub add_step-returns-in-Schedule : goal.add_step-returns-in-Schedule
add_step-returns-in-Schedule t c =
    subst (λ (hs : List ℕ). OnOk c.add_steps-in-Schedule.result (c.add_steps-in-Schedule.new.found.items ≡ c.args.found.now.items ++ hs)) (sym (ap (λ (s : Step). named_in (view_step s)) c.in-Schedule.is ∙ in_schedule c.in-Schedule.steps)) (grind (arith, common_steps))

pub add_step-returns-in-Joined : goal.add_step-returns-in-Joined
add_step-returns-in-Joined t c =
    subst (λ (hs : List ℕ). OnOk c.add_steps-in-Joined.result (c.add_steps-in-Joined.new.found.items ≡ c.args.found.now.items ++ hs)) (sym (ap (λ (s : Step). named_in (view_step s)) c.in-Joined.is ∙ in_joined c.in-Joined.parallel c.in-Joined.join c.in-Joined.steps)) (grind (arith, common_steps))

pub add_step-returns-in-Select : goal.add_step-returns-in-Select
add_step-returns-in-Select t c =
    subst (λ (hs : List ℕ). OnOk c.add_branches.result (c.add_branches.new.found.items ≡ c.args.found.now.items ++ hs)) (sym (ap (λ (s : Step). named_in (view_step s)) c.in-Select.is ∙ in_select c.in-Select.branches)) (grind (arith, common_steps))

pub add_step-returns-in_ok-add_arms-in-Match : goal.add_step-returns-in_ok-add_arms-in-Match
add_step-returns-in_ok-add_arms-in-Match t c =
    let arms = flat_map named_in_arm (map view_arm c.in-Match.arms.items) in
    let other = named_in_maybe (maybe_step c.in-Match.other) in
    let is : named_in (view_step c.args.step.now) ≡ arms ++ other = ap (λ (s : Step). named_in (view_step s)) c.in-Match.is ∙ in_match c.in-Match.value c.in-Match.arms c.in-Match.other in
    let added : OnOk c.add_other-in-Match.result (c.add_other-in-Match.new.found.items ≡ c.add_arms.new.found.items ++ other) = grind (arith, common_steps) in
    let begun : c.add_arms.new.found.items ≡ c.args.found.now.items ++ arms = grind (arith, common_steps) in
    subst (λ (hs : List ℕ). OnOk c.add_other-in-Match.result (c.add_other-in-Match.new.found.items ≡ hs)) (named_both c.args.found.now.items c.add_arms.new.found.items arms other (named_in (view_step c.args.step.now)) begun is) added
