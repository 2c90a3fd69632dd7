use Rattle.std.proofs.Common.{refl, inl, inr, ⊎_elim}
use Rattle.pst_check.proofs.Places.{no_true}
use Rattle.pst_check.proofs.Meanings.{dispute}
use Rattle.pst_check.proofs.judge.breaks_conflicts.Goals as goal

pub returns-then-any_in_the_way : goal.returns-then-any_in_the_way
returns-then-any_in_the_way c = (λ t. (dispute c.args.scenario.now c.args.past.now c.args.part.now c.args.plan.now c.requires.planned.entries c.requires.inside).0 (inl (c.if-any_in_the_way.ensures.0 refl)), λ k. refl)

pub returns : goal.returns
returns c =
    let both = dispute c.args.scenario.now c.args.past.now c.args.part.now c.args.plan.now c.requires.planned.entries c.requires.inside in (
      λ t. both.0 (inr (c.any_conflict.ensures.0 t)),
      λ k. ⊎_elim (λ h. absurd (no_true (c.if-any_in_the_way.ensures.1 h))) (λ h. c.any_conflict.ensures.1 h) (both.1 k),
    )
