use Rattle.std.proofs.Common.{refl, inl, inr, ⊎_elim}
use Rattle.pst_check.proofs.Places.{no_true}
use Rattle.pst_check.proofs.Meanings.{taken}
use Rattle.pst_check.proofs.judge.breaks_lanes.Goals as goal

pub returns-then-any_held : goal.returns-then-any_held
returns-then-any_held c = (λ t. (taken c.args.scenario.now c.args.past.now c.args.part.now).0 (inl (c.if-any_held.ensures.0 refl)), λ k. refl)

pub returns : goal.returns
returns c =
    let both = taken c.args.scenario.now c.args.past.now c.args.part.now in (
      λ t. both.0 (inr (c.names_twice.ensures.0 t)),
      λ k. ⊎_elim (λ h. absurd (no_true (c.if-any_held.ensures.1 h))) (λ h. c.names_twice.ensures.1 h) (both.1 k),
    )
