use Rattle.std.proofs.Common.{◌≡◌, ◌<◌, ℕ, subst, refl, arith}
use Rattle.std.proofs.lemmas.Bool.Decides.{nat_tests}
use Rattle.pst_model.specs.Preorder.{LiesUnder, AtTop}
use Rattle.pst_sound_parts.proofs.Under.{by_parent, parent_below}
use Rattle.pst_sound_parts.proofs.preorder.lies_under.Goals as goal

pub loop-at-preserved : goal.loop-at-preserved
loop-at-preserved c =
    let at = c.loop-at.at in
    let step = by_parent c.args.parts.now c.args.top at c.in-Some.parent _ c.loop-at.invariant.within (λ (same : c.args.top ≡ at). grind (arith, nat_tests, c.loop-at-test.true)) c.in-Some.is in
    let below : c.in-Some.parent < at = parent_below c.args.parts.now at c.in-Some.parent _ c.requires.parents c.loop-at.invariant.within c.in-Some.is in
    let within = c.loop-at.invariant.within in
    record { within = omega (arith, below, within); same = (λ u. c.loop-at.invariant.same.0 (step.0 u), λ u. step.1 (c.loop-at.invariant.same.1 u)) }

pub returns : goal.returns
returns c =
    let same : c.args.top ≡ c.loop-at.at = grind (arith, nat_tests, c.loop-at-test.false) in
    (λ t. c.loop-at.invariant.same.0 (subst (λ (k : ℕ). LiesUnder c.args.parts.now c.args.top k) same AtTop), λ u. refl)
