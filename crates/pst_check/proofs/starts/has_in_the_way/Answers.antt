use Rattle.std.proofs.Common.{◌<◌, ℕ, arith, below_more}
use Rattle.std.proofs.lemmas.Bool.Decides.{nat_tests}
use Rattle.pst_check.specs.Tests.{IsInTheWay}
use Rattle.pst_check.proofs.Places.{no_true}
use Rattle.pst_check.proofs.starts.has_in_the_way.Goals as goal

pub loop-a-preserved : goal.loop-a-preserved
loop-a-preserved c = below_more (λ (a : ℕ). IsInTheWay c.args.plan.now c.args.past.now c.args.b a → ⊥) c.loop-a.a c.loop-a.invariant (λ h. no_true (c.if-is_in_the_way.ensures.1 h))

pub returns : goal.returns
returns c = (
  λ t. absurd (no_true t),
  λ h.
      let within = h.below in
      let below : h.act < c.loop-a.a = grind (arith, nat_tests, within, c.len-a-end.ensures.is, c.loop-a-test.false) in
      absurd (c.loop-a.invariant h.act below h.is),
)
