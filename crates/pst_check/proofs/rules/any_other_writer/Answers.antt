use Rattle.std.proofs.Common.{◌<◌, ℕ, arith}
use Rattle.std.proofs.lemmas.Option.{slice_get_within}
use Rattle.std.proofs.lemmas.Bool.Decides.{nat_tests}
use Rattle.pst_check.specs.Tests.{HasReference, HasOtherWriter}
use Rattle.pst_check.proofs.Places.{no_true, none_more_of}
use Rattle.pst_check.proofs.rules.any_other_writer.Goals as goal

pub loop-i-preserved : goal.loop-i-preserved
loop-i-preserved c =
    none_more_of _ (λ (b : ℕ). HasReference c.args.scenario.now b (HasOtherWriter c.args.scenario.now c.args.past.now)) c.args.part.now c.loop-i.i c.act_of.result c.loop-i-test.true c.act_of.ensures
    (λ h. no_true (c.if-has_other_writer.ensures.1 h)) c.loop-i.invariant

pub returns : goal.returns
returns c = (
  λ t. absurd (no_true t),
  λ h.
      let within = slice_get_within c.args.part.now h.place h.element h.is in
      let below : h.place < c.loop-i.i = grind (arith, nat_tests, within, c.loop-i-test.false) in
      absurd (c.loop-i.invariant h.place h.element below h.is h.has),
)
