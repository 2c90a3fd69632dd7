use Rattle.std.proofs.Common.{refl}
use Rattle.pst_reasons.proofs.FirstLemmas.{forgotten_then}
use Rattle.pst_reasons.proofs.firsts.forget_changes.Goals as goal

pub loop-at-init : goal.loop-at-init
loop-at-init c v early = refl

pub loop-at-preserved : goal.loop-at-preserved
loop-at-preserved c = forgotten_then c.args.mark c.args.firsts.now.items c.loop-at.firsts.items c.forget_change.new.firsts.items c.loop-at.invariant c.forget_change.ensures

pub returns : goal.returns
returns c = c.loop-at.invariant
