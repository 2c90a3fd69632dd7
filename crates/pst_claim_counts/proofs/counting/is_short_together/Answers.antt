use Rattle.std.proofs.Common.{sym, subst}
use Rattle.pst_claim_counts.specs.Needs.{AreNeeds, IsOwn}
use Rattle.pst_claim_counts.proofs.More.{own_exceeds}
use Rattle.pst_claim_counts.proofs.counting.is_short_together.Goals as goal

pub returns : goal.returns
returns c = λ yes.
    let s = c.args.scenario.now in
    own_exceeds s c.args.slots.now c.args.claims.now c.args.pool c.args.size c.in-Some._slot c.deref.result.now
    (subst (AreNeeds s (IsOwn c.args.slots.now c.args.claims.now c.args.pool _)) (sym c.deref.ensures.value) (c.in_ok-needs.ensures.own s c.requires.meet)) c.in-Some.ensures.0 c.in-Some.ensures.1
