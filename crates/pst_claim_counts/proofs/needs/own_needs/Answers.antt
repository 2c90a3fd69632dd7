use Rattle.std.proofs.Common.{◌≡◌, ℕ, ◌+◌, ◌<◌, ◌≤◌, length, ◌∙◌, subst, sym, arith}
use Rattle.pst_claim_counts.specs.Needs.{AreNeeds, IsOwn}
use Rattle.pst_claim_counts.proofs.needs.own_needs.Goals as goal

pub loop-place-preserved : goal.loop-place-preserved
loop-place-preserved c = (c.add_own.ensures.many ∙ c.loop-place.invariant.0, λ s meet. c.add_own.ensures.own s meet (c.loop-place.invariant.1 s meet))

pub returns-clause-own : goal.returns-clause-own
returns-clause-own c = λ s meet.
    let high = c.loop-place-test.false in
    let end = c.loop-place.auto.place-end in
    let same : c.loop-place.place ≡ length c.args.claims.now = omega (arith, high, end) in
    subst (λ to. AreNeeds s (IsOwn c.args.slots.now c.args.claims.now c.args.pool to) c.loop-place.needs.items) same (c.loop-place.invariant.1 s meet)
