use Rattle.std.proofs.Common.{◌≡◌, length, subst, arith}
use Rattle.pst_static.specs.Loads.{IsFirstFree}
use Rattle.pst_static.proofs.Dealt.{free_first}
use Rattle.pst_static.proofs.deal.first_free.Goals as goal

pub loop-lane-init : goal.loop-lane-init
loop-lane-init c = record { inside = omega arith; low = λ l. absurd (omega (arith, l)); first = free_first c.args.loads.now c.args.used.now }

pub returns-clause-first : goal.returns-clause-first
returns-clause-first c =
    let past = c.loop-lane-test.false in
    let low = c.loop-lane.auto.lane-end in
    let e : c.loop-lane.lane ≡ length c.args.used.now = omega (arith, past, low) in
    subst (λ k. IsFirstFree c.args.loads.now c.args.used.now k c.loop-lane.best) e c.loop-lane.invariant.first
