use Rattle.std.proofs.Common.{◌≡◌, length, subst, arith}
use Rattle.pst_static.specs.Awaiting.{IsFirstNews}
use Rattle.pst_static.proofs.awaits.next_news.Goals as goal

pub loop-other-init : goal.loop-other-init
loop-other-init c = λ m x l n. absurd (omega (arith, l))

pub returns : goal.returns
returns c =
    let past = c.loop-other-test.false in
    let low = c.loop-other.auto.other-end in
    let e : c.loop-other.other ≡ length c.args.latest.now = omega (arith, past, low) in
    subst (λ k. IsFirstNews c.args.dealt.now c.args.latest.now c.args.heard.now c.args.act c.args.lane k c.loop-other.found) e c.loop-other.invariant
