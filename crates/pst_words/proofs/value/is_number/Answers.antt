use Rattle.std.proofs.Common.{arith, ◌≡◌}
use Rattle.pst_words.proofs.Digits.{one_number}
use Rattle.pst_words.proofs.value.is_number.Goals as goal

pub returns-then-n-least : goal.returns-then-n-least
returns-then-n-least c = λ h.
    let same : c.in-Some.n ≡ h.number = one_number c.in-Some.n h.number c.args.text.now c.in-Some.ensures.1 (omega (arith, h.high, c.ranges.most.fits)) c.in-Some.ensures.0 h.spelled in
    absurd (omega (arith, same, h.low, c.if-n-least.true))

pub returns-then-most-n : goal.returns-then-most-n
returns-then-most-n c = λ h.
    let same : c.in-Some.n ≡ h.number = one_number c.in-Some.n h.number c.args.text.now c.in-Some.ensures.1 (omega (arith, h.high, c.ranges.most.fits)) c.in-Some.ensures.0 h.spelled in
    absurd (omega (arith, same, h.high, c.if-most-n.true))
