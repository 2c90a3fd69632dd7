use Rattle.std.proofs.Common.{◌≡◌, refl, ap, ◌∙◌, arith}
use Rattle.pst_reasons.specs.Firsts.{first_at}
use Rattle.pst_reasons.proofs.FirstLemmas.{set_forgotten}
use Rattle.pst_reasons.proofs.firsts.forget_change.Goals as goal

pub returns-then-first-mark : goal.returns-then-first-mark
returns-then-first-mark c v early = refl

pub returns-then-number-len : goal.returns-then-number-len
returns-then-number-len c v early = refl

pub returns : goal.returns
returns c =
    let is : c.first_at-first.result ≡ first_at c.args.firsts.now.items c.args.variable = c.first_at-first.ensures ∙ ap (λ xs. first_at xs c.args.variable) c.as_slice.ensures.value in
    set_forgotten c.args.firsts.now.items c.args.variable _ c.args.mark (omega (arith, c.if-first-mark.false, is))
