use Rattle.std.proofs.Common.{◌≡◌, neg_ℤ, FitsSigned, ◌∙◌, rules, arith}
use Rattle.std.specs.Int.{w128}
use Rattle.std.proofs.lemmas.Int.{ints}
use Rattle.pst_domain.proofs.CutCode.{cut_between}
use Rattle.pst_domain.proofs.arithmetic.negation.Goals as goal

pub returns : goal.returns
returns c =
    let f : FitsSigned w128 c.minus.result = search rules in
    let g : FitsSigned w128 c.minus-2.result = search rules in
    let low : c.minus.result ≡ neg_ℤ c.args.span.high = omega (arith, ints, c.minus.ensures) in
    let high : c.minus-2.result ≡ neg_ℤ c.args.span.low = omega (arith, ints, c.minus-2.ensures) in
    c.cut.ensures ∙ cut_between c.minus.result c.minus-2.result (neg_ℤ c.args.span.high) (neg_ℤ c.args.span.low) f g low high
