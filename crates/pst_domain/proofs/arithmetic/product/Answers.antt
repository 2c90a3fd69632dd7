use Rattle.std.proofs.Common.{FitsSigned, w64, ◌*ℤ◌, ◌∙◌, rules}
use Rattle.std.specs.Int.{w128, int_min, int_max}
use Rattle.pst_domain.proofs.CutCode.{handed, four, cut_between}
use Rattle.pst_domain.proofs.arithmetic.product.Goals as goal

pub returns : goal.returns
returns c =
    let ll : FitsSigned w64 c.args.left.low = search rules in
    let lh : FitsSigned w64 c.args.left.high = search rules in
    let rl : FitsSigned w64 c.args.right.low = search rules in
    let rh : FitsSigned w64 c.args.right.high = search rules in
    let f : FitsSigned w128 c.times.result = search rules in
    let g : FitsSigned w128 c.times-2.result = search rules in
    let h : FitsSigned w128 c.times-3.result = search rules in
    let k : FitsSigned w128 c.times-4.result = search rules in
    let first = handed ◌*ℤ◌ c.args.left.low c.args.right.low c.times.result ll rl f c.times.ensures in
    let second = handed ◌*ℤ◌ c.args.left.low c.args.right.high c.times-2.result ll rh g c.times-2.ensures in
    let third = handed ◌*ℤ◌ c.args.left.high c.args.right.low c.times-3.result lh rl h c.times-3.ensures in
    let fourth = handed ◌*ℤ◌ c.args.left.high c.args.right.high c.times-4.result lh rh k c.times-4.ensures in
    let p : FitsSigned w128 c.ends-least.result.0 = search rules in
    let q : FitsSigned w128 c.ends-least.result.1 = search rules in
    let least = c.ends-least.ensures.least ∙ four int_min first second third fourth in
    let greatest = c.ends-least.ensures.greatest ∙ four int_max first second third fourth in
    c.cut.ensures ∙ cut_between c.ends-least.result.0 c.ends-least.result.1 _ _ p q least greatest
