use Rattle.std.proofs.Common.{FitsSigned, w64, int_div, ◌∙◌, rules}
use Rattle.std.specs.Int.{w128, int_min, int_max}
use Rattle.pst_domain.proofs.CutCode.{handed, four}
use Rattle.pst_domain.proofs.arithmetic.quotient_ends.Goals as goal

pub returns-clause-least : goal.returns-clause-least
returns-clause-least c =
    let ll : FitsSigned w64 c.args.left.low = search rules in
    let lh : FitsSigned w64 c.args.left.high = search rules in
    let rl : FitsSigned w64 c.args.part.low = search rules in
    let rh : FitsSigned w64 c.args.part.high = search rules in
    let f : FitsSigned w128 c.over.result = search rules in
    let g : FitsSigned w128 c.over-2.result = search rules in
    let h : FitsSigned w128 c.over-3.result = search rules in
    let k : FitsSigned w128 c.over-4.result = search rules in
    let first = handed int_div c.args.left.low c.args.part.low c.over.result ll rl f c.over.ensures in
    let second = handed int_div c.args.left.low c.args.part.high c.over-2.result ll rh g c.over-2.ensures in
    let third = handed int_div c.args.left.high c.args.part.low c.over-3.result lh rl h c.over-3.ensures in
    let fourth = handed int_div c.args.left.high c.args.part.high c.over-4.result lh rh k c.over-4.ensures in
    c.ends.ensures.least ∙ four int_min first second third fourth

pub returns-clause-greatest : goal.returns-clause-greatest
returns-clause-greatest c =
    let ll : FitsSigned w64 c.args.left.low = search rules in
    let lh : FitsSigned w64 c.args.left.high = search rules in
    let rl : FitsSigned w64 c.args.part.low = search rules in
    let rh : FitsSigned w64 c.args.part.high = search rules in
    let f : FitsSigned w128 c.over.result = search rules in
    let g : FitsSigned w128 c.over-2.result = search rules in
    let h : FitsSigned w128 c.over-3.result = search rules in
    let k : FitsSigned w128 c.over-4.result = search rules in
    let first = handed int_div c.args.left.low c.args.part.low c.over.result ll rl f c.over.ensures in
    let second = handed int_div c.args.left.low c.args.part.high c.over-2.result ll rh g c.over-2.ensures in
    let third = handed int_div c.args.left.high c.args.part.low c.over-3.result lh rl h c.over-3.ensures in
    let fourth = handed int_div c.args.left.high c.args.part.high c.over-4.result lh rh k c.over-4.ensures in
    c.ends.ensures.greatest ∙ four int_max first second third fourth
