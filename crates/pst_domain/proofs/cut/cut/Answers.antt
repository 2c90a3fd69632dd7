use Rattle.std.proofs.Common.{FitsSigned, rules}
use Rattle.std.specs.Int.{w128}
use Rattle.std.proofs.Math.Facts.{sfits_lit}
use Rattle.pst_num.specs.Range.{least, greatest}
use Rattle.pst_domain.proofs.CutCode.{greater_is, lesser_is, cut_found}
use Rattle.pst_domain.proofs.cut.cut.Goals as goal

pub returns-then-low-high : goal.returns-then-low-high
returns-then-low-high c =
    let low_fits : FitsSigned w128 c.max-low.result = search rules in
    let high_fits : FitsSigned w128 c.min-high.result = search rules in
    let low = greater_is c.args.low least c.ranges.low c.from.result c.max-low.result (sfits_lit tt) c.from.ensures c.max-low.ensures.value in
    let high = lesser_is c.args.high greatest c.ranges.high c.from-2.result c.min-high.result (sfits_lit tt) c.from-2.ensures c.min-high.ensures.value in
    cut_found c.args.low c.args.high c.max-low.result c.min-high.result low_fits high_fits low high c.if-low-high.true
