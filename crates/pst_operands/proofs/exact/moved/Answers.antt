use Rattle.std.proofs.Common.{◌-ℤ◌, FitsSigned, arith}
use Rattle.std.specs.Int.{w128}
use Rattle.std.proofs.lemmas.Int.{ints}
use Rattle.pst_operands.proofs.exact.moved.Goals as goal

pub returns : goal.returns
returns c =
    let f0 = c.ranges.number in
    let f1 = c.ranges.back in
    let f2 = c.ranges.on in
    let g0 : FitsSigned w128 (c.from.result -ℤ c.from-2.result) = omega (arith, ints, c.from.ensures, c.from-2.ensures) in
    omega (arith, ints, c.from.ensures, c.from-2.ensures, c.from-3.ensures)
