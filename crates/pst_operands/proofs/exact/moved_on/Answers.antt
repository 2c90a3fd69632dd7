use Rattle.std.proofs.Common.{◌+ℤ◌, ◌-ℤ◌, FitsSigned, arith}
use Rattle.std.specs.Int.{w128}
use Rattle.std.proofs.lemmas.Int.{ints}
use Rattle.pst_operands.proofs.exact.moved_on.Goals as goal

pub overflow_add-result-2 : goal.overflow_add-result-2
overflow_add-result-2 c =
    let f0 = c.ranges.number in
    let f1 = c.ranges.back in
    let f2 = c.ranges.on in
    let f3 = c.ranges.more in
    let g0 : FitsSigned w128 (c.from.result -ℤ c.from-2.result) = omega (arith, ints, c.from.ensures, c.from-2.ensures) in
    let g1 : FitsSigned w128 ((c.from.result -ℤ c.from-2.result) +ℤ c.from-3.result) = omega (arith, ints, c.from.ensures, c.from-2.ensures, c.from-3.ensures) in
    omega (arith, ints, c.from.ensures, c.from-2.ensures, c.from-3.ensures, c.from-4.ensures)

pub returns : goal.returns
returns c =
    let f0 = c.ranges.number in
    let f1 = c.ranges.back in
    let f2 = c.ranges.on in
    let f3 = c.ranges.more in
    let g0 : FitsSigned w128 (c.from.result -ℤ c.from-2.result) = omega (arith, ints, c.from.ensures, c.from-2.ensures) in
    let g1 : FitsSigned w128 ((c.from.result -ℤ c.from-2.result) +ℤ c.from-3.result) = omega (arith, ints, c.from.ensures, c.from-2.ensures, c.from-3.ensures) in
    omega (arith, ints, c.from.ensures, c.from-2.ensures, c.from-3.ensures, c.from-4.ensures)
