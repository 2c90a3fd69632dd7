use Rattle.std.proofs.Common.{◌<◌, refl, arith}
use Rattle.std.proofs.lemmas.Bool.Decides.{nat_tests}
use Rattle.pst_square.proofs.Circling.{least_of_circles}
use Rattle.pst_square.proofs.circle.least_circle.Goals as goal

pub returns : goal.returns
returns c =
    let least_in : c.in-Some.least < c.args.direct.now.size = grind (arith, nat_tests, c.if-least-direct.false) in
    least_of_circles c.args.direct.now c.deref.result.now c.in-Some.least (c.if-not-descend.ensures refl) least_in (c.in_ok-leads_back.ensures c.if-not-branch.false)
