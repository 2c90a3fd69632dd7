use Rattle.std.proofs.Common.{◌<◌, ◌≤◌, arith}
use Rattle.std.proofs.lemmas.Bool.Decides.{nat_tests}
use Rattle.pst_square.proofs.Closes.{closed_none, closed_next, closed_all}
use Rattle.pst_square.proofs.closure.close.Goals as goal

pub loop-m-init : goal.loop-m-init
loop-m-init c = closed_none c.args.count c.args.row c.args.words.now

pub loop-m-preserved : goal.loop-m-preserved
loop-m-preserved c =
    let m_in : c.loop-m.m < c.args.count = grind (arith, nat_tests, c.loop-m-test.true) in
    closed_next c.args.count c.args.row c.requires.row c.args.words.now c.loop-m.words c.go_through.new.words c.loop-m.m m_in c.loop-m.invariant c.go_through.ensures

pub returns : goal.returns
returns c =
    let all : c.args.count ≤ c.loop-m.m = grind (arith, nat_tests, c.loop-m-test.false) in
    closed_all c.args.count c.args.row c.args.words.now c.loop-m.words c.loop-m.m all c.loop-m.invariant
