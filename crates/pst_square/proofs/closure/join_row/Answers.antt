use Rattle.std.proofs.Common.{◌<◌, ◌≤◌, arith}
use Rattle.std.proofs.lemmas.Bool.Decides.{nat_tests}
use Rattle.pst_square.proofs.Joins.{joined_none, joined_next, joined_all}
use Rattle.pst_square.proofs.closure.join_row.Goals as goal

pub loop-w-init : goal.loop-w-init
loop-w-init c = joined_none c.args.row c.args.words.now c.args.a c.args.m

pub loop-w-preserved : goal.loop-w-preserved
loop-w-preserved c =
    let w_in : c.loop-w.w < c.args.row = grind (arith, nat_tests, c.loop-w-test.true) in
    joined_next c.args.row c.args.words.now c.loop-w.words c.join_word.new.words c.args.a c.args.m c.loop-w.w w_in c.loop-w.invariant c.join_word.ensures.many c.join_word.ensures.at c.join_word.ensures.others

pub returns : goal.returns
returns c =
    let all : c.args.row ≤ c.loop-w.w = grind (arith, nat_tests, c.loop-w-test.false) in
    joined_all c.args.row c.args.words.now c.loop-w.words c.args.a c.args.m c.loop-w.w all c.loop-w.invariant
