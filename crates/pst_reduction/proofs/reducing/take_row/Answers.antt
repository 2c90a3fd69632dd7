use Rattle.std.proofs.Common.{◌<◌, ◌≤◌, arith}
use Rattle.std.proofs.lemmas.Bool.Decides.{nat_tests}
use Rattle.pst_reduction.proofs.Rows.{taken_none, taken_next, taken_all}
use Rattle.pst_reduction.proofs.reducing.take_row.Goals as goal

pub loop-w-init : goal.loop-w-init
loop-w-init c = taken_none c.args.row c.args.whole.now c.args.words.now c.args.a c.args.c

pub loop-w-preserved : goal.loop-w-preserved
loop-w-preserved c =
    let w_in : c.loop-w.w < c.args.row = grind (arith, nat_tests, c.loop-w-test.true) in
    taken_next c.args.row c.args.whole.now c.args.words.now c.loop-w.words c.take_word.new.words c.args.a c.args.c c.loop-w.w w_in c.loop-w.invariant c.take_word.ensures.many c.take_word.ensures.at c.take_word.ensures.others

pub returns : goal.returns
returns c =
    let all : c.args.row ≤ c.loop-w.w = grind (arith, nat_tests, c.loop-w-test.false) in
    taken_all c.args.row c.args.whole.now c.args.words.now c.loop-w.words c.args.a c.args.c c.loop-w.w all c.loop-w.invariant
