use Rattle.std.proofs.Common.{arith}
use Rattle.std.proofs.lemmas.Bool.Decides.{nat_tests}
use Rattle.pst_square.proofs.Spreads.{spreading_then, shared_more}
use Rattle.pst_square.proofs.spreading.share_row.Goals as goal

pub loop-i-preserved : goal.loop-i-preserved
loop-i-preserved c =
    let first = c.args.square.now in
    let middle = c.loop-i.square in
    let last = c.share.new.square in
    let one = c.loop-i.invariant.spreading in
    let two = c.share.ensures.spreading in
    record {
      spreading = spreading_then c.args.groups.now c.args.a first middle last c.requires.a_in one two;
      shared = shared_more c.args.groups.now c.args.a first middle last c.args.followers.now c.loop-i.i c.requires.a_in c.requires.own c.requires.followers one two (grind (arith, nat_tests, c.loop-i-test.true)) c.loop-i.invariant.shared c.share.ensures.shared;
    }
