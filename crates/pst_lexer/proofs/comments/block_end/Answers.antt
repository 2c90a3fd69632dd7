use Rattle.std.proofs.Common.{arith}
use Rattle.pst_lexer.proofs.BlockEnds.{none_from, first_closed, none_closed}
use Rattle.pst_lexer.proofs.comments.block_end.Goals as goal

pub loop-at-init : goal.loop-at-init
loop-at-init c = none_from c.args.text.now c.args.seen c.max-from.result c.requires.within c.max-from.ensures c.requires.seen

pub returns-then-text-at-eq42 : goal.returns-then-text-at-eq42
returns-then-text-at-eq42 c =
    let (n, reach, found) = first_closed c.args.text.now c.loop-at.at c.loop-at.invariant (record {
      within = c.loop-at-test.true;
      behind = omega arith;
      slash = c.if-text-at-eq47.true;
      star = c.if-text-at-eq42.true;
    }) in
    (n, reach, omega arith, found)

pub returns : goal.returns
returns c = none_closed c.args.text.now (λ i before. c.loop-at.invariant i (omega arith))
