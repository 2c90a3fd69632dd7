use Rattle.pst_lexer.proofs.Behind.{follows_more, follows_all}
use Rattle.pst_lexer.proofs.place.place_behind.Goals as goal

pub loop-byte-preserved : goal.loop-byte-preserved
loop-byte-preserved c =
    follows_more c.args.place c.args.bytes.now c.loop-byte.byte-index c.loop-byte.place _ c.loop-byte-test.true c.loop-byte.invariant c.after_byte-place.ensures

pub returns : goal.returns
returns c =
    follows_all c.args.place c.args.bytes.now c.loop-byte.byte-index c.loop-byte.place c.loop-byte.auto.byte-index-end c.loop-byte-test.false c.loop-byte.invariant
