use Rattle.pst_square.proofs.Walking.{taken_over}
use Rattle.pst_square.proofs.walk.take_over.Goals as goal

pub returns : goal.returns
returns c = taken_over c.args.row c.args.words.now c.join_row.new.words c.add_bit.new.words c.args.a c.args.c c.requires.word_in c.join_row.ensures c.add_bit.ensures.many c.add_bit.ensures.bits
