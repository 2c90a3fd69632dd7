use Rattle.pst_square.proofs.Squares.{pair_added}
use Rattle.pst_square.proofs.square.Square.add.Goals as goal

pub returns : goal.returns
returns c = pair_added c.args.self.now c.add_word.new.self c.args.a c.args.b c.bit.result c.bit.ensures c.add_word.ensures
