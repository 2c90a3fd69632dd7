use Rattle.pst_read_so_far.proofs.Turns.{in_turn}
use Rattle.pst_read_so_far.proofs.laws.blanks_are_read_in_turn.Goals as goal

pub returns : goal.returns
returns c = in_turn
