use Rattle.pst_read_legal.proofs.Unrefused.{legal_unrefused}
use Rattle.pst_read_legal.proofs.laws.legal_is_unrefused.Goals as goal

pub returns : goal.returns
returns c = legal_unrefused c.whole_is_sound.ensures.cycle c.whole_is_sound.ensures.clash
