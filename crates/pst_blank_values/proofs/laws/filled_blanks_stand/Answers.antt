use Rattle.pst_blank_values.proofs.Fills.{stand}
use Rattle.pst_blank_values.proofs.laws.filled_blanks_stand.Goals as goal

pub returns : goal.returns
returns c = stand
