use Rattle.pst_check.proofs.Marking.{none_set}
use Rattle.pst_check.proofs.marks.unmarked.Goals as goal

pub returns : goal.returns
returns c a = none_set 16384 a
