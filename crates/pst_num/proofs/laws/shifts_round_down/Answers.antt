use Rattle.pst_num.proofs.DivisionLemmas as lemmas
use Rattle.pst_num.proofs.laws.shifts_round_down.Goals as goal

pub returns : goal.returns
returns c = lemmas.rounds_down
