use Rattle.pst_num.proofs.DivisionLemmas as lemmas
use Rattle.pst_num.proofs.laws.division_rounds_towards_zero.Goals as goal

pub returns : goal.returns
returns c = lemmas.rounds_towards_zero
