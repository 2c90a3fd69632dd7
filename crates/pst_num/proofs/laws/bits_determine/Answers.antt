use Rattle.pst_num.proofs.BitLemmas as lemmas
use Rattle.pst_num.proofs.laws.bits_determine.Goals as goal

pub returns : goal.returns
returns c = lemmas.bits_determine
