use Rattle.pst_num.proofs.BitLemmas as lemmas
use Rattle.pst_num.proofs.laws.bits_act_apart.Goals as goal

pub returns : goal.returns
returns c = lemmas.act_on_bits
