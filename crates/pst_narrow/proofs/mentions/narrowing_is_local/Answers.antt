use Rattle.pst_narrow.proofs.LocalLemmas as lemmas
use Rattle.pst_narrow.proofs.mentions.narrowing_is_local.Goals as goal

pub returns : goal.returns
returns c = lemmas.narrowing_is_local
