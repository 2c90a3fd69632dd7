use Rattle.pst_narrow.proofs.MentionLemmas.{values_same, spans_same}
use Rattle.pst_narrow.proofs.mentions.others_dont_matter.Goals as goal

pub returns : goal.returns
returns c = record { values = values_same; spans = spans_same }
