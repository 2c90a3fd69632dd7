use Rattle.pst_order.proofs.Laws.{kept_prefix, keeps_readers}
use Rattle.pst_order.proofs.rule.readers_are_kept.Goals as goal

pub returns : goal.returns
returns c = record { keeps = keeps_readers; prefix = kept_prefix }
