use Rattle.pst_search.proofs.Plans.{end_told}
use Rattle.pst_search.proofs.judging.is_refusal.Goals as goal

pub returns-in_default : goal.returns-in_default
returns-in_default c = end_told c.args.end c.in_default.not-NoMemory
