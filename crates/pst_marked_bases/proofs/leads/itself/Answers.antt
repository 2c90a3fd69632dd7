use Rattle.std.proofs.Common.{refl}
use Rattle.pst_marked_bases.proofs.Leading.{to_itself}
use Rattle.pst_marked_bases.proofs.leads.itself.Goals as goal

pub returns-clause-lead : goal.returns-clause-lead
returns-clause-lead c = to_itself c.args._marks.now c.args._index.now _ refl refl
