use Rattle.std.proofs.Common.{refl}
use Rattle.pst_marked_bases.proofs.Leading.{to_none}
use Rattle.pst_marked_bases.proofs.leads.top.Goals as goal

pub returns-clause-lead : goal.returns-clause-lead
returns-clause-lead c = to_none c.args._marks.now c.args._index.now _ refl refl c.requires.unmarked c.requires.top
