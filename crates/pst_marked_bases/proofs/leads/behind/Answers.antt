use Rattle.std.proofs.Common.{arith, refl}
use Rattle.pst_marked_bases.proofs.Leading.{by_base}
use Rattle.pst_marked_bases.proofs.leads.behind.Goals as goal

pub returns-in-Some-clause-lead : goal.returns-in-Some-clause-lead
returns-in-Some-clause-lead c = by_base c.args._marks.now c.args._index.now _ c.args.base.now (omega (arith, c.in-Some.ensures)) refl c.requires.unmarked c.requires.base c.requires.lead
