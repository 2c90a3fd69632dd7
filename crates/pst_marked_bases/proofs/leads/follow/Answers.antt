use Rattle.std.proofs.Common.{arith}
use Rattle.pst_marked_bases.proofs.Leading.{behind_steps}
use Rattle.pst_marked_bases.proofs.leads.follow.Goals as goal

pub returns-then-row-left-clause-same : goal.returns-then-row-left-clause-same
returns-then-row-left-clause-same c = behind_steps c.args.marks.now c.args.index.now c.lead_of-row.result c.args.here.now c.args.left c.lead_of-row.ensures.lead c.lead_of-row.ensures.owner (omega (arith, c.if-row-left.true))
