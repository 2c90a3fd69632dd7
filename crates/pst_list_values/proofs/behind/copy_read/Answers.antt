use Rattle.std.proofs.Common.{subst, sym}
use Rattle.pst_built.specs.SoFar.{HasRead}
use Rattle.pst_list_walk.specs.Walks.{answer}
use Rattle.pst_list_values.proofs.Ties.{has_read}
use Rattle.pst_list_values.proofs.behind.copy_read.Goals as goal

pub returns-clause-read : goal.returns-clause-read
returns-clause-read c = subst (HasRead (answer c.args.lists.now)) (sym c.in_ok-copy.ensures) (has_read (answer c.args.lists.now) c.in-Some.scenario.now (c.is_dead-dead.ensures c.if-dead.false) c.in-Some.ensures.read)

pub returns-clause-sources : goal.returns-clause-sources
returns-clause-sources c = c.in-Some.ensures.sources
