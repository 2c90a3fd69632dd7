use Rattle.pst_read_legal.proofs.Chain.{come_from_first}
use Rattle.pst_read_legal.proofs.Planned.{are_supplied}
use Rattle.pst_read_legal.proofs.laws.writers_come_from_first.Goals as goal

pub returns-clause-chain : goal.returns-clause-chain
returns-clause-chain c = come_from_first c.must_is_kept.ensures

pub returns-clause-supplied : goal.returns-clause-supplied
returns-clause-supplied c = are_supplied (come_from_first c.must_is_kept.ensures) c.whole_readings_have_sources.ensures c.whole_readings_are_numbered.ensures
