use Rattle.pst_exec.proofs.Blocks.{core_blocks, core_rule}
use Rattle.pst_exec.proofs.laws.core_makes_blocks.Goals as goal

pub returns : goal.returns
returns c = record { blocks = core_blocks; rule = core_rule c.core_is_by_rule.ensures }
