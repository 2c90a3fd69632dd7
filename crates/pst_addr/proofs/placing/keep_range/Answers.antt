use Rattle.pst_addr.specs.Columns.{Stands}
use Rattle.pst_addr.proofs.placing.keep_range.Goals as goal

pub returns-in_ok-add_range : goal.returns-in_ok-add_range
returns-in_ok-add_range c = Stands c.in_ok-add_range.ensures.0 c.in_ok-add_range.ensures.1 c.in_ok-add_range.ensures.2
