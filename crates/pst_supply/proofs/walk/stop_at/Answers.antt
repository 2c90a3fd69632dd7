use Rattle.std.proofs.Common.{ap}
use Rattle.std.specs.Prelude.{is_some}
use Rattle.pst_supply.proofs.walk.stop_at.Goals as goal

pub options-requires-clause-beyond : goal.options-requires-clause-beyond
options-requires-clause-beyond c = c.requires.beyond (ap is_some c.in-Some.is)
