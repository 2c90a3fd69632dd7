use Rattle.pst_sweep_table.proofs.Used.{nothing_used}
use Rattle.pst_sweep_table.proofs.uses.Uses.none.Goals as goal

pub returns : goal.returns
returns c = nothing_used c.new.result.items c.args.types c.new.ensures.items
