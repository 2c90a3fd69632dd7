use Rattle.pst_scen.proofs.Blocks.{whole_traces}
use Rattle.pst_scen.proofs.laws.whole_traces_are_prefixes.Goals as goal

pub returns : goal.returns
returns c = whole_traces
