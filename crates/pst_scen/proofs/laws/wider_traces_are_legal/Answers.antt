use Rattle.pst_scen.proofs.Blocks.{wider_traces}
use Rattle.pst_scen.proofs.laws.wider_traces_are_legal.Goals as goal

pub returns : goal.returns
returns c = wider_traces
