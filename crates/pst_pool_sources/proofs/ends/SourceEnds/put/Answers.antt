use Rattle.std.proofs.Common.{ap}
use Rattle.pst_scen.specs.declared.act.Flow.TheVariants as flow
use Rattle.pst_pool_sources.specs.Offers.{takes}
use Rattle.pst_pool_sources.proofs.ends.SourceEnds.put.Goals as goal

pub put_in-requires : goal.put_in-requires
put_in-requires c = c.requires flow.StreamOut (ap (takes flow.StreamOut) c.in-StreamIn.is)

pub put_in-requires-in-StreamOut : goal.put_in-requires-in-StreamOut
put_in-requires-in-StreamOut c = c.requires flow.StreamIn (ap (takes flow.StreamIn) c.in-StreamOut.is)

pub put_in-requires-in-StateOut : goal.put_in-requires-in-StateOut
put_in-requires-in-StateOut c = c.requires flow.StateOut (ap (takes flow.StateOut) c.in-StateOut.is)
