use Rattle.pst_scen.specs.declared.act.Flow.TheVariants as flow
use Rattle.pst_pool_sources.proofs.ends.SourceEnds.take.Goals as goal

pub take_out-requires : goal.take_out-requires
take_out-requires c = c.requires flow.StreamOut

pub take_out-requires-in-StreamOut : goal.take_out-requires-in-StreamOut
take_out-requires-in-StreamOut c = c.requires flow.StreamIn

pub take_out-requires-in-StateOut : goal.take_out-requires-in-StateOut
take_out-requires-in-StateOut c = c.requires flow.StateOut
