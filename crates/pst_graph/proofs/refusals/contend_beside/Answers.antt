use Rattle.std.proofs.Common.{refl}
use Rattle.pst_graph.proofs.refusals.contend_beside.Goals as goal

pub returns : goal.returns
returns c = (
  λ t. record { order = c.requires.order; parallel = c.stand_parallel.ensures.0 t; contend = c.if-not-contend.ensures.0 refl },
  λ h. c.stand_parallel.ensures.1 h.parallel,
)
