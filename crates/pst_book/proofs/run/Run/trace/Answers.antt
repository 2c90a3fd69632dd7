use Rattle.std.proofs.Common.{◌<◌, List, subst}
use Rattle.pst_scen.specs.declared.event.Event.{Event}
use Rattle.pst_scen.specs.Trace.{StartsOn}
use Rattle.pst_book.specs.Tables.{RunView}
use Rattle.pst_book.proofs.run.Run.trace.Goals as goal

pub returns-clause-lanes : goal.returns-clause-lanes
returns-clause-lanes c =
    λ a lane on. subst (λ (v : RunView). lane < v.lanes) c.self.view_is
    (c.self.invariant.inside.on_lanes a lane (subst (λ (t : List Event). StartsOn t a lane) c.deref.ensures.value on))
