use Rattle.std.proofs.Common.{List, length, subst, sym}
use Rattle.pst_scen.specs.declared.scenario.Scenario.{Scenario}
use Rattle.pst_scen.specs.declared.event.Event.{Event}
use Rattle.pst_scen.specs.Trace.{Prefix}
use Rattle.pst_scen.specs.Plans.{IsPlanOf}
use Rattle.pst_order.specs.Facts.{LinksStates}
use Rattle.pst_static.specs.Views.{View}
use Rattle.pst_static.specs.Runs.{state_of}
use Rattle.pst_static.proofs.machine.Machine.trace.Goals as goal

pub returns-clause-prefix : goal.returns-clause-prefix
returns-clause-prefix c =
    let m = c.self.inside in
    let i = c.self.invariant in
    subst (λ (v : View). (s : Scenario) → LinksStates s → IsPlanOf s v.plan → Prefix s (length v.programs) c.deref.result.now) c.self.view_is
    (subst (λ (t : List Event). (s : Scenario) → LinksStates s → IsPlanOf s m.plan.now → Prefix s (length m.programs.now) t) (sym c.deref.ensures.value)
    (λ s links plan. c.machine_is_safe.ensures.prefix s m.plan.now m.programs.now i.reached.0 (state_of m.run) links plan i.wide
    (c.programs_are_safe.ensures.safe s m.plan.now (length m.programs.now) m.programs.now plan i.are) i.reached.1))
