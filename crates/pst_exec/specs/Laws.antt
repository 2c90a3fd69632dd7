-- The laws of what the core makes.
use Rattle.std.specs.Prelude.{ℕ, List}
use Rattle.pst_scen.specs.declared.scenario.Scenario.{Scenario}
use Rattle.pst_scen.specs.declared.event.Event.{Event}
use Rattle.pst_scen.specs.Core.{Command, Core}
use Rattle.pst_order.specs.Rule.{IsByRule, IsByCore}

-- What the core makes of commands is one block behind another, and each is the start of the least startable group on the least idle lanes, or the end of
-- an action that runs.
abbrev pub CoreMakesBlocks : Type 0
CoreMakesBlocks = (s : Scenario) (lanes : ℕ) (commands : List Command) (trace : List Event) → Core s lanes commands trace → IsByCore s lanes trace

-- So each block is by the core's rule: the group that starts is ready, and on idle lanes.
abbrev pub CommandsMakeByRule : Type 0
CommandsMakeByRule = (s : Scenario) (lanes : ℕ) (commands : List Command) (trace : List Event) → Core s lanes commands trace → IsByRule s lanes trace
