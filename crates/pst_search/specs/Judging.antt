-- What is told of a scenario that is judged.
use Rattle.std.specs.Prelude.{◌≡◌, Bool, true, false, Option, None, Some}
use Rattle.pst_model.specs.ModelTree.{ModelTree}
use Rattle.pst_scen.specs.declared.scenario.Scenario.{Scenario}
use Rattle.pst_scen.specs.Plan.{Entries}
use Rattle.pst_scen.specs.Plans.{IsPlanOf}
use Rattle.pst_scen.specs.Refusals.{Refusal, IsRefused, IsUnrefused}
use Rattle.pst_legal.specs.Constraints.{Holds}
use Rattle.pst_graph.specs.declared.planning.PlanEnd.{PlanEnd}
use Rattle.pst_graph.specs.declared.planning.PlanEnd.TheVariants as end
use Rattle.pst_graph.specs.Ends.{refusal_of}

-- the end of a plan is a refusal, or want of memory
abbrev pub TellsEnd : PlanEnd → Bool → Type 0
TellsEnd e true = (r : Refusal) × (refusal_of e ≡ Some r)
TellsEnd e false = e ≡ end.NoMemory

abbrev pub TellsHolding : ModelTree → Scenario → Bool → Type 0
TellsHolding m s true = Holds m s
TellsHolding m s false = Holds m s → ⊥

-- there is a plan, or it refuses the scenario
abbrev pub TellsPlan : Scenario → Bool → Type 0
TellsPlan s true = (p : Entries) × IsPlanOf s p
TellsPlan s false = ((r : Refusal) × IsRefused s r) × (IsUnrefused s → ⊥)

-- a plan of the scenario, or it refuses the scenario
abbrev pub TellsPlanned : Scenario → Option Entries → Type 0
TellsPlanned s (Some p) = IsPlanOf s p
TellsPlanned s None = ((r : Refusal) × IsRefused s r) × (IsUnrefused s → ⊥)

-- every constraint holds and there is a plan, or one of these isn't so
abbrev pub TellsLegal : ModelTree → Scenario → Bool → Type 0
TellsLegal m s true = Holds m s × ((p : Entries) × IsPlanOf s p)
TellsLegal m s false = Holds m s → IsUnrefused s → ⊥
