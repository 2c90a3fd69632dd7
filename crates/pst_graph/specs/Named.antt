-- Actions that the references of others name as what comes before them.
use Rattle.std.specs.Prelude.{◌≡◌, ◌⊎◌, ℕ, List, Some, slice_get}
use Rattle.pst_scen.specs.declared.act.Act.{Act}
use Rattle.pst_scen.specs.declared.act.Filled.{Filled}
use Rattle.pst_scen.specs.declared.act.Flow.{Flow}
use Rattle.pst_scen.specs.declared.act.Flow.TheVariants.{BufferIn, StateIn, StateOut}
use Rattle.pst_scen.specs.declared.scenario.Scenario.{Scenario}
use Rattle.pst_scen.specs.Flows.{IsAct, LeadsTo}

-- what a reference of this kind is linked to comes before its action
abbrev pub NamesEarlier : Flow → Type 0
NamesEarlier flow = (flow ≡ BufferIn) ⊎ ((flow ≡ StateIn) ⊎ (flow ≡ StateOut))

-- the pair is of the action that the reference names, and of that of the reference
pub record IsNaming (filled : Filled) (x c d : ℕ) : Type 0 where
  pub second : d ≡ x
  pub of_flow : NamesEarlier filled.flow
  pub leads : LeadsTo filled.link c

-- the same for the reference at that place
pub record IsNamingAt (references : List Filled) (x place c d : ℕ) : Type 0 where
  pub filled : Filled
  pub is : slice_get references place ≡ Some filled
  pub naming : IsNaming filled x c d

-- the same for some reference
pub record IsNamingIn (references : List Filled) (x c d : ℕ) : Type 0 where
  pub place : ℕ
  pub at : IsNamingAt references x place c d

-- the same for the references of the action
pub record IsNamedBy (s : Scenario) (x c d : ℕ) : Type 0 where
  pub act : Act
  pub is_act : IsAct s x act
  pub naming : IsNamingIn act.references x c d

-- a reference of the second action names the first as what comes before
abbrev pub IsNamed : Scenario → ℕ → ℕ → Type 0
IsNamed s c d = IsNamedBy s d c d
