-- The streams that an action's own references name.
use Rattle.std.specs.Prelude.{◌≡◌, ◌⊎◌, ℕ, List, Some, slice_get, get_or}
use Rattle.pst_scen.specs.declared.act.Act.{Act}
use Rattle.pst_scen.specs.declared.act.Filled.{Filled}
use Rattle.pst_scen.specs.declared.act.Flow.TheVariants.{StreamIn, StreamOut}
use Rattle.pst_scen.specs.declared.scenario.Scenario.{Scenario}
use Rattle.pst_scen.specs.Flows.{IsAct, LeadsTo}

-- it is the end of a stream whose other end is the action's
pub record IsStreamTo (filled : Filled) (b : ℕ) : Type 0 where
  pub of_flow : (filled.flow ≡ StreamIn) ⊎ (filled.flow ≡ StreamOut)
  pub leads : LeadsTo filled.link b

-- a reference of the action is the end of a stream whose other end is the second action's
pub record StreamsFrom (s : Scenario) (a b : ℕ) : Type 0 where
  pub act : Act
  pub reference : ℕ
  pub filled : Filled
  pub is_act : IsAct s a act
  pub is : slice_get act.references reference ≡ Some filled
  pub to : IsStreamTo filled b

-- the reference joins the action only to such as have its number
abbrev pub IsJoined : List ℕ → ℕ → Filled → Type 0
IsJoined groups a filled = (b : ℕ) → IsStreamTo filled b → get_or groups a 0 ≡ get_or groups b 0
