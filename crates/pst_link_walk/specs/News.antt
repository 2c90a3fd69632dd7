-- What one choice of an activity or a source makes new.
use Rattle.std.specs.Prelude.{◌≡◌, ◌⊎◌, ℕ, ◌+◌, ◌<◌, List, [], ◌∷◌, ◌++◌, map, length, drop, Option, Some, None, slice_get}
use Rattle.std.specs.Global.{Vec}
use Rattle.pst_model.specs.ModelTree.{ModelTree}
use Rattle.pst_scen.specs.declared.act.Act.{Act}
use Rattle.pst_scen.specs.declared.tree.Node.{Node}
use Rattle.pst_scen.specs.declared.scenario.Scenario.{Scenario}
use Rattle.pst_legal.specs.Reading.{Wants}
use Rattle.pst_shape.specs.Walks.{IfRead}
use Rattle.pst_open_ends.specs.declared.links.Relinked.{Relinked}
use Rattle.pst_open_ends.specs.declared.links.Change.{Change}
use Rattle.pst_open_ends.specs.Changes.{opened}
use Rattle.pst_link_walk.specs.Walks.{Kept, tree_reading, reading, answer}
use Rattle.pst_link_walk.specs.Made.{IsInside}

abbrev pub at_choices : Kept → List ℕ → Kept
at_choices k choices = record { model = k.model; root = k.root; seed = k.seed; level = k.level; choices = choices }

-- how many actions there are, while the activity is being read
abbrev pub IsSize : Kept → Option ℕ → Type 0
IsSize k None = Unit {0}
IsSize k (Some size) = IsInside (tree_reading k.model k.root k.seed k.level k.choices) × IfRead (answer k) (λ s. size ≡ length s.actions)

-- All nodes but the last of one scenario stand in another as they are, and all actions of that one but these in the first.
pub record GoesOnBy (s t : Scenario) (fresh : List Act) : Type 0 where
  pub nodes : (n : ℕ) (node : Node) → n + 1 < length s.nodes → slice_get t.nodes n ≡ Some node → slice_get s.nodes n ≡ Some node
  pub acts : (a : ℕ) (act : Act) → slice_get t.actions a ≡ Some act → (slice_get s.actions a ≡ Some act) ⊎ ((i : ℕ) × (slice_get fresh i ≡ Some act))

-- the last choice made these actions, or linked them, and no others; so many actions there were before
abbrev pub IsNews : Kept → Option ℕ → Option (Vec Act) → Type 0
IsNews k size None = Unit {0}
IsNews k size (Some acts) =
    (choices : List ℕ) (digit : ℕ) → k.choices ≡ choices ++ digit ∷ [] → IsSize (at_choices k choices) size
    → (s t : Scenario) (n i : ℕ) → reading (at_choices k choices) ≡ Wants s n → reading k ≡ Wants t i → GoesOnBy s t acts.items

-- ---- parts

-- the leaves from a number on, opened
abbrev pub OpensFrom : ModelTree → List Act → Option ℕ → Option (Vec Act) → Type 0
OpensFrom m leaves size None = Unit {0}
OpensFrom m leaves size (Some acts) = (n : ℕ) × (size ≡ Some n) × (acts.items ≡ drop n (map (opened m) leaves))

abbrev pub act_of : Option Act → List Act
act_of None = []
act_of (Some act) = act ∷ []

abbrev pub far_act : List Act → Option Relinked → List Act
far_act acts None = []
far_act acts (Some far) = act_of (slice_get acts far.act)

-- all actions that a change made or linked
abbrev pub changed_acts : Change → List Act → List Act
changed_acts change acts = (drop change.count acts ++ act_of (slice_get acts change.ends.need.act)) ++ far_act acts change.ends.far

abbrev pub AreChanged : Change → List Act → Option (Vec Act) → Type 0
AreChanged change acts None = Unit {0}
AreChanged change acts (Some found) = found.items ≡ changed_acts change acts
