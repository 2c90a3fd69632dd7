-- Uses of resource instances and state pools, and which of them exclude each other.
use Rattle.std.specs.Prelude.{◌≡◌, ◌≢◌, ◌⊎◌, ◌<◌, ℕ, List, Some, slice_get, true, false}
use Rattle.pst_scen.specs.declared.act.Act.{Act}
use Rattle.pst_scen.specs.declared.act.Filled.{Filled}
use Rattle.pst_scen.specs.declared.act.Claimed.{Claimed}
use Rattle.pst_scen.specs.declared.act.Flow.TheVariants.{StateIn, StateOut}
use Rattle.pst_scen.specs.declared.scenario.Scenario.{Scenario}
use Rattle.pst_scen.specs.Flows.{IsAct}
use Rattle.pst_graph.specs.declared.uses.Use.{Use}

-- the use is that of the claim by the action
pub record IsClaimUse (claimed : Claimed) (a : ℕ) (u : Use) : Type 0 where
  pub act : u.act ≡ a
  pub state : u.state ≡ false
  pub pool : u.pool ≡ claimed.pool
  pub instance : u.instance ≡ claimed.instance
  pub alone : u.alone ≡ claimed.lock

-- the use is that of the state reference by the action
pub record IsStateUse (filled : Filled) (a : ℕ) (u : Use) : Type 0 where
  pub act : u.act ≡ a
  pub state : u.state ≡ true
  pub pool : u.pool ≡ filled.pool
  pub instance : u.instance ≡ 0
  pub kind : ((filled.flow ≡ StateIn) × (u.alone ≡ false)) ⊎ ((filled.flow ≡ StateOut) × (u.alone ≡ true))

-- the use is one of the claims, or of the references
pub record IsUseOfClaims (claims : List Claimed) (a : ℕ) (u : Use) : Type 0 where
  pub claim : ℕ
  pub claimed : Claimed
  pub is : slice_get claims claim ≡ Some claimed
  pub one : IsClaimUse claimed a u

pub record IsUseOfReferences (references : List Filled) (a : ℕ) (u : Use) : Type 0 where
  pub reference : ℕ
  pub filled : Filled
  pub is : slice_get references reference ≡ Some filled
  pub one : IsStateUse filled a u

-- the action has the use
pub record IsUse (s : Scenario) (u : Use) : Type 0 where
  pub act : Act
  pub is_act : IsAct s u.act act
  pub of : IsUseOfClaims act.claims u.act u ⊎ IsUseOfReferences act.references u.act u

-- an entry of the list has the property
pub record Listed {X : Type 0} (uses : List X) (P : X → Type 0) : Type 0 where
  pub place : ℕ
  pub one : X
  pub is : slice_get uses place ≡ Some one
  pub has : P one

-- The new list has the entries of the old one, and beyond them only such as have the property.
pub record Lengthens {X : Type 0} (old new : List X) (P : X → Type 0) : Type 0 where
  pub kept : (i : ℕ) (u : X) → slice_get old i ≡ Some u → slice_get new i ≡ Some u
  pub sound : (i : ℕ) (u : X) → slice_get new i ≡ Some u → (slice_get old i ≡ Some u) ⊎ P u

-- the uses of these claims, and of these references, are in the list
abbrev pub HasClaims : List Use → List Claimed → ℕ → ℕ → Type 0
HasClaims uses claims a to = (claim : ℕ) (claimed : Claimed) → claim < to → slice_get claims claim ≡ Some claimed → Listed uses (IsClaimUse claimed a)

abbrev pub HasReferences : List Use → List Filled → ℕ → ℕ → Type 0
HasReferences uses references a to = (reference : ℕ) (filled : Filled) → reference < to → slice_get references reference ≡ Some filled → (filled.flow ≡ StateIn) ⊎ (filled.flow ≡ StateOut) → Listed uses (IsStateUse filled a)

-- all uses of the actions before the given one are in the list, and no others
pub record AreUses (s : Scenario) (uses : List Use) (to : ℕ) : Type 0 where
  pub sound : (i : ℕ) (u : Use) → slice_get uses i ≡ Some u → IsUse s u
  pub claims : (a claim : ℕ) (act : Act) (claimed : Claimed) → a < to → IsAct s a act → slice_get act.claims claim ≡ Some claimed → Listed uses (IsClaimUse claimed a)
  pub references : (a reference : ℕ) (act : Act) (filled : Filled) → a < to → IsAct s a act → slice_get act.references reference ≡ Some filled → (filled.flow ≡ StateIn) ⊎ (filled.flow ≡ StateOut) → Listed uses (IsStateUse filled a)

-- both are of one instance or one state pool, and one of them excludes the other
pub record AreExclusive (u v : Use) : Type 0 where
  pub state : u.state ≡ v.state
  pub pool : u.pool ≡ v.pool
  pub instance : u.instance ≡ v.instance
  pub alone : (u.alone ≡ true) ⊎ (v.alone ≡ true)

-- the pair is of the actions of the two uses, which are two and exclude each other
pub record AreApart (u v : Use) (c d : ℕ) : Type 0 where
  pub first : c ≡ u.act
  pub second : d ≡ v.act
  pub different : c ≢ d
  pub exclusive : AreExclusive u v

-- the pair is of the action of the use and one that the use at that place keeps apart from it
pub record IsApartFrom (u : Use) (uses : List Use) (place c d : ℕ) : Type 0 where
  pub other : Use
  pub is : slice_get uses place ≡ Some other
  pub apart : AreApart u other c d

-- the same for the uses of a list
pub record IsApartFromAny (u : Use) (uses : List Use) (c d : ℕ) : Type 0 where
  pub place : ℕ
  pub at : IsApartFrom u uses place c d

-- the same for the use at that place of the list, or at any
pub record IsApartAt (uses : List Use) (place c d : ℕ) : Type 0 where
  pub one : Use
  pub is : slice_get uses place ≡ Some one
  pub apart : IsApartFromAny one uses c d

pub record AreApartIn (uses : List Use) (c d : ℕ) : Type 0 where
  pub place : ℕ
  pub at : IsApartAt uses place c d
