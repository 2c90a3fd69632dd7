-- What of the order stays as a list of choices grows.
use Rattle.std.specs.Prelude.{◌≡◌, ◌↔◌, ◌≢◌, ℕ, ◌<◌, List, ◌++◌, length}
use Rattle.pst_model.specs.ModelTree.{ModelTree}
use Rattle.pst_scen.specs.declared.scenario.Scenario.{Scenario}
use Rattle.pst_scen.specs.Scenarios.{AreLinked, IsWellFormed}
use Rattle.pst_scen.specs.Order.{Before, Together, Cause, Must}
use Rattle.pst_scen.specs.Conflicts.{Conflict}
use Rattle.pst_scen.specs.Plans.{Contend, ClashesAlone, StandParallel}
use Rattle.pst_legal.specs.ValueReading.{Whole, read}
use Rattle.pst_legal.specs.First.{ReadsLegal}
use Rattle.pst_built.specs.GoesOn.{GoesOn}
use Rattle.pst_built.specs.SoFar.{CauseSoFar, MustSoFar, HasRead}

-- What a longer list reads goes on from what the list has read.
abbrev pub LongerListsGoOn : Type 0
LongerListsGoOn =
    (m : ModelTree) (root seed level : ℕ) (choices more : List ℕ) (s t : Scenario)
    → HasRead (read m root seed level choices) s → HasRead (read m root seed level (choices ++ more)) t → GoesOn s t

-- From a scenario so far to one that a longer list reads whole, all this stays: what comes before, what is a direct cause,
-- what is joined in a group, what must come before, what conflicts, what contends, what clashes alone, and what stands in
-- different branches of a parallel block.
pub record OrderStays (s t : Scenario) : Type 0 where
  pub before : (a b : ℕ) → Before s a b → Before t a b
  pub cause : (a b : ℕ) → CauseSoFar s a b → Cause t a b
  pub together : (a b : ℕ) → Together s a b → Together t a b
  pub must : (a b : ℕ) → MustSoFar s a b → Must t a b
  pub conflict : (a b : ℕ) → Conflict s a b → Conflict t a b
  pub contend : (a b : ℕ) → Contend s a b → Contend t a b
  pub alone : (a : ℕ) → ClashesAlone s a → ClashesAlone t a
  pub parallel : (a b : ℕ) → StandParallel s a b → StandParallel t a b

abbrev pub OrdersStay : Type 0
OrdersStay =
    (m : ModelTree) (root seed level : ℕ) (choices more : List ℕ) (s t : Scenario)
    → HasRead (read m root seed level choices) s → read m root seed level (choices ++ more) ≡ Whole t → OrderStays s t

-- no longer list reads a legal scenario
abbrev pub IsBarren : ModelTree → ℕ → ℕ → ℕ → List ℕ → Type 0
IsBarren m root seed level choices = (more : List ℕ) (t : Scenario) → ReadsLegal m root seed level (choices ++ more) t → ⊥

-- So an action that must come before itself refuses all longer lists,
abbrev pub CyclesStay : Type 0
CyclesStay =
    (m : ModelTree) (root seed level : ℕ) (choices : List ℕ) (s : Scenario) (a : ℕ)
    → HasRead (read m root seed level choices) s → a < length s.actions → MustSoFar s a a → IsBarren m root seed level choices

-- and so do two members of a group that conflict,
abbrev pub GroupClashesStay : Type 0
GroupClashesStay =
    (m : ModelTree) (root seed level : ℕ) (choices : List ℕ) (s : Scenario) (a b : ℕ)
    → HasRead (read m root seed level choices) s → Together s a b → Conflict s a b → IsBarren m root seed level choices

-- an action whose own claims clash,
abbrev pub OwnClashesStay : Type 0
OwnClashesStay =
    (m : ModelTree) (root seed level : ℕ) (choices : List ℕ) (s : Scenario) (a : ℕ)
    → HasRead (read m root seed level choices) s → a < length s.actions → ClashesAlone s a → IsBarren m root seed level choices

-- and two actions in different branches of a parallel block of which one must come before the other,
abbrev pub ParallelOrdersStay : Type 0
ParallelOrdersStay =
    (m : ModelTree) (root seed level : ℕ) (choices : List ℕ) (s : Scenario) (a b : ℕ)
    → HasRead (read m root seed level choices) s → StandParallel s a b → MustSoFar s a b → IsBarren m root seed level choices

-- or that contend for an instance.
abbrev pub ParallelClashesStay : Type 0
ParallelClashesStay =
    (m : ModelTree) (root seed level : ℕ) (choices : List ℕ) (s : Scenario) (a b : ℕ)
    → HasRead (read m root seed level choices) s → StandParallel s a b → a ≢ b → Contend s a b → IsBarren m root seed level choices

-- A plan looks at no value: two linked scenarios of which each goes on from the other, so that they differ in values alone, have
-- the same groups, the same order and the same conflicts.
abbrev pub PlansLookAtNoValue : Type 0
PlansLookAtNoValue =
    (s t : Scenario) → AreLinked s.actions → AreLinked t.actions → IsWellFormed s → IsWellFormed t → GoesOn s t → GoesOn t s → (a b : ℕ)
    → (Together s a b ↔ Together t a b) × (Must s a b ↔ Must t a b) × (Conflict s a b ↔ Conflict t a b)
