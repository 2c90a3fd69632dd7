-- What is refused stays refused.
use Rattle.std.specs.Prelude.{◌≡◌, ◌≢◌, ℕ, List, [], ◌++◌, Contains, true}
use Rattle.pst_model.specs.ConstraintTree.{SlotTree, ConstraintTree}
use Rattle.pst_model.specs.ModelTree.{ModelTree}
use Rattle.pst_model.specs.Sound.{IsSound}
use Rattle.pst_scen.specs.declared.scenario.Scenario.{Scenario}
use Rattle.pst_legal.specs.Standing.{Standing}
use Rattle.pst_legal.specs.Constraints.{HasConstraint, Holds, is_refused_at}
use Rattle.pst_legal.specs.Legal.{Legal}
use Rattle.pst_legal.specs.ValueReading.{read}
use Rattle.pst_legal.specs.First.{ReadsLegal, IsLive}
use Rattle.pst_built.specs.SoFar.{HasRead}
use Rattle.pst_built.specs.OrderStaysLaws.{IsBarren}
use Rattle.pst_built.specs.Known.{Narrower, InDomains}
use Rattle.pst_built.specs.Refused.{SomeRefused}

-- What is known of a legal scenario of a sound model lies in its domains.
abbrev pub LegalScenariosAreInDomains : Type 0
LegalScenariosAreInDomains = (m : ModelTree) (root : ℕ) (s : Scenario) → IsSound m → Legal m root s → InDomains m s

-- A scenario of a sound model in which every constraint holds has none that is refused.
abbrev pub RefusedDoesNotHold : Type 0
RefusedDoesNotHold = (m : ModelTree) (s : Scenario) → IsSound m → Holds m s → SomeRefused m s → ⊥

-- Where a constraint is refused at bounds that hold what its slots stand for in a scenario, it doesn't hold there: so bounds may
-- forget what is known of all slots but a few.
abbrev pub RefusedAtWiderBounds : Type 0
RefusedAtWiderBounds =
    (m : ModelTree) (s : Scenario) (k : ConstraintTree) (standing wider : SlotTree → Standing) → IsSound m → Holds m s → HasConstraint m s k standing
    → ((slot : SlotTree) → Contains k.slots slot → Narrower (standing slot) (wider slot)) → is_refused_at k wider ≡ true → ⊥

-- Where a constraint of what a list has read is refused, no longer list reads a legal scenario.
abbrev pub RefusedListsAreBarren : Type 0
RefusedListsAreBarren =
    (m : ModelTree) (root seed level : ℕ) (choices : List ℕ) (s : Scenario) → IsSound m
    → HasRead (read m root seed level choices) s → SomeRefused m s → IsBarren m root seed level choices

-- Each list that begins one that reads a legal scenario is live, unless it is empty.
abbrev pub BeginningsAreLive : Type 0
BeginningsAreLive =
    (m : ModelTree) (root seed level : ℕ) (choices more : List ℕ) (t : Scenario) → IsSound m → choices ≢ []
    → ReadsLegal m root seed level (choices ++ more) t → IsLive m root seed level choices
