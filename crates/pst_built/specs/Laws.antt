-- The laws of the scenarios that lists of choices read whole.
use Rattle.std.specs.Prelude.{◌≡◌, ℕ, List, false, Some}
use Rattle.pst_model.specs.ModelTree.{ModelTree, ActionTree}
use Rattle.pst_model.specs.Sound.{IsSound}
use Rattle.pst_scen.specs.declared.scenario.Scenario.{Scenario}
use Rattle.pst_scen.specs.Scenarios.{AreLinked, IsScenario, IsSmall, IsWellFormed}
use Rattle.pst_legal.specs.Types.{type_of}
use Rattle.pst_legal.specs.Growing.{IsWithin}
use Rattle.pst_legal.specs.Legal.{Legal}
use Rattle.pst_legal.specs.ValueReading.{Whole, read}
use Rattle.pst_order.specs.Built.{IsBuilt}
use Rattle.pst_built.specs.Sources.{HasSources}

-- A scenario that a list of choices reads whole is built, and of the level that was asked for.
abbrev pub WholeReadingsAreBuilt : Type 0
WholeReadingsAreBuilt = (m : ModelTree) (root seed level : ℕ) (choices : List ℕ) (s : Scenario) → read m root seed level choices ≡ Whole s → IsBuilt s × (s.level ≡ level)

-- It is within the limits on its size.
abbrev pub WholeReadingsAreWithin : Type 0
WholeReadingsAreWithin = (m : ModelTree) (root seed level : ℕ) (choices : List ℕ) (s : Scenario) → read m root seed level choices ≡ Whole s → IsWithin s.nodes s.actions

-- Its links are of their references' kinds and name references that there are, and the ends of a stream name each other.
abbrev pub WholeReadingsAreLinked : Type 0
WholeReadingsAreLinked = (m : ModelTree) (root seed level : ℕ) (choices : List ℕ) (s : Scenario) → read m root seed level choices ≡ Whole s → AreLinked s.actions

-- Its needs have their sources, and its inferred actions may be inferred.
abbrev pub WholeReadingsHaveSources : Type 0
WholeReadingsHaveSources = (m : ModelTree) (root seed level : ℕ) (choices : List ℕ) (s : Scenario) → read m root seed level choices ≡ Whole s → HasSources m s

-- the root isn't abstract, so that its references are served
abbrev pub IsConcreteRoot : ModelTree → ℕ → Type 0
IsConcreteRoot m root = (type : ActionTree) → type_of m root ≡ Some type → type.is_abstract ≡ false

-- Of a sound model and such a root it is a scenario.
abbrev pub WholeReadingsAreScenarios : Type 0
WholeReadingsAreScenarios = (m : ModelTree) (root seed level : ℕ) (choices : List ℕ) (s : Scenario) → IsSound m → IsConcreteRoot m root → read m root seed level choices ≡ Whole s → IsScenario s

-- A scenario whose numbers have 31 bits is what each call on a scenario asks for.
abbrev pub ScenariosAreWellFormed : Type 0
ScenariosAreWellFormed = (s : Scenario) → IsScenario s → IsSmall s → IsWellFormed s

-- So is one that a list of choices reads whole, of any model.
abbrev pub WholeReadingsAreWellFormed : Type 0
WholeReadingsAreWellFormed = (m : ModelTree) (root seed level : ℕ) (choices : List ℕ) (s : Scenario) → read m root seed level choices ≡ Whole s → IsWellFormed s

-- So is a legal one.
abbrev pub LegalScenariosAreWellFormed : Type 0
LegalScenariosAreWellFormed = (m : ModelTree) (root : ℕ) (s : Scenario) → Legal m root s → IsWellFormed s
