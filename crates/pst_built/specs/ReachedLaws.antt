-- The laws of what lists of choices lead to.
use Rattle.std.specs.Prelude.{◌≡◌, ℕ, List}
use Rattle.pst_model.specs.ModelTree.{ModelTree}
use Rattle.pst_model.specs.Sound.{IsSound}
use Rattle.pst_scen.specs.declared.scenario.Scenario.{Scenario}
use Rattle.pst_scen.specs.Scenarios.{IsScenario}
use Rattle.pst_legal.specs.Growing.{nothing_yet}
use Rattle.pst_legal.specs.Reading.{read_tree}
use Rattle.pst_legal.specs.SupplyReading.{read_supply}
use Rattle.pst_legal.specs.Fits.{Fits}
use Rattle.pst_legal.specs.Supplied.{Supplied}
use Rattle.pst_legal.specs.Legal.{Legal}
use Rattle.pst_legal.specs.ValueReading.{Whole, read_values, read}
use Rattle.pst_built.specs.Reached.{IsReached}
use Rattle.pst_built.specs.Parts.{leaves_alone, links_alone}

-- Each fill of the root's activity is read by some choices, whatever the seed is.
abbrev pub ActivitiesAreRead : Type 0
ActivitiesAreRead =
    (m : ModelTree) (root seed : ℕ) (s : Scenario) → IsSound m → IsScenario s → Fits m root s
    → IsReached (read_tree m seed root) (nothing_yet s.level) 0 (leaves_alone s)

-- From its leaves on, each supplied scenario's links are read, with the actions that it infers.
abbrev pub SourcesAreRead : Type 0
SourcesAreRead =
    (m : ModelTree) (root seed place : ℕ) (s : Scenario) → IsScenario s → Fits m root s → Supplied m s
    → IsReached (read_supply m seed) (leaves_alone s) place (links_alone s)

-- From its links on, each value is read: the instances that it claims, its first objects, and the fields of its actions, of
-- what they write and of what they claim.
abbrev pub ValuesAreRead : Type 0
ValuesAreRead =
    (m : ModelTree) (root seed place : ℕ) (s : Scenario) → IsSound m → IsScenario s → Fits m root s
    → IsReached (read_values m seed) (links_alone s) place s

-- Each scenario of a sound model that fills the root and whose needs have their sources is read whole, in its level, by some
-- list of choices, whatever the seed is.
abbrev pub SuppliedScenariosAreRead : Type 0
SuppliedScenariosAreRead =
    (m : ModelTree) (root seed : ℕ) (s : Scenario) → IsSound m → IsScenario s → Fits m root s → Supplied m s
    → (choices : List ℕ) × (read m root seed s.level choices ≡ Whole s)

-- So each legal scenario is.
abbrev pub LegalScenariosAreRead : Type 0
LegalScenariosAreRead = (m : ModelTree) (root seed : ℕ) (s : Scenario) → IsSound m → Legal m root s → (choices : List ℕ) × (read m root seed s.level choices ≡ Whole s)
