-- Which scenarios fit a model in shape.
use Rattle.std.specs.Prelude.{◌≡◌, ℕ, List, None, Some, slice_get}
use Rattle.pst_model.specs.ModelTree.{ModelTree}
use Rattle.pst_model.specs.Sound.{IsSound}
use Rattle.pst_scen.specs.declared.act.Act.{Act}
use Rattle.pst_scen.specs.declared.scenario.Scenario.{Scenario}
use Rattle.pst_scen.specs.Scenarios.{IsScenario}
use Rattle.pst_legal.specs.Shape.{HasShape}
use Rattle.pst_legal.specs.Fits.{Fits}
use Rattle.pst_legal.specs.Supplied.{IsInferable}
use Rattle.pst_legal.specs.ValueReading.{Whole, read}
use Rattle.pst_built.specs.Laws.{IsConcreteRoot}

-- A scenario of a sound model that fits, and whose inferred actions may be inferred, fits in shape.
abbrev pub FittingScenariosHaveShape : Type 0
FittingScenariosHaveShape =
    (m : ModelTree) (root : ℕ) (s : Scenario) → IsSound m → IsScenario s → Fits m root s
    → ((a : ℕ) (act : Act) → slice_get s.actions a ≡ Some act → act.node ≡ None → IsInferable m act) → HasShape m s

-- So does one that a list of choices reads whole, where the root isn't abstract.
abbrev pub WholeReadingsHaveShape : Type 0
WholeReadingsHaveShape = (m : ModelTree) (root seed level : ℕ) (choices : List ℕ) (s : Scenario) → IsSound m → IsConcreteRoot m root → read m root seed level choices ≡ Whole s → HasShape m s
