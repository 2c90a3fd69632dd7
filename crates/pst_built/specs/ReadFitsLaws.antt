-- What lists of choices read fits.
use Rattle.std.specs.Prelude.{◌≡◌, ℕ, List}
use Rattle.pst_model.specs.ModelTree.{ModelTree}
use Rattle.pst_model.specs.Sound.{IsSound}
use Rattle.pst_scen.specs.declared.scenario.Scenario.{Scenario}
use Rattle.pst_legal.specs.Growing.{nothing_yet, IsWithin}
use Rattle.pst_legal.specs.Reading.{Reads, read_tree}
use Rattle.pst_legal.specs.ValueReading.{Whole, read}
use Rattle.pst_legal.specs.Fits.{FillsRoot, Fits}
use Rattle.pst_built.specs.Laws.{IsConcreteRoot}

-- An activity that is read through, of a sound model, fills the root, within the limits.
abbrev pub ActivitiesFillTheirRoot : Type 0
ActivitiesFillTheirRoot =
    (m : ModelTree) (root seed level place : ℕ) (choices left : List ℕ) (s : Scenario) (next : ℕ) → IsSound m
    → read_tree m seed root (nothing_yet level) place choices ≡ Reads s next left → FillsRoot m root s × IsWithin s.nodes s.actions

-- So does a scenario that is read whole.
abbrev pub WholeReadingsFillTheirRoot : Type 0
WholeReadingsFillTheirRoot = (m : ModelTree) (root seed level : ℕ) (choices : List ℕ) (s : Scenario) → IsSound m → read m root seed level choices ≡ Whole s → FillsRoot m root s

-- A scenario that is read whole, of a sound model and a root that isn't abstract, fills the root, with values of the declared
-- domains and the model's pools, within the limits.
abbrev pub WholeReadingsFit : Type 0
WholeReadingsFit = (m : ModelTree) (root seed level : ℕ) (choices : List ℕ) (s : Scenario) → IsSound m → IsConcreteRoot m root → read m root seed level choices ≡ Whole s → Fits m root s
