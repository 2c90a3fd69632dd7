-- Scenarios that a list of choices reads whole.
use Rattle.std.specs.Prelude.{◌≡◌, ℕ, List}
use Rattle.pst_model.specs.ModelTree.{ModelTree}
use Rattle.pst_scen.specs.declared.scenario.Scenario.{Scenario}
use Rattle.pst_legal.specs.ValueReading.{Whole, read}

-- for some root and seed, a list of choices of the scenario's level reads it whole
pub record IsReadWhole (m : ModelTree) (s : Scenario) : Type 0 where
  pub root : ℕ
  pub seed : ℕ
  pub choices : List ℕ
  pub reads : read m root seed s.level choices ≡ Whole s
