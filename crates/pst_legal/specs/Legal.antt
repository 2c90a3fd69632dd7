-- Legal scenarios.
use Rattle.std.specs.Prelude.{ℕ, ◌<◌, length}
use Rattle.pst_model.specs.ModelTree.{ModelTree}
use Rattle.pst_scen.specs.declared.scenario.Scenario.{Scenario}
use Rattle.pst_scen.specs.Scenarios.{IsScenario}
use Rattle.pst_legal.specs.Shape.{HasShape}
use Rattle.pst_legal.specs.Fits.{Fits}
use Rattle.pst_legal.specs.Supplied.{Supplied}
use Rattle.pst_legal.specs.Constraints.{Holds}
use Rattle.pst_scen.specs.Plans.{KeepsParallel, ClashesAlone, CanRun}

-- The scenario fills the root, every need has its source, every constraint holds, parallel branches are neither ordered
-- nor in dispute, no action is in dispute with itself, and on some number of lanes the scenario can run to its end.
pub record Legal (m : ModelTree) (root : ℕ) (s : Scenario) : Type 0 where
  pub scenario : IsScenario s
  pub shape : HasShape m s
  pub fits : Fits m root s
  pub supplied : Supplied m s
  pub holds : Holds m s
  pub parallel : KeepsParallel s
  pub alone : (a : ℕ) → a < length s.actions → ClashesAlone s a → ⊥
  pub runs : CanRun s
