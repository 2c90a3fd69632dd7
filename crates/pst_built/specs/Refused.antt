-- Scenarios of which a constraint is refused.
use Rattle.std.specs.Prelude.{◌≡◌, true}
use Rattle.pst_model.specs.ConstraintTree.{SlotTree, ConstraintTree}
use Rattle.pst_model.specs.ModelTree.{ModelTree}
use Rattle.pst_scen.specs.declared.scenario.Scenario.{Scenario}
use Rattle.pst_legal.specs.Standing.{Standing}
use Rattle.pst_legal.specs.Constraints.{HasConstraint, is_refused_at}

-- some constraint of the scenario, which may still be read, is refused at what is known
pub record SomeRefused (m : ModelTree) (s : Scenario) : Type 0 where
  pub constraint : ConstraintTree
  pub standing : SlotTree → Standing
  pub has : HasConstraint m s constraint standing
  pub refused : is_refused_at constraint standing ≡ true
