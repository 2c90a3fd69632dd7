-- What a scenario that is read whole keeps, as far as its order asks for it.
use Rattle.pst_scen.specs.declared.scenario.Scenario.{Scenario}
use Rattle.pst_scen.specs.Scenarios.{AreInPreorder, HasLeavesFirst, IsSmall}
use Rattle.pst_order.specs.Facts.{IsLinked}

-- Its nodes stand in preorder from one root on, the actions of its leaves come first and in the order of the leaves, its
-- references are linked, and its numbers have 31 bits.
pub record IsBuilt (s : Scenario) : Type 0 where
  pub preorder : AreInPreorder s.nodes
  pub leaves : HasLeavesFirst s
  pub linked : IsLinked s
  pub small : IsSmall s
