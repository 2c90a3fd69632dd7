-- What the calls on a scenario that was found ask for.
use Rattle.std.specs.Prelude.{◌<◌, ◌^◌, length}
use Rattle.pst_model.specs.ModelTree.{ModelTree}
use Rattle.pst_model.specs.Sound.{IsSound}
use Rattle.pst_scen.specs.declared.scenario.Scenario.{Scenario}
use Rattle.pst_scen.specs.Laws.{IsPreorder, HasOneLeafEach}
use Rattle.pst_scen.specs.Plan.{Entries}
use Rattle.pst_scen.specs.Plans.{IsPlanOf}
use Rattle.pst_order.specs.Facts.{LinksStates}
use Rattle.pst_body.specs.Ran.{HasTypes}

-- The model is sound, each action is of a type that there is, nodes and links stand as in a scenario that is read whole, and the plan is its own.
pub record IsReady (m : ModelTree) (s : Scenario) (plan : Entries) : Type 0 where
  pub sound : IsSound m
  pub types : HasTypes m s
  pub links : LinksStates s
  pub planned : IsPlanOf s plan
  pub preorder : IsPreorder s.nodes
  pub one_leaf : HasOneLeafEach s.nodes
  pub small : length s.actions < 2 ^ 31
