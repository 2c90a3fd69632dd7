-- Actions that replace what others read.
use Rattle.std.specs.Prelude.{◌≢◌, ℕ}
use Rattle.pst_scen.specs.declared.act.Act.{Act}
use Rattle.pst_scen.specs.declared.scenario.Scenario.{Scenario}
use Rattle.pst_scen.specs.Flows.{IsAct}
use Rattle.pst_graph.specs.Links.{ReadsReplaced}

-- the second action, which is another, replaces an object that the first reads
pub record IsReplacing (s : Scenario) (a b : ℕ) : Type 0 where
  pub different : a ≢ b
  pub one : Act
  pub other : Act
  pub is_one : IsAct s a one
  pub is_other : IsAct s b other
  pub reads : ReadsReplaced one.references other.references
