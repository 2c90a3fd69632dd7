-- The order so far, written as a scenario of buffers, streams and claims over the same nodes.
use Rattle.std.specs.Prelude.{◌≡◌, ◌≢◌, ℕ, List, Some, slice_get, All, map}
use Rattle.pst_scen.specs.declared.act.Act.{Act}
use Rattle.pst_scen.specs.declared.scenario.Scenario.{Scenario}
use Rattle.pst_order.specs.Built.{IsBuilt}
use Rattle.pst_graph.specs.declared.planning.PlanEnd.{PlanEnd}
use Rattle.pst_graph.specs.declared.planning.PlanEnd.TheVariants.{Cycle, GroupClash, ParallelOrder, ParallelClash, NoMemory}
use Rattle.pst_link_order.specs.Reasons.{IsReason, IsUse}

-- each reference is a reason of the action's, each claim a use by it
pub record IsWrittenAct (s : Scenario) (a : ℕ) (act : Act) : Type 0 where
  pub references : All (IsReason s a) act.references
  pub claims : All (IsUse s a) act.claims

abbrev pub AreWritten : Scenario → List Act → Type 0
AreWritten s acts = (a : ℕ) (act : Act) → slice_get acts a ≡ Some act → IsWrittenAct s a act

-- each action with its leaf, its reasons and its uses
pub record AreActsOf (s : Scenario) (acts : List Act) : Type 0 where
  pub leaves : map (λ act. act.node) acts ≡ map (λ act. act.node) s.actions
  pub written : AreWritten s acts

pub record IsWrittenOf (s t : Scenario) : Type 0 where
  pub nodes : t.nodes ≡ s.nodes
  pub acts : AreActsOf s t.actions
  pub built : IsBuilt t

-- A refusal that counts: two claims of one action are uses of different pools, and say nothing.
abbrev pub Counts : PlanEnd → Type 0
Counts (Cycle a) = Unit {0}
Counts (GroupClash a b) = a ≢ b
Counts (ParallelOrder a b) = Unit {0}
Counts (ParallelClash a b) = Unit {0}
Counts NoMemory = ⊥
