-- Where constraints stand, and what their slots stand for there.
use Rattle.std.specs.Prelude.{ℕ, List, Option, Some, None, slice_get}
use Rattle.pst_model.specs.ConstraintTree.{SlotTree}
use Rattle.pst_model.specs.ModelTree.{ModelTree}
use Rattle.pst_scen.specs.declared.act.Act.{Act}
use Rattle.pst_scen.specs.declared.act.Filled.{Filled}
use Rattle.pst_scen.specs.declared.scenario.Scenario.{Scenario}
use Rattle.pst_scen.specs.Scenarios.{reference_at}
use Rattle.pst_legal.specs.Standing.{Standing, Lacking}
use Rattle.pst_legal.specs.Slots.{node_slot, maybe_act_slot, inline_slot, output_slot, resource_slot, first_object_slot}

pub data SiteTree : Type 0 where
  -- the compound action of a node
  AtNode : (node : ℕ) → SiteTree
  -- a traversal in the activity of the compound action of node `top`, in turns of these numbers
  AtTraversal : (node top : ℕ) → (indices : List ℕ) → SiteTree
  -- an atomic action
  AtAct : (act : ℕ) → SiteTree
  -- the object that an output writes
  AtOutput : (act reference : ℕ) → SiteTree
  -- the resource that a claim claims
  AtClaim : (act claim : ℕ) → SiteTree
  -- the first object of a pool
  AtFirst : (pool : ℕ) → SiteTree

abbrev pub maybe_output_slot : ModelTree → Scenario → ℕ → ℕ → Option Filled → SlotTree → Standing
maybe_output_slot m s a r None slot = Lacking
maybe_output_slot m s a r (Some filled) slot = output_slot m s a r filled slot

abbrev pub maybe_resource_slot : ModelTree → ℕ → Option Act → ℕ → SlotTree → Standing
maybe_resource_slot m a None claim slot = Lacking
maybe_resource_slot m a (Some act) claim slot = resource_slot m a act claim slot

-- what a slot of a constraint stands for at a site
abbrev pub slot_at : ModelTree → Scenario → SiteTree → SlotTree → Standing
slot_at m s (AtNode n) slot = node_slot m s n slot
slot_at m s (AtTraversal n top indices) slot = inline_slot m s n top indices slot
slot_at m s (AtAct a) slot = maybe_act_slot m s a (slice_get s.actions a) slot
slot_at m s (AtOutput a r) slot = maybe_output_slot m s a r (reference_at s.actions a r) slot
slot_at m s (AtClaim a claim) slot = maybe_resource_slot m a (slice_get s.actions a) claim slot
slot_at m s (AtFirst pool) slot = first_object_slot m s pool slot
