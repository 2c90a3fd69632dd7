use Rattle.std.proofs.Common.{ℕ, Some, List, Option, sym, subst}
use Rattle.std.specs.Prelude.{slice_get}
use Rattle.pst_scen.specs.declared.tree.Node.{Node}
use Rattle.pst_claim_counts.specs.Needs.{AreLeafSlots}
use Rattle.pst_claim_counts.proofs.Slotted.{no_slots}
use Rattle.pst_claim_counts.proofs.slots.leaf_slots.Goals as goal

pub loop-act-preserved : goal.loop-act-preserved
loop-act-preserved c =
    subst (λ (ns : List Node). AreLeafSlots ns c.push_leaf.new.slots.items) c.as_slice-nodes.ensures
    (c.in_ok-push_leaf.ensures (subst (λ (ns : List Node). AreLeafSlots ns c.loop-act.slots.items) (sym c.as_slice-nodes.ensures) c.loop-act.invariant))

pub loop-act-init : goal.loop-act-init
loop-act-init c = subst (AreLeafSlots c.args.scenario.now.nodes) (sym c.new-slots.ensures.items) (no_slots c.args.scenario.now.nodes)
