use Rattle.pst_claim_counts.specs.Needs.{AreLeafSlots}
use Rattle.pst_claim_counts.proofs.slots.leaf_slots.Given as goal

abbrev pub invariant-loop-act : goal.invariant-loop-act
invariant-loop-act l = AreLeafSlots l.scenario.nodes l.slots.items
