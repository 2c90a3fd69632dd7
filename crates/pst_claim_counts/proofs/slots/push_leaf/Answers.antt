use Rattle.std.proofs.Common.{◌≡◌, ℕ, length, sym, subst, arith}
use Rattle.std.specs.Prelude.{IfSome}
use Rattle.pst_nodes.specs.Over.{IsLeafOf}
use Rattle.pst_claim_counts.specs.Needs.{AreLeafSlots}
use Rattle.pst_claim_counts.proofs.Slotted.{more_slots}
use Rattle.pst_claim_counts.proofs.slots.push_leaf.Goals as goal

pub returns : goal.returns
returns c = λ all.
    let nodes = c.args.nodes.now in
    let old = c.args.slots.now.items in
    let e : c.in_ok-a.a ≡ length old = let x = c.in_ok-a.ensures in let y = c.len.ensures in omega (arith, x, y) in
    subst (AreLeafSlots nodes) (sym c.in_ok-push.ensures.items) (more_slots nodes old c.leaf_of.result (subst (λ a. IfSome c.leaf_of.result (IsLeafOf nodes a)) e c.leaf_of.ensures) all)
