-- What belongs to the action of a traversal, and to the one round it.
use Rattle.std.proofs.Common.{◌≡◌, ℕ, List, false, Some, refl, sym, ap, ◌∙◌}
use Rattle.std.specs.Prelude.{slice_get}
use Rattle.std.proofs.lemmas.Bool.{false≢true}
use Rattle.pst_model.specs.ConstraintTree.{SlotTree, Own, Object, First as Initial-of, ClaimId, ClaimField, Prev, IsFirst, Id, Index, Local, Through, Outer}
use Rattle.pst_model.specs.ModelTree.{ModelTree}
use Rattle.pst_scen.specs.declared.tree.Node.{Node}
use Rattle.pst_scen.specs.declared.tree.Fill.{Fill}
use Rattle.pst_scen.specs.declared.tree.Fill.TheVariants as fill
use Rattle.pst_scen.specs.declared.act.Act.{Act}
use Rattle.pst_scen.specs.declared.scenario.Scenario.{Scenario}
use Rattle.pst_legal.specs.Standing.{bound_of}
use Rattle.pst_legal.specs.Slots.{act_slot, maybe_act_slot, fill_slot, maybe_fill_slot, node_slot, inline_slot}
use Rattle.pst_refusals.specs.Inlines.{is_far_slot}
use Rattle.pst_refusals.specs.Made.{made_slot}
use Rattle.pst_new_refusals.specs.Newly.{is_leaf}
use Rattle.pst_new_refusals.proofs.Same.{at_node}

-- the node of an atomic action
pub leaf_node : (m : ModelTree) (s : Scenario) (n a : ℕ) (node : Node) (act : Act) (slot : SlotTree) → slice_get s.nodes n ≡ Some node → node.fill ≡ fill.Leaf a → slice_get s.actions a ≡ Some act → is_far_slot slot ≡ false
    → node_slot m s n slot ≡ act_slot m s a act slot
leaf_node m s n a node act slot is of at near =
    at_node m s n slot near ∙ ap (λ o. maybe_fill_slot m s o slot) is ∙ ap (λ f. fill_slot m s f slot) of ∙ ap (λ o. maybe_act_slot m s a o slot) at

-- any other node
other_fill : (m : ModelTree) (s u : Scenario) (f : Fill) (slot : SlotTree) → is_leaf f ≡ false → fill_slot m s f slot ≡ fill_slot m u f slot
other_fill m s u (fill.Leaf act) slot e = absurd (false≢true (sym e))
other_fill m s u (fill.Compound action instance fields) slot e = refl
other_fill m s u fill.Sequence slot e = refl
other_fill m s u fill.Parallel slot e = refl
other_fill m s u fill.Schedule slot e = refl
other_fill m s u (fill.Joined parallel joined) slot e = refl
other_fill m s u (fill.Select branch) slot e = refl
other_fill m s u fill.Repeat slot e = refl
other_fill m s u (fill.Turn index) slot e = refl
other_fill m s u (fill.If taken) slot e = refl
other_fill m s u (fill.Match arm) slot e = refl

pub other_node : (m : ModelTree) (s u : Scenario) (n : ℕ) (node : Node) (slot : SlotTree) → slice_get s.nodes n ≡ Some node → slice_get u.nodes n ≡ Some node → is_leaf node.fill ≡ false → is_far_slot slot ≡ false
    → node_slot m s n slot ≡ node_slot m u n slot
other_node m s u n node slot is also e near =
    at_node m s n slot near ∙ ap (λ o. maybe_fill_slot m s o slot) is ∙ other_fill m s u node.fill slot e ∙ sym (at_node m u n slot near ∙ ap (λ o. maybe_fill_slot m u o slot) also)

module _ (m : ModelTree) (s u : Scenario) (n top : ℕ) (indices : List ℕ) (outer : (slot : SlotTree) → is_far_slot slot ≡ false → bound_of (node_slot m s top slot) ≡ bound_of (node_slot m u top slot)) where
  -- the slots of an inline constraint, where what belongs to the node and to the one round it has the same bounds
  pub same_inline : ((slot : SlotTree) → is_far_slot slot ≡ false → bound_of (node_slot m s n slot) ≡ bound_of (node_slot m u n slot))
      → (slot : SlotTree) → is_far_slot slot ≡ false → bound_of (inline_slot m s n top indices slot) ≡ bound_of (inline_slot m u n top indices slot)
  same_inline own (Outer slot) near = outer slot near
  same_inline own (Index level) near = refl
  same_inline own (Through handle slot) near = own (Through handle slot) near
  same_inline own (Own field) near = own (Own field) near
  same_inline own (Object reference field) near = own (Object reference field) near
  same_inline own (Initial-of reference) near = own (Initial-of reference) near
  same_inline own (ClaimId claim) near = own (ClaimId claim) near
  same_inline own (ClaimField claim field) near = own (ClaimField claim field) near
  same_inline own (Prev field) near = own (Prev field) near
  same_inline own IsFirst near = own IsFirst near
  same_inline own Id near = own Id near
  same_inline own (Local local) near = own (Local local) near

  -- and of an action that is looked at by itself
  pub same_made : (act : Act) → ((slot : SlotTree) → is_far_slot slot ≡ false → bound_of (node_slot m s n slot) ≡ bound_of (act_slot m u 0 act slot))
      → (slot : SlotTree) → is_far_slot slot ≡ false → bound_of (inline_slot m s n top indices slot) ≡ bound_of (made_slot m u act top indices slot)
  same_made act own (Outer slot) near = outer slot near
  same_made act own (Index level) near = refl
  same_made act own (Through handle slot) near = own (Through handle slot) near
  same_made act own (Own field) near = own (Own field) near
  same_made act own (Object reference field) near = own (Object reference field) near
  same_made act own (Initial-of reference) near = own (Initial-of reference) near
  same_made act own (ClaimId claim) near = own (ClaimId claim) near
  same_made act own (ClaimField claim field) near = own (ClaimField claim field) near
  same_made act own (Prev field) near = own (Prev field) near
  same_made act own IsFirst near = own IsFirst near
  same_made act own Id near = own Id near
  same_made act own (Local local) near = own (Local local) near
