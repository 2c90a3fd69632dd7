-- What is known of the slots of a node narrows as reading goes on.
use Rattle.std.proofs.Common.{◌≡◌, ◌⊎◌, ℕ, ℤ, List, Option, Some, None, refl, sym, ◌∙◌, subst, inl, inr}
use Rattle.std.specs.Prelude.{slice_get}
use Rattle.std.specs.Option.{option_and_then}
use Rattle.std.proofs.lemmas.Option.{option_and_then_some}
use Rattle.pst_model.specs.ConstraintTree.{SlotTree, Own, Object, First as Initial-of, ClaimId, ClaimField, Prev, IsFirst, Id, Index, Local, Through, Outer}
use Rattle.pst_model.specs.ModelTree.{ModelTree}
use Rattle.pst_scen.specs.declared.tree.Node.{Node}
use Rattle.pst_scen.specs.declared.tree.Fill.{Fill}
use Rattle.pst_scen.specs.declared.tree.Fill.TheVariants as fill
use Rattle.pst_scen.specs.declared.act.Act.{Act}
use Rattle.pst_scen.specs.declared.scenario.Scenario.{Scenario}
use Rattle.pst_legal.specs.Types.{action_field, action_activity}
use Rattle.pst_legal.specs.Statements.{way_in, node_on, handle_node}
use Rattle.pst_legal.specs.Standing.{Lacking, number_or_lacking, field_span}
use Rattle.pst_legal.specs.Slots.{behind, unread_slot, compound_slot, maybe_act_slot, fill_slot, maybe_fill_slot, compound_at, node_behind, type_behind, node_slot, inline_slot}
use Rattle.pst_built.specs.Known.{LeavesHaveActions}
use Rattle.pst_built.proofs.Onward.{MoreValues, Onward}
use Rattle.pst_built.proofs.Bounds.{narrower_self, unread_inside}
use Rattle.pst_built.proofs.Inside.{Narrower, Allows, InDomains, act_inside}
use Rattle.pst_built.proofs.Children.{There, on_there, behind_more, type_more}

-- a handle's node is a node
pub behind_there : (m : ModelTree) (s : Scenario) (n handle k : ℕ) → There s.nodes n → node_behind m s.nodes n handle ≡ Some k → There s.nodes k
behind_there m s n handle k there found =
    option_and_then_some (λ action. handle_node m s.nodes n action handle) (compound_at s.nodes n) k found
    (λ action at leads. option_and_then_some (λ activity. option_and_then (node_on s.nodes n) (way_in handle 0 activity.steps)) (action_activity m action) k leads
    (λ activity of_type steps. option_and_then_some (node_on s.nodes n) (way_in handle 0 activity.steps) k steps
    (λ way is on. on_there s.nodes way n k there on)))

-- what stands behind a handle is inside what stood there before it was read
pub record HandlesFit (m : ModelTree) (t : Scenario) : Type 0 where
  pub fits : (n handle k : ℕ) → node_behind m t.nodes n handle ≡ Some k
      → (type : ℕ) × (type_behind m t.nodes n handle ≡ Some type) × ((slot : SlotTree) → Narrower (node_slot m t k slot) (unread_slot m type slot))

module _ (m : ModelTree) (s t : Scenario) (on : Onward s t) (old : LeavesHaveActions s) (sane : InDomains m t) (handles : HandlesFit m t) where
  leaf_inside : (a : ℕ) (act : Act) → slice_get s.actions a ≡ Some act → (slot : SlotTree) → Narrower (maybe_act_slot m t a (slice_get t.actions a) slot) (maybe_act_slot m s a (slice_get s.actions a) slot)
  leaf_inside a act is slot =
      let y = on.acts a act is in
      subst (λ o. Narrower (maybe_act_slot m t a (slice_get t.actions a) slot) (maybe_act_slot m s a o slot)) (sym is)
      (subst (λ o. Narrower (maybe_act_slot m t a o slot) (maybe_act_slot m s a (Some act) slot)) (sym y.1)
      (act_inside m s t on sane a act y.0 y.1 y.2 slot))

  same_fill : (f : Fill) → ((a : ℕ) → f ≡ fill.Leaf a → (act : Act) × (slice_get s.actions a ≡ Some act)) → (slot : SlotTree) → Narrower (fill_slot m t f slot) (fill_slot m s f slot)
  same_fill (fill.Leaf a) leaf slot = let l = leaf a refl in leaf_inside a l.0 l.1 slot
  same_fill (fill.Compound action instance fields) leaf slot = narrower_self (compound_slot m action fields slot)
  same_fill fill.Sequence leaf slot = tt
  same_fill fill.Parallel leaf slot = tt
  same_fill fill.Schedule leaf slot = tt
  same_fill (fill.Joined parallel joined) leaf slot = tt
  same_fill (fill.Select branch) leaf slot = tt
  same_fill fill.Repeat leaf slot = tt
  same_fill (fill.Turn index) leaf slot = tt
  same_fill (fill.If taken) leaf slot = tt
  same_fill (fill.Match arm) leaf slot = tt

  more_values : (action : ℕ) (xs ys : List ℤ) → ((i : ℕ) (v : ℤ) → slice_get xs i ≡ Some v → slice_get ys i ≡ Some v)
      → ((i : ℕ) (v : ℤ) → slice_get ys i ≡ Some v → Allows (field_span (action_field m action i)) v) → (slot : SlotTree) → Narrower (compound_slot m action ys slot) (compound_slot m action xs slot)
  more_values action xs ys keeps allows (Own field) =
      unread_inside (field_span (action_field m action field)) (slice_get xs field) (slice_get ys field) (λ v e. keeps field v e) (λ v e. allows field v e)
  more_values action xs ys keeps allows (Object r f) = tt
  more_values action xs ys keeps allows (Initial-of r) = tt
  more_values action xs ys keeps allows (ClaimId c) = tt
  more_values action xs ys keeps allows (ClaimField c f) = tt
  more_values action xs ys keeps allows (Prev f) = tt
  more_values action xs ys keeps allows IsFirst = tt
  more_values action xs ys keeps allows Id = tt
  more_values action xs ys keeps allows (Index l) = tt
  more_values action xs ys keeps allows (Local l) = tt
  more_values action xs ys keeps allows (Through h slot) = tt
  more_values action xs ys keeps allows (Outer slot) = tt

  fill_inside : (n : ℕ) (f : Fill) (y : Node) → slice_get t.nodes n ≡ Some y → (y.fill ≡ f) ⊎ MoreValues f y.fill
      → ((a : ℕ) → f ≡ fill.Leaf a → (act : Act) × (slice_get s.actions a ≡ Some act)) → (slot : SlotTree) → Narrower (fill_slot m t y.fill slot) (fill_slot m s f slot)
  fill_inside n f y is (inl e) leaf slot = subst (λ g. Narrower (fill_slot m t g slot) (fill_slot m s f slot)) (sym e) (same_fill f leaf slot)
  fill_inside n f y is (inr o) leaf slot =
      subst (λ g. Narrower (fill_slot m t y.fill slot) (fill_slot m s g slot)) (sym o.was)
      (subst (λ g. Narrower (fill_slot m t g slot) (compound_slot m o.action o.old slot)) (sym o.is)
      (more_values o.action o.old o.new o.keeps (λ i v e. sane.compounds n y o.action o.instance o.new i v is o.is e) slot))

  plain_inside : (n : ℕ) (x : Node) → slice_get s.nodes n ≡ Some x → (slot : SlotTree) → Narrower (maybe_fill_slot m t (slice_get t.nodes n) slot) (maybe_fill_slot m s (slice_get s.nodes n) slot)
  plain_inside n x is slot =
      let y = on.nodes n x is in
      subst (λ o. Narrower (maybe_fill_slot m t (slice_get t.nodes n) slot) (maybe_fill_slot m s o slot)) (sym is)
      (subst (λ o. Narrower (maybe_fill_slot m t o slot) (fill_slot m s x.fill slot)) (sym y.1)
      (fill_inside n x.fill y.0 y.1 y.2.fill (λ a e. old n x a is e) slot))

  -- behind a handle, as it is read or not
  behind_inside : (n handle : ℕ) (slot : SlotTree) → There s.nodes n
      → ((k : ℕ) → There s.nodes k → Narrower (node_slot m t k slot) (node_slot m s k slot)) → Narrower (node_slot m t n (Through handle slot)) (node_slot m s n (Through handle slot))
  behind_inside n handle slot there each = by_old (node_behind m s.nodes n handle) refl
    where
      by_new : (o : Option ℕ) → node_behind m t.nodes n handle ≡ o
          → Narrower (behind (λ k. node_slot m t k slot) o (behind (λ type. unread_slot m type slot) (type_behind m t.nodes n handle) Lacking)) (behind (λ type. unread_slot m type slot) (type_behind m s.nodes n handle) Lacking)
      by_new None is =
          subst (λ p. Narrower (behind (λ type. unread_slot m type slot) p Lacking) (behind (λ type. unread_slot m type slot) (type_behind m s.nodes n handle) Lacking))
          (sym (type_more s t on m n there.0 handle there.1)) (narrower_self (behind (λ type. unread_slot m type slot) (type_behind m s.nodes n handle) Lacking))
      by_new (Some k) is =
          let f = handles.fits n handle k is in
          subst (λ p. Narrower (node_slot m t k slot) (behind (λ type. unread_slot m type slot) p Lacking))
          (sym f.1 ∙ type_more s t on m n there.0 handle there.1) (f.2 slot)

      by_old : (o : Option ℕ) → node_behind m s.nodes n handle ≡ o
          → Narrower (node_slot m t n (Through handle slot)) (behind (λ k. node_slot m s k slot) o (behind (λ type. unread_slot m type slot) (type_behind m s.nodes n handle) Lacking))
      by_old None is = by_new (node_behind m t.nodes n handle) refl
      by_old (Some k) is =
          subst (λ p. Narrower (behind (λ k. node_slot m t k slot) p (behind (λ type. unread_slot m type slot) (type_behind m t.nodes n handle) Lacking)) (node_slot m s k slot))
          (sym (behind_more s t on m n there.0 handle k there.1 is)) (each k (behind_there m s n handle k there is))

  pub node_inside : (slot : SlotTree) (n : ℕ) → There s.nodes n → Narrower (node_slot m t n slot) (node_slot m s n slot)
  node_inside (Through handle slot) n there = behind_inside n handle slot there (λ k at. node_inside slot k at)
  node_inside (Own field) n there = plain_inside n there.0 there.1 (Own field)
  node_inside (Object r field) n there = plain_inside n there.0 there.1 (Object r field)
  node_inside (Initial-of r) n there = plain_inside n there.0 there.1 (Initial-of r)
  node_inside (ClaimId c) n there = plain_inside n there.0 there.1 (ClaimId c)
  node_inside (ClaimField c field) n there = plain_inside n there.0 there.1 (ClaimField c field)
  node_inside (Prev f) n there = plain_inside n there.0 there.1 (Prev f)
  node_inside IsFirst n there = plain_inside n there.0 there.1 IsFirst
  node_inside Id n there = plain_inside n there.0 there.1 Id
  node_inside (Index l) n there = plain_inside n there.0 there.1 (Index l)
  node_inside (Local l) n there = plain_inside n there.0 there.1 (Local l)
  node_inside (Outer slot) n there = plain_inside n there.0 there.1 (Outer slot)

  pub inline_inside : (n top : ℕ) (indices : List ℕ) → There s.nodes n → There s.nodes top → (slot : SlotTree) → Narrower (inline_slot m t n top indices slot) (inline_slot m s n top indices slot)
  inline_inside n top indices there above (Outer slot) = node_inside slot top above
  inline_inside n top indices there above (Index level) = narrower_self (number_or_lacking (slice_get indices level))
  inline_inside n top indices there above (Own field) = node_inside (Own field) n there
  inline_inside n top indices there above (Object r field) = node_inside (Object r field) n there
  inline_inside n top indices there above (Initial-of r) = node_inside (Initial-of r) n there
  inline_inside n top indices there above (ClaimId c) = node_inside (ClaimId c) n there
  inline_inside n top indices there above (ClaimField c field) = node_inside (ClaimField c field) n there
  inline_inside n top indices there above (Through handle slot) = node_inside (Through handle slot) n there
  inline_inside n top indices there above (Prev f) = node_inside (Prev f) n there
  inline_inside n top indices there above IsFirst = node_inside IsFirst n there
  inline_inside n top indices there above Id = node_inside Id n there
  inline_inside n top indices there above (Local l) = node_inside (Local l) n there
