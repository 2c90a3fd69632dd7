-- What belongs to the actions of nodes below which two scenarios are the same.
use Rattle.std.proofs.Common.{◌≡◌, ℕ, List, [], ◌∷◌, Option, Some, None, refl, ap, ◌∙◌, subst}
use Rattle.std.specs.Prelude.{slice_get}
use Rattle.std.specs.Option.{option_and_then}
use Rattle.std.proofs.lemmas.Option.{same_Some, option_and_then_some}
use Rattle.pst_model.specs.ConstraintTree.{SlotTree, Own, Object, First as Initial-of, ClaimId, ClaimField, Prev, IsFirst, Id, Index, Local, Through, Outer}
use Rattle.pst_model.specs.ActivityTree.{ActivityTree}
use Rattle.pst_model.specs.ModelTree.{ModelTree}
use Rattle.pst_scen.specs.declared.tree.Node.{Node}
use Rattle.pst_scen.specs.declared.tree.Fill.{Fill}
use Rattle.pst_scen.specs.declared.tree.Fill.TheVariants as fill
use Rattle.pst_scen.specs.declared.scenario.Scenario.{Scenario}
use Rattle.pst_legal.specs.Types.{action_activity}
use Rattle.pst_legal.specs.Statements.{children_of, way_in, node_on, handle_node}
use Rattle.pst_legal.specs.Standing.{Standing, Lacking, bound_of}
use Rattle.pst_legal.specs.Slots.{behind, traversed_type, unread_slot, maybe_act_slot, fill_slot, maybe_fill_slot, compound_in, compound_at, node_behind, type_behind, node_slot}

-- Where a node has that, it and the nodes in it are the same in both scenarios, these have it too, and what belongs to the
-- action of a leaf has the same bounds.
module _ (m : ModelTree) (s t : Scenario) (Same : ℕ → Type 0)
    (nodes : (n : ℕ) → Same n → slice_get t.nodes n ≡ slice_get s.nodes n)
    (kids : (n : ℕ) → Same n → children_of t.nodes n ≡ children_of s.nodes n)
    (down : (n index k : ℕ) → Same n → slice_get (children_of t.nodes n) index ≡ Some k → Same k)
    (leaves : (n a : ℕ) (node : Node) (slot : SlotTree) → Same n → slice_get t.nodes n ≡ Some node → node.fill ≡ fill.Leaf a
    → bound_of (maybe_act_slot m t a (slice_get t.actions a) slot) ≡ bound_of (maybe_act_slot m s a (slice_get s.actions a) slot)) where
  -- ---- the node behind a handle

  same_way : (way : List ℕ) (n : ℕ) → Same n → node_on t.nodes n way ≡ node_on s.nodes n way
  same_way [] n is = refl
  same_way (index ∷ way) n is =
      by (λ k at. same_way way k (down n index k is at)) (slice_get (children_of t.nodes n) index) refl ∙ ap (λ (xs : List ℕ). option_and_then (λ child. node_on s.nodes child way) (slice_get xs index)) (kids n is)
    where
      by : ((k : ℕ) → slice_get (children_of t.nodes n) index ≡ Some k → node_on t.nodes k way ≡ node_on s.nodes k way)
          → (o : Option ℕ) → slice_get (children_of t.nodes n) index ≡ o → option_and_then (λ child. node_on t.nodes child way) o ≡ option_and_then (λ child. node_on s.nodes child way) o
      by each None e = refl
      by each (Some k) e = each k e

  way_down : (way : List ℕ) (n k : ℕ) → Same n → node_on t.nodes n way ≡ Some k → Same k
  way_down [] n k is e = subst Same (same_Some n k e) is
  way_down (index ∷ way) n k is e =
      option_and_then_some (λ child. node_on t.nodes child way) (slice_get (children_of t.nodes n) index) k e (λ child at on. way_down way child k (down n index child is at) on)

  same_compound : (n : ℕ) → Same n → compound_at t.nodes n ≡ compound_at s.nodes n
  same_compound n is = ap (option_and_then (λ (node : Node). compound_in node.fill)) (nodes n is)

  same_handle : (n action handle : ℕ) → Same n → handle_node m t.nodes n action handle ≡ handle_node m s.nodes n action handle
  same_handle n action handle is = by (action_activity m action)
    where
      by_way : (o : Option (List ℕ)) → option_and_then (node_on t.nodes n) o ≡ option_and_then (node_on s.nodes n) o
      by_way None = refl
      by_way (Some way) = same_way way n is

      by : (o : Option ActivityTree) → option_and_then (λ activity. option_and_then (node_on t.nodes n) (way_in handle 0 activity.steps)) o ≡ option_and_then (λ activity. option_and_then (node_on s.nodes n) (way_in handle 0 activity.steps)) o
      by None = refl
      by (Some activity) = by_way (way_in handle 0 activity.steps)

  same_behind_it : (n handle : ℕ) → Same n → node_behind m t.nodes n handle ≡ node_behind m s.nodes n handle
  same_behind_it n handle is = ap (option_and_then (λ action. handle_node m t.nodes n action handle)) (same_compound n is) ∙ by (compound_at s.nodes n)
    where
      by : (o : Option ℕ) → option_and_then (λ action. handle_node m t.nodes n action handle) o ≡ option_and_then (λ action. handle_node m s.nodes n action handle) o
      by None = refl
      by (Some action) = same_handle n action handle is

  behind_down : (n handle k : ℕ) → Same n → node_behind m t.nodes n handle ≡ Some k → Same k
  behind_down n handle k is e =
      option_and_then_some (λ action. handle_node m t.nodes n action handle) (compound_at t.nodes n) k e
      (λ action at there. option_and_then_some (λ (activity : ActivityTree). option_and_then (node_on t.nodes n) (way_in handle 0 activity.steps)) (action_activity m action) k there
      (λ activity has on. option_and_then_some (node_on t.nodes n) (way_in handle 0 activity.steps) k on (λ way leads found. way_down way n k is found)))

  -- ---- slots

  by_fill : (n : ℕ) (node : Node) (slot : SlotTree) → Same n → slice_get t.nodes n ≡ Some node → (f : Fill) → node.fill ≡ f → bound_of (fill_slot m t f slot) ≡ bound_of (fill_slot m s f slot)
  by_fill n node slot is at (fill.Leaf a) of = leaves n a node slot is at of
  by_fill n node slot is at (fill.Compound action instance fields) of = refl
  by_fill n node slot is at fill.Sequence of = refl
  by_fill n node slot is at fill.Parallel of = refl
  by_fill n node slot is at fill.Schedule of = refl
  by_fill n node slot is at (fill.Joined parallel joined) of = refl
  by_fill n node slot is at (fill.Select branch) of = refl
  by_fill n node slot is at fill.Repeat of = refl
  by_fill n node slot is at (fill.Turn index) of = refl
  by_fill n node slot is at (fill.If taken) of = refl
  by_fill n node slot is at (fill.Match arm) of = refl

  same_fill : (n : ℕ) (slot : SlotTree) → Same n → bound_of (maybe_fill_slot m t (slice_get t.nodes n) slot) ≡ bound_of (maybe_fill_slot m s (slice_get s.nodes n) slot)
  same_fill n slot is = by (slice_get t.nodes n) refl ∙ ap (λ (o : Option Node). bound_of (maybe_fill_slot m s o slot)) (nodes n is)
    where
      by : (o : Option Node) → slice_get t.nodes n ≡ o → bound_of (maybe_fill_slot m t o slot) ≡ bound_of (maybe_fill_slot m s o slot)
      by None e = refl
      by (Some node) e = by_fill n node slot is e node.fill refl

  -- what isn't read of the type that a handle traverses
  abbrev unread_there : Scenario → ℕ → ℕ → SlotTree → Standing
  unread_there x n handle slot = behind (λ type. unread_slot m type slot) (type_behind m x.nodes n handle) Lacking

  same_unread : (n handle : ℕ) (slot : SlotTree) → Same n → unread_there t n handle slot ≡ unread_there s n handle slot
  same_unread n handle slot is = ap (λ (o : Option ℕ). behind (λ type. unread_slot m type slot) (option_and_then (λ action. traversed_type m action handle) o) Lacking) (same_compound n is)

  pub same_slot : (slot : SlotTree) (n : ℕ) → Same n → bound_of (node_slot m t n slot) ≡ bound_of (node_slot m s n slot)
  same_slot (Through handle slot) n is =
      by (λ k at. same_slot slot k (behind_down n handle k is at)) (node_behind m t.nodes n handle) refl
      ∙ ap (λ (o : Option ℕ). bound_of (behind (λ k. node_slot m s k slot) o (unread_there s n handle slot))) (same_behind_it n handle is)
    where
      by : ((k : ℕ) → node_behind m t.nodes n handle ≡ Some k → bound_of (node_slot m t k slot) ≡ bound_of (node_slot m s k slot))
          → (o : Option ℕ) → node_behind m t.nodes n handle ≡ o → bound_of (behind (λ k. node_slot m t k slot) o (unread_there t n handle slot)) ≡ bound_of (behind (λ k. node_slot m s k slot) o (unread_there s n handle slot))
      by each None e = ap bound_of (same_unread n handle slot is)
      by each (Some k) e = each k e
  same_slot (Own field) n is = same_fill n (Own field) is
  same_slot (Object reference field) n is = same_fill n (Object reference field) is
  same_slot (Initial-of reference) n is = same_fill n (Initial-of reference) is
  same_slot (ClaimId claim) n is = same_fill n (ClaimId claim) is
  same_slot (ClaimField claim field) n is = same_fill n (ClaimField claim field) is
  same_slot (Prev field) n is = same_fill n (Prev field) is
  same_slot IsFirst n is = same_fill n IsFirst is
  same_slot Id n is = same_fill n Id is
  same_slot (Index level) n is = same_fill n (Index level) is
  same_slot (Local local) n is = same_fill n (Local local) is
  same_slot (Outer slot) n is = same_fill n (Outer slot) is
