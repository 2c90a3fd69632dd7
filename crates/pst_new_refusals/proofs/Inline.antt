-- Inline constraints that don't look behind handles.
use Rattle.std.proofs.Common.{◌≡◌, ◌⊎◌, ℕ, ◌<◌, ◌≤◌, List, length, Contains, false, Option, Some, sym, ap, ◌∙◌, subst, inl, inr, arith}
use Rattle.std.specs.Prelude.{slice_get}
use Rattle.std.specs.List.{list_any}
use Rattle.std.proofs.lemmas.Bool.{cases_lt}
use Rattle.std.proofs.lemmas.Option.{slice_get_within}
use Rattle.pst_model.specs.ConstraintTree.{SlotTree, ConstraintTree}
use Rattle.pst_model.specs.ActivityTree.{Traverse}
use Rattle.pst_model.specs.ModelTree.{ModelTree}
use Rattle.pst_scen.specs.declared.tree.Node.{Node}
use Rattle.pst_scen.specs.declared.tree.Fill.{Fill}
use Rattle.pst_scen.specs.declared.tree.Fill.TheVariants as fill
use Rattle.pst_scen.specs.declared.act.Act.{Act}
use Rattle.pst_scen.specs.declared.scenario.Scenario.{Scenario}
use Rattle.pst_legal.specs.Statements.{StandsFor}
use Rattle.pst_legal.specs.Standing.{bound_of}
use Rattle.pst_legal.specs.Slots.{node_slot, inline_slot}
use Rattle.pst_legal.specs.Constraints.{Inline, is_refused_at}
use Rattle.pst_legal.specs.First.{NoneRefused}
use Rattle.pst_built.proofs.Members.{In, in_get, none_any, to_map}
use Rattle.pst_slots.specs.Stated.{Stated, statement_of}
use Rattle.pst_slots.specs.Listed.{stating, of_stated}
use Rattle.pst_slots.proofs.Kept.{all_found}
use Rattle.pst_slots.proofs.Listed.{in_contains}
use Rattle.pst_refusals.specs.Inlines.{is_far_slot}
use Rattle.pst_refusals.specs.Made.{made_slot, of_made}
use Rattle.pst_new_refusals.specs.Since.{IsUnread, IsFresh, IsSince}
use Rattle.pst_new_refusals.specs.Newly.{so_far, is_leaf, of_own, is_own_refused, AreInlinesFree}
use Rattle.pst_new_refusals.proofs.Stated.{top_before, top_is, stood}
use Rattle.pst_new_refusals.proofs.Traversed.{leaf_node, other_node, same_inline, same_made}
use Rattle.pst_new_refusals.proofs.Same.{same_act, same_node, refused_near}
use Rattle.pst_new_refusals.proofs.Passed.{passed}

module _ (m : ModelTree) (s t : Scenario) (from : ℕ) (fresh : List Act) (since : IsSince s t from fresh) (none : NoneRefused m s)
    (acts : List Act) (unread : IsUnread (so_far t.nodes acts))
    (n top action : ℕ) (handle : Option ℕ) (inline : List ConstraintTree) (indices : List ℕ) (k : ConstraintTree) (stands : StandsFor m t.nodes top n (Traverse action handle inline) indices) (has : Contains inline k)
    (near_k : list_any is_far_slot k.slots ≡ false) (tests : AreInlinesFree m (so_far t.nodes acts) from fresh) where
  abbrev u : Scenario
  u = so_far t.nodes acts

  abbrev found : Stated
  found = record { top = top; step = Traverse action handle inline; indices = indices }

  -- the compound action round it stood before
  outer_old : (node : Node) → n < length s.nodes → (slot : SlotTree) → is_far_slot slot ≡ false → bound_of (node_slot m t top slot) ≡ bound_of (node_slot m s top slot)
  outer_old node l slot near_slot =
      let up = top_is m t.nodes top stands in
      let lower = top_before m t.nodes since.earlier top stands in
      let few = since.few in
      same_node m t s top up.action up.instance up.fields up.node slot up.is (since.nodes top up.node (omega (arith, lower, l, few)) up.is) up.of near_slot

  outer_alone : (slot : SlotTree) → is_far_slot slot ≡ false → bound_of (node_slot m t top slot) ≡ bound_of (node_slot m u top slot)
  outer_alone slot near_slot =
      let up = top_is m t.nodes top stands in
      same_node m t u top up.action up.instance up.fields up.node slot up.is up.is up.of near_slot

  -- the node stood for the statement before
  by_old : (node : Node) → slice_get s.nodes n ≡ Some node → ((slot : SlotTree) → is_far_slot slot ≡ false → bound_of (node_slot m t n slot) ≡ bound_of (node_slot m s n slot)) → is_refused_at k (inline_slot m t n top indices) ≡ false
  by_old node is own =
      let l = slice_get_within s.nodes n node is in
      let stood_for = stood m s.nodes t.nodes since.more since.earlier top n (Traverse action handle inline) indices l stands in
      refused_near k (inline_slot m t n top indices) (inline_slot m s n top indices) (same_inline m t s n top indices (outer_old node l) own) near_k
      (none k (inline_slot m s n top indices) (Inline n top action handle inline indices k stood_for has))

  is_found : statement_of m u.nodes n ≡ Some found
  is_found = all_found m t.nodes since.earlier n top (Traverse action handle inline) indices stands

  -- a new node that is no leaf
  by_traversal : (node : Node) → slice_get t.nodes n ≡ Some node → is_leaf node.fill ≡ false → from ≤ n → is_refused_at k (inline_slot m t n top indices) ≡ false
  by_traversal node is other above =
      let one = stating (inline_slot m u n top indices) k in
      let inside : In one (of_stated m u n (statement_of m u.nodes n)) = subst (λ o. In one (of_stated m u n o)) (sym is_found) (to_map (stating (inline_slot m u n top indices)) inline k (in_contains inline k has)) in
      refused_near k (inline_slot m t n top indices) (inline_slot m u n top indices) (same_inline m t u n top indices outer_alone (λ slot own. ap bound_of (other_node m t u n node slot is is other own))) near_k
      (passed (of_stated m u n (statement_of m u.nodes n)) (inline_slot m u n top indices) k (tests.nodes since.earlier n node above (slice_get_within t.nodes n node is) is other) inside)

  -- a new action, or one that is linked anew
  by_own : (a : ℕ) (node : Node) (act : Act) → slice_get t.nodes n ≡ Some node → node.fill ≡ fill.Leaf a → slice_get t.actions a ≡ Some act → act.node ≡ Some n → IsFresh fresh act → is_refused_at k (inline_slot m t n top indices) ≡ false
  by_own a node act is leaf at home new =
      let one = stating (made_slot m u act top indices) k in
      let made : of_own m u act act.node ≡ of_made m u act (Some found) = ap (of_own m u act) home ∙ ap (of_made m u act) is_found in
      let inside : In one (of_own m u act act.node) = subst (In one) (sym made) (to_map (stating (made_slot m u act top indices)) inline k (in_contains inline k has)) in
      refused_near k (inline_slot m t n top indices) (made_slot m u act top indices)
      (same_made m t u n top indices outer_alone act (λ slot own. ap bound_of (leaf_node m t n a node act slot is leaf at own) ∙ same_act m t u since.new unread a 0 act slot)) near_k
      (passed (of_own m u act act.node) (made_slot m u act top indices) k (none_any (is_own_refused m u) fresh act (tests.acts since.earlier) (in_get fresh new.0 act new.1)) inside)

  by_leaf : (a : ℕ) (node : Node) (act : Act) → slice_get t.nodes n ≡ Some node → node.fill ≡ fill.Leaf a → slice_get t.actions a ≡ Some act → act.node ≡ Some n → (slice_get s.actions a ≡ Some act) ⊎ IsFresh fresh act
      → is_refused_at k (inline_slot m t n top indices) ≡ false
  by_leaf a node act is leaf at home (inl old) =
      let x = since.homes a n act old home in
      by_old x.0 x.1 (λ slot own. ap bound_of (leaf_node m t n a node act slot is leaf at own) ∙ same_act m t s since.new since.old a a act slot ∙ ap bound_of (sym (leaf_node m s n a x.0 act slot x.1 x.2 old own)))
  by_leaf a node act is leaf at home (inr new) = by_own a node act is leaf at home new

  by_other : (node : Node) → slice_get t.nodes n ≡ Some node → is_leaf node.fill ≡ false → (n < from) ⊎ (from ≤ n) → is_refused_at k (inline_slot m t n top indices) ≡ false
  by_other node is other (inl below) =
      let old = since.nodes n node below is in
      by_old node old (λ slot own. ap bound_of (other_node m t s n node slot is old other own))
  by_other node is other (inr above) = by_traversal node is other above

  pub by_fill : (node : Node) (f : Fill) → slice_get t.nodes n ≡ Some node → node.fill ≡ f → is_refused_at k (inline_slot m t n top indices) ≡ false
  by_fill node (fill.Leaf a) is of =
      let x = since.leaves n a node is of in
      by_leaf a node x.0 is of x.1 x.2 (since.acts a x.0 x.1)
  by_fill node (fill.Compound action instance fields) is of = by_other node is (ap is_leaf of) (cases_lt n from)
  by_fill node fill.Sequence is of = by_other node is (ap is_leaf of) (cases_lt n from)
  by_fill node fill.Parallel is of = by_other node is (ap is_leaf of) (cases_lt n from)
  by_fill node fill.Schedule is of = by_other node is (ap is_leaf of) (cases_lt n from)
  by_fill node (fill.Joined parallel joined) is of = by_other node is (ap is_leaf of) (cases_lt n from)
  by_fill node (fill.Select branch) is of = by_other node is (ap is_leaf of) (cases_lt n from)
  by_fill node fill.Repeat is of = by_other node is (ap is_leaf of) (cases_lt n from)
  by_fill node (fill.Turn index) is of = by_other node is (ap is_leaf of) (cases_lt n from)
  by_fill node (fill.If taken) is of = by_other node is (ap is_leaf of) (cases_lt n from)
  by_fill node (fill.Match arm) is of = by_other node is (ap is_leaf of) (cases_lt n from)
