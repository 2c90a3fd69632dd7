-- What stands behind a handle of an action round a traversal is as it was, or no inline constraint that looks behind it is refused.
use Rattle.std.proofs.Common.{◌≡◌, ◌⊎◌, ℕ, ◌<◌, List, [], ◌∷◌, map, length, Contains, true, false, ◌&&◌, Option, Some, None, refl, sym, ap, ap₂, ◌∙◌, subst, inl, inr, ⊎_elim, arith}
use Rattle.std.specs.Prelude.{slice_get, nat_lt}
use Rattle.std.specs.List.{list_any}
use Rattle.std.specs.Option.{option_and_then}
use Rattle.std.proofs.lemmas.Bool.{ltb-false, eq-eqb}
use Rattle.std.proofs.lemmas.Option.{none-some, slice_get_within}
use Rattle.pst_model.specs.ConstraintTree.{SlotTree, ConstraintTree, Own, Object, First as Initial-of, ClaimId, ClaimField, Prev, IsFirst, Id, Index, Local, Through, Outer}
use Rattle.pst_model.specs.ActivityTree.{Traverse}
use Rattle.pst_model.specs.ModelTree.{ModelTree}
use Rattle.pst_scen.specs.declared.tree.Node.{Node}
use Rattle.pst_scen.specs.declared.tree.Fill.{Fill}
use Rattle.pst_scen.specs.declared.act.Act.{Act}
use Rattle.pst_scen.specs.declared.scenario.Scenario.{Scenario}
use Rattle.pst_legal.specs.Statements.{StandsFor, handle_node}
use Rattle.pst_legal.specs.Standing.{Standing, Lacking, bound_of}
use Rattle.pst_legal.specs.Slots.{behind, traversed_type, unread_slot, compound_in, compound_at, fill_slot, maybe_fill_slot, node_slot}
use Rattle.pst_built.specs.Onward.{Each, MoreNode}
use Rattle.pst_built.proofs.Members.{In, any_from, to_flat_map}
use Rattle.pst_slots.specs.Listed.{of_stated}
use Rattle.pst_slots.specs.Stated.{statement_of}
use Rattle.pst_slots.proofs.Kept.{all_found, stands_at}
use Rattle.pst_refusals.specs.Answers.{StandEarlier}
use Rattle.pst_slots.proofs.Listed.{in_contains}
use Rattle.pst_refusals.specs.Failing.{fails}
use Rattle.pst_refusals.specs.Inlines.{is_far_slot}
use Rattle.pst_touched.specs.Touched.{IsTouched, Has, HasTouched}
use Rattle.pst_touched.proofs.Untouched.{untouched_old}
use Rattle.pst_new_refusals.specs.Named.{outer_handle, named_by, named_of}
use Rattle.pst_new_refusals.specs.Since.{IsSince}
use Rattle.pst_new_refusals.specs.Settled.{names_at, is_outer_behind, looks_behind, step_looks, stated_looks, AreLookingFree}
use Rattle.pst_new_refusals.specs.Newly.{AreBehindFree}
use Rattle.pst_new_refusals.proofs.Stated.{IsCompoundAt}
use Rattle.pst_new_refusals.proofs.Passed.{second}
use Rattle.pst_new_refusals.proofs.Same.{same_node}
use Rattle.pst_new_refusals.proofs.Names.{named_round}
use Rattle.pst_new_refusals.proofs.OldWays.{handle_there, handle_was, handle_is}
use Rattle.pst_new_refusals.proofs.HandleWays.{handle_untouched}

-- a list that has something isn't empty
some_in : (xs : List ℕ) (x : ℕ) → In x xs → nat_lt 0 (length xs) ≡ false → ⊥
some_in [] x has none = has
some_in (y ∷ ys) x has none = let l = ltb-false 0 (length (y ∷ ys)) none in absurd (omega (arith, l))

-- each of them has one, or there is the other
pub all_or : {A : Type 0} (P : A → Type 0) (Q : Type 0) (xs : List A) → ((x : A) → In x xs → P x ⊎ Q) → ((x : A) → In x xs → P x) ⊎ Q
all_or P Q [] each = inl (λ x has. absurd has)
all_or P Q (y ∷ ys) each =
    ⊎_elim
    (λ first. ⊎_elim (λ rest. inl (λ x has. ⊎_elim (λ same. subst P same first) (λ later. rest x later) has)) (λ q. inr q) (all_or P Q ys (λ x has. each x (inr has))))
    (λ q. inr q)
    (each y (inl refl))

-- what is behind a handle of a compound action
through_is : (m : ModelTree) (x : Scenario) (top action handle : ℕ) (slot : SlotTree) → compound_at x.nodes top ≡ Some action
    → node_slot m x top (Through handle slot) ≡ behind (λ k. node_slot m x k slot) (handle_node m x.nodes top action handle) (behind (λ type. unread_slot m type slot) (traversed_type m action handle) Lacking)
through_is m x top action handle slot is =
    ap
    (λ (o : Option ℕ). behind (λ k. node_slot m x k slot) (option_and_then (λ a. handle_node m x.nodes top a handle) o) (behind (λ type. unread_slot m type slot) (option_and_then (λ a. traversed_type m a handle) o) Lacking))
    is

-- ---- what belongs to the action round a traversal

module _ (m : ModelTree) (s t : Scenario) (from : ℕ) (fresh : List Act) (since : IsSince s t from fresh)
    (same_old : (slot : SlotTree) (n : ℕ) → (IsTouched t.nodes from fresh n → ⊥) → bound_of (node_slot m t n slot) ≡ bound_of (node_slot m s n slot))
    (top : ℕ) (up : IsCompoundAt t.nodes top) (was : slice_get s.nodes top ≡ Some up.node) (Other : Type 0) where
  abbrev IsUntouched : ℕ → Type 0
  IsUntouched n = IsTouched t.nodes from fresh n → ⊥

  abbrev IsSame : SlotTree → Type 0
  IsSame slot = bound_of (node_slot m t top slot) ≡ bound_of (node_slot m s top slot)

  -- the node of a handle wasn't touched, or there is the other
  abbrev AreUntouched : ℕ → Type 0
  AreUntouched name = (k : ℕ) → handle_node m t.nodes top up.action name ≡ Some k → IsUntouched k ⊎ Other

  of_new : compound_at t.nodes top ≡ Some up.action
  of_new = ap (option_and_then (λ (node : Node). compound_in node.fill)) up.is ∙ ap compound_in up.of

  of_old : compound_at s.nodes top ≡ Some up.action
  of_old = ap (option_and_then (λ (node : Node). compound_in node.fill)) was ∙ ap compound_in up.of

  through : (name : ℕ) (slot : SlotTree) → AreUntouched name → IsSame (Through name slot) ⊎ Other
  through name slot each =
      ⊎_elim (λ same. inl (ap bound_of (through_is m t top up.action name slot of_new) ∙ same ∙ sym (ap bound_of (through_is m s top up.action name slot of_old)))) (λ other. inr other) (by (handle_node m t.nodes top up.action name) refl)
    where
      rest : Standing
      rest = behind (λ type. unread_slot m type slot) (traversed_type m up.action name) Lacking

      before : ℕ → Type 0
      before k = handle_node m s.nodes top up.action name ≡ Some k

      none : (o : Option ℕ) → handle_node m s.nodes top up.action name ≡ o → handle_node m t.nodes top up.action name ≡ None → bound_of rest ≡ bound_of (behind (λ k. node_slot m s k slot) o rest)
      none None e f = refl
      none (Some k) e f = absurd (none-some k (sym f ∙ handle_is m s.nodes t.nodes since.more since.earlier top up.action name k e))

      it_was : (k : ℕ) → handle_node m t.nodes top up.action name ≡ Some k → IsUntouched k → before k
      it_was k e not_touched =
          let x = handle_there m t.nodes top up.action name k (up.node, up.is) e in
          let old = since.nodes k x.0 (untouched_old s.nodes t.nodes from fresh since.nodes since.more k not_touched) x.1 in
          handle_was m s.nodes t.nodes since.more since.earlier top up.action name k e (slice_get_within s.nodes k x.0 old)

      by : (o : Option ℕ) → handle_node m t.nodes top up.action name ≡ o
          → (bound_of (behind (λ k. node_slot m t k slot) o rest) ≡ bound_of (behind (λ k. node_slot m s k slot) (handle_node m s.nodes top up.action name) rest)) ⊎ Other
      by None e = inl (none (handle_node m s.nodes top up.action name) refl e)
      by (Some k) e =
          ⊎_elim (λ not_touched. inl (same_old slot k not_touched ∙ ap (λ (o : Option ℕ). bound_of (behind (λ j. node_slot m s j slot) o rest)) (sym (it_was k e not_touched)))) (λ other. inr other) (each k e)

  -- a slot behind another action's own
  lacks : (x : Scenario) → slice_get x.nodes top ≡ Some up.node → (slot : SlotTree) → node_slot m x top (Outer slot) ≡ Lacking
  lacks x is slot = ap (λ (o : Option Node). maybe_fill_slot m x o (Outer slot)) is ∙ ap (λ (f : Fill). fill_slot m x f (Outer slot)) up.of

  at_node : (slot : SlotTree) → is_far_slot slot ≡ false → IsSame slot ⊎ Other
  at_node slot near = inl (same_node m t s top up.action up.instance up.fields up.node slot up.is was up.of near)

  -- any slot of the action
  pub outer_same : (slot : SlotTree) → ((name : ℕ) (inner : SlotTree) → slot ≡ Through name inner → AreUntouched name) → IsSame slot ⊎ Other
  outer_same (Through name slot) each = through name slot (each name slot refl)
  outer_same (Outer slot) each = inl (ap bound_of (lacks t up.is slot ∙ sym (lacks s was slot)))
  outer_same (Own field) each = at_node (Own field) refl
  outer_same (Object reference field) each = at_node (Object reference field) refl
  outer_same (Initial-of reference) each = at_node (Initial-of reference) refl
  outer_same (ClaimId claim) each = at_node (ClaimId claim) refl
  outer_same (ClaimField claim field) each = at_node (ClaimField claim field) refl
  outer_same (Prev field) each = at_node (Prev field) refl
  outer_same IsFirst each = at_node IsFirst refl
  outer_same Id each = at_node Id refl
  outer_same (Index level) each = at_node (Index level) refl
  outer_same (Local local) each = at_node (Local local) refl

-- ---- the inline constraints that look behind a handle

module _ (m : ModelTree) (u : Scenario) (earlier : StandEarlier u.nodes) (n top action : ℕ) (handle : Option ℕ) (inline : List ConstraintTree) (indices : List ℕ) (k : ConstraintTree)
    (stands : StandsFor m u.nodes top n (Traverse action handle inline) indices) (has : Contains inline k) (name : ℕ) (inner : SlotTree) (looks : In (Outer (Through name inner)) k.slots) where
  -- one of them is looked at
  pub looking_free : AreLookingFree m u top name (length u.nodes) → list_any (fails false) (of_stated m u n (statement_of m u.nodes n)) ≡ false
  looking_free free =
      let at = stands_at m u.nodes top stands in
      let one : is_outer_behind name (Outer (Through name inner)) ≡ true = eq-eqb name name refl in
      let by_k : looks_behind name k ≡ true = any_from (is_outer_behind name) k.slots (Outer (Through name inner)) looks one in
      let by_step : step_looks name (Traverse action handle inline) ≡ true = any_from (looks_behind name) inline k (in_contains inline k has) by_k in
      let whole : stated_looks top name (statement_of m u.nodes n) ≡ true =
      ap (stated_looks top name) (all_found m u.nodes earlier n top (Traverse action handle inline) indices stands) ∙ ap₂ (λ a b. a && b) (eq-eqb top top refl) by_step in
      second (stated_looks top name (statement_of m u.nodes n)) (list_any (fails false) (of_stated m u n (statement_of m u.nodes n))) whole (free earlier n (slice_get_within u.nodes n at.0 at.1))

  -- its handle is named
  pub looks_named : (named : List (List ℕ)) → named ≡ map named_of m.actions → In name (names_at named (slice_get u.nodes top))
  looks_named named same =
      named_round name m named same u.nodes top stands
      (to_flat_map named_by inline k name (in_contains inline k has) (to_flat_map outer_handle k.slots (Outer (Through name inner)) name looks (inl refl)))

  -- so its node wasn't touched, or none of them is refused
  module _ (old : List Node) (from : ℕ) (fresh : List Act) (nodes : (j : ℕ) (node : Node) → j < from → slice_get u.nodes j ≡ Some node → slice_get old j ≡ Some node) (more : Each MoreNode old u.nodes)
      (list : List ℕ) (all : HasTouched u.nodes from fresh list) (there : Has list top) (up : IsCompoundAt u.nodes top) (named : List (List ℕ)) (same : named ≡ map named_of m.actions) where
    pub named_untouched : AreBehindFree m u named from list → (j : ℕ) → handle_node m u.nodes top up.action name ≡ Some j → (IsTouched u.nodes from fresh j → ⊥) ⊎ AreLookingFree m u top name (length u.nodes)
    named_untouched (inl near) j at = absurd (some_in (names_at named (slice_get u.nodes top)) name (looks_named named same) (near top there))
    named_untouched (inr settled) j at = handle_untouched m old u from fresh nodes more earlier list all named settled top name (looks_named named same) up.node up.action up.instance up.fields up.is up.of j at
