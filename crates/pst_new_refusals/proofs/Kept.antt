-- Constraints whose slots weren't changed are as they were, in models whose constraints don't look behind handles.
use Rattle.std.proofs.Common.{◌≡◌, ◌⊎◌, ℕ, ℤ, ◌<◌, ◌≤◌, List, Contains, false, Option, Some, refl, sym, subst, inl, inr}
use Rattle.std.specs.Prelude.{slice_get}
use Rattle.std.specs.List.{list_any}
use Rattle.std.proofs.lemmas.Bool.{cases_lt}
use Rattle.std.proofs.lemmas.Option.{slice_get_within, option_and_then_some}
use Rattle.pst_model.specs.ConstraintTree.{SlotTree, ConstraintTree}
use Rattle.pst_model.specs.ActivityTree.{Traverse}
use Rattle.pst_model.specs.ModelTree.{ModelTree, ActionTree}
use Rattle.pst_scen.specs.declared.tree.Node.{Node}
use Rattle.pst_scen.specs.declared.tree.Fill.TheVariants as fill
use Rattle.pst_scen.specs.declared.act.Act.{Act}
use Rattle.pst_scen.specs.declared.scenario.Scenario.{Scenario}
use Rattle.pst_legal.specs.Types.{type_of}
use Rattle.pst_legal.specs.Statements.{StandsFor}
use Rattle.pst_legal.specs.Standing.{Standing}
use Rattle.pst_legal.specs.Slots.{node_slot, inline_slot}
use Rattle.pst_legal.specs.Constraints.{HasConstraint, OfCompound, OfAct, OfOutput, OfClaim, OfFirst, Inline, is_refused_at}
use Rattle.pst_legal.specs.First.{NoneRefused}
use Rattle.pst_built.proofs.Members.{In, none_any}
use Rattle.pst_slots.specs.Listed.{stating, of_fill}
use Rattle.pst_slots.proofs.Kept.{stands_at}
use Rattle.pst_slots.proofs.Listed.{in_contains}
use Rattle.pst_refusals.specs.Inlines.{is_far, is_far_slot, has_inlines}
use Rattle.pst_new_refusals.specs.Far.{has_far}
use Rattle.pst_new_refusals.specs.Since.{IsUnread, IsSince}
use Rattle.pst_new_refusals.specs.Newly.{so_far, ArePlainFree, AreInlinesFree}
use Rattle.pst_refusals.proofs.Without.{none_inline}
use Rattle.pst_new_refusals.proofs.Near.{near_type, near_inline}
use Rattle.pst_new_refusals.proofs.Same.{same_node, refused_near}
use Rattle.pst_new_refusals.proofs.Passed.{passed, of_type_in}
use Rattle.pst_new_refusals.proofs.Acts.{by_act, by_output, by_claim, by_first}
use Rattle.pst_new_refusals.proofs.Inline.{by_fill}

module _ (m : ModelTree) (s t : Scenario) (from : ℕ) (fresh : List Act) (since : IsSince s t from fresh) (none : NoneRefused m s)
    (acts : List Act) (unread : IsUnread (so_far t.nodes acts))
    (near : has_far m ≡ false) (free : ArePlainFree m (so_far t.nodes acts) from fresh) (inlines : (has_inlines m ≡ false) ⊎ AreInlinesFree m (so_far t.nodes acts) from fresh) where
  abbrev u : Scenario
  u = so_far t.nodes acts

  near_constraint : (action : ℕ) (type : ActionTree) (k : ConstraintTree) → type_of m action ≡ Some type → Contains type.constraints k → list_any is_far_slot k.slots ≡ false
  near_constraint action type k of has = none_any is_far type.constraints k (near_type m near action type of) (in_contains type.constraints k has)

  by_node : (n action instance : ℕ) (fields : List ℤ) (node : Node) (type : ActionTree) (k : ConstraintTree) → slice_get t.nodes n ≡ Some node → node.fill ≡ fill.Compound action instance fields → type_of m action ≡ Some type → Contains type.constraints k
      → (n < from) ⊎ (from ≤ n) → is_refused_at k (node_slot m t n) ≡ false
  by_node n action instance fields node type k is leaf of has (inl below) =
      let old = since.nodes n node below is in
      refused_near k (node_slot m t n) (node_slot m s n) (λ slot own. same_node m t s n action instance fields node slot is old leaf own) (near_constraint action type k of has)
      (none k (node_slot m s n) (OfCompound n action instance fields node type k old leaf of has))
  by_node n action instance fields node type k is leaf of has (inr above) =
      let one = stating (node_slot m u n) k in
      let inside : In one (of_fill m u n node.fill) = subst (λ f. In one (of_fill m u n f)) (sym leaf) (of_type_in m (node_slot m u n) action type k of has) in
      refused_near k (node_slot m t n) (node_slot m u n) (λ slot own. same_node m t u n action instance fields node slot is is leaf own) (near_constraint action type k of has)
      (passed (of_fill m u n node.fill) (node_slot m u n) k (free.nodes n node above (slice_get_within t.nodes n node is) is) inside)

  by_inline : (n top action : ℕ) (handle : Option ℕ) (inline : List ConstraintTree) (indices : List ℕ) (k : ConstraintTree) → StandsFor m t.nodes top n (Traverse action handle inline) indices → Contains inline k
      → (has_inlines m ≡ false) ⊎ AreInlinesFree m u from fresh → is_refused_at k (inline_slot m t n top indices) ≡ false
  by_inline n top action handle inline indices k stands has (inl without) = absurd (none_inline m without t.nodes top n action handle inline indices k stands has)
  by_inline n top action handle inline indices k stands has (inr tests) =
      let at = stands_at m t.nodes top stands in
      by_fill m s t from fresh since none acts unread n top action handle inline indices k stands has (near_inline m near t.nodes top n action handle inline indices k stands has) tests at.0 at.0.fill at.1 refl

  each : {k : ConstraintTree} {standing : SlotTree → Standing} → HasConstraint m t k standing → is_refused_at k standing ≡ false
  each (OfCompound n action instance fields node type k is leaf of has) = by_node n action instance fields node type k is leaf of has (cases_lt n from)
  each (OfAct a act type k is has) = by_act m s t from fresh since none acts unread free.acts a act type k is.of_type has (since.acts a act is.is)
  each (OfOutput a r filled object k is output of has) =
      option_and_then_some (λ (x : Act). slice_get x.references r) (slice_get t.actions a) filled is (λ act there at. by_output m s t from fresh since none acts unread free.acts a r act filled object k at output of has (since.acts a act there))
  each (OfClaim a c act type claim object k is at of has) = by_claim m s t from fresh since none acts unread free.acts a c act type claim object k is.of_type at of has (since.acts a act is.is)
  each (OfFirst a r filled object k is state of has) =
      option_and_then_some (λ (x : Act). slice_get x.references r) (slice_get t.actions a) filled is (λ act there at. by_first m s t from fresh since none acts unread free.acts a r act filled object k at state of has (since.acts a act there))
  each (Inline n top action handle inline indices k stands has) = by_inline n top action handle inline indices k stands has inlines

  pub kept : NoneRefused m t
  kept k standing has = each has
