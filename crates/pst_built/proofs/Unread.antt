-- What is read behind a handle is inside what stood there before.
use Rattle.std.proofs.Common.{◌≡◌, ℕ, ℤ, pos, List, Bool, true, false, if◌then◌else◌, Option, Some, None, refl, sym, ap, ◌∙◌, subst}
use Rattle.std.specs.Prelude.{slice_get}
use Rattle.std.specs.Option.{option_map, option_and_then}
use Rattle.std.proofs.lemmas.Option.{none-some, same_Some}
use Rattle.pst_expr.specs.declared.ranges.Span.{Span}
use Rattle.pst_domain.specs.Bounds.{IsInside}
use Rattle.pst_model.specs.ConstraintTree.{SlotTree, Own, Object, First as Initial-of, ClaimId, ClaimField, Prev, IsFirst, Id, Index, Local, Through, Outer}
use Rattle.pst_model.specs.ModelTree.{ModelTree}
use Rattle.pst_scen.specs.declared.tree.Node.{Node}
use Rattle.pst_scen.specs.declared.tree.Fill.{Fill}
use Rattle.pst_scen.specs.declared.tree.Fill.TheVariants as fill
use Rattle.pst_scen.specs.declared.act.Act.{Act}
use Rattle.pst_scen.specs.declared.act.Filled.{Filled}
use Rattle.pst_scen.specs.declared.act.Claimed.{Claimed}
use Rattle.pst_scen.specs.declared.act.Flow.{Flow}
use Rattle.pst_scen.specs.declared.act.Flow.TheVariants.{BufferIn, BufferOut, StreamIn, StreamOut, StateIn, StateOut}
use Rattle.pst_scen.specs.declared.act.Link.{Link}
use Rattle.pst_scen.specs.declared.scenario.Scenario.{Scenario}
use Rattle.pst_scen.specs.Scenarios.{reference_at}
use Rattle.pst_legal.specs.Types.{action_field, is_output}
use Rattle.pst_legal.specs.Statements.{handle_node}
use Rattle.pst_legal.specs.Blanks.{OfAct, OfOutput, OfClaim, Instance, claim_field}
use Rattle.pst_legal.specs.Standing.{Lacking, Unread, unread, unread_truth, field_span}
use Rattle.pst_legal.specs.Slots.{pool_span, written_slot, linked_slot, flow_slot, initial_by, initial_slot, claim_slot, claim_values, claim_field_slot, behind, traversed_type, unread_slot, act_slot, compound_slot, maybe_act_slot, fill_slot, maybe_fill_slot, compound_in, compound_at, node_behind, type_behind, node_slot}
use Rattle.pst_built.specs.Known.{Narrower, Allows, claim_numbers, InDomains, IsOf, HasType, HandlesHaveTypes}
use Rattle.pst_built.proofs.MoreKnownNodes.{HandlesFit}
use Rattle.pst_built.proofs.Onward.{onward_same}
use Rattle.pst_built.proofs.Bounds.{narrower_self, narrower_then, blank_known, unread_known, from_open, never_first}
use Rattle.pst_built.proofs.Inside.{linked_allows}

-- the numbers of a pool of claims are those that stand for it before its action is read
abbrev pub PoolsAreSmall : ModelTree → Type 0
PoolsAreSmall m = (action instance claim : ℕ) → IsInside (claim_numbers m action instance claim) (Some (record { low = pos 0; high = pos 1023 }))

module _ (m : ModelTree) (t : Scenario) (sane : InDomains m t) (typed : HandlesHaveTypes m t) (small : PoolsAreSmall m) where
  flow_unread : (a r field : ℕ) (f : Filled) → reference_at t.actions a r ≡ Some f → Narrower (flow_slot m t a r (Some f) field) (unread (pool_span m f.pool field))
  flow_unread a r field f is = by_direction (is_output f.flow)
    where
      by_direction : (b : Bool) → Narrower (if b then written_slot m a r f field else linked_slot m t f.pool f.link field) (unread (pool_span m f.pool field))
      by_direction true = blank_known (OfOutput a r field) (pool_span m f.pool field) (slice_get f.values field) (λ v e. sane.outputs a r f field v is e)
      by_direction false = linked_allows m t t (onward_same t) sane f.pool field f.link (λ b q g to there. sane.links a r b q f g is to there)

  initial_unread : (o : Option Filled) → Narrower (initial_slot o) unread_truth
  initial_unread None = tt
  initial_unread (Some f) = by_flow f.flow f.link
    where
      by_flow : (flow : Flow) (to : Link) → Narrower (initial_by flow to) unread_truth
      by_flow StateIn to = from_open to
      by_flow StateOut to = never_first
      by_flow BufferIn to = tt
      by_flow BufferOut to = tt
      by_flow StreamIn to = tt
      by_flow StreamOut to = tt

  module _ (a : ℕ) (act : Act) (is : slice_get t.actions a ≡ Some act) where
    object_unread : (r field : ℕ) (o : Option Filled) → slice_get act.references r ≡ o → Narrower (flow_slot m t a r o field) (unread_slot m act.action (Object r field))
    object_unread r field None there = tt
    object_unread r field (Some f) there =
        subst (λ span. Narrower (flow_slot m t a r (Some f) field) (unread span)) (sane.served a act r f field is there)
        (flow_unread a r field f (ap (option_and_then (λ (z : Act). slice_get z.references r)) is ∙ there))

    number_unread : (c : ℕ) → Narrower (claim_slot m a act c) (unread (claim_numbers m act.action act.instance c))
    number_unread c =
        blank_known (Instance a c) (claim_numbers m act.action act.instance c) (option_map (λ (claimed : Claimed). pos claimed.instance) (slice_get act.claims c)) (λ v e. by_claim (slice_get act.claims c) refl v e)
      where
        by_claim : (o : Option Claimed) → slice_get act.claims c ≡ o → (v : ℤ) → option_map (λ (claimed : Claimed). pos claimed.instance) o ≡ Some v → Allows (claim_numbers m act.action act.instance c) v
        by_claim None there v e = absurd (none-some v e)
        by_claim (Some k) there v e = subst (Allows (claim_numbers m act.action act.instance c)) (same_Some (pos k.instance) v e) (sane.instances a act c k is there)

    value_unread : (c field : ℕ) → Narrower (claim_field_slot m a act c field) (unread (field_span (claim_field m act.action c field)))
    value_unread c field = blank_known (OfClaim a c field) (field_span (claim_field m act.action c field)) (slice_get (claim_values (slice_get act.claims c)) field) (λ v e. by_claim (slice_get act.claims c) refl v e)
      where
        by_claim : (o : Option Claimed) → slice_get act.claims c ≡ o → (v : ℤ) → slice_get (claim_values o) field ≡ Some v → Allows (field_span (claim_field m act.action c field)) v
        by_claim None there v e = absurd (none-some v e)
        by_claim (Some k) there v e = sane.claims a act c k field v is there e

    act_unread : (slot : SlotTree) → Narrower (act_slot m t a act slot) (unread_slot m act.action slot)
    act_unread (Own field) = blank_known (OfAct a field) (field_span (action_field m act.action field)) (slice_get act.fields field) (λ v e. sane.fields a act field v is e)
    act_unread (Object r field) = object_unread r field (slice_get act.references r) refl
    act_unread (Initial-of r) = initial_unread (slice_get act.references r)
    act_unread (ClaimId c) =
        narrower_then (claim_slot m a act c) (unread (claim_numbers m act.action act.instance c)) (Unread (record { low = pos 0; high = pos 1023 })) (number_unread c)
        (few (claim_numbers m act.action act.instance c) (small act.action act.instance c))
      where
        few : (o : Option Span) → IsInside o (Some (record { low = pos 0; high = pos 1023 })) → Narrower (unread o) (Unread (record { low = pos 0; high = pos 1023 }))
        few None l = tt
        few (Some span) l = l
    act_unread (ClaimField c field) = value_unread c field
    act_unread (Prev f) = tt
    act_unread IsFirst = tt
    act_unread Id = tt
    act_unread (Index l) = tt
    act_unread (Local l) = tt
    act_unread (Through h slot) = tt
    act_unread (Outer slot) = tt

  compound_unread : (n : ℕ) (x : Node) (action instance : ℕ) (values : List ℤ) → slice_get t.nodes n ≡ Some x → x.fill ≡ fill.Compound action instance values
      → (slot : SlotTree) → Narrower (compound_slot m action values slot) (unread_slot m action slot)
  compound_unread n x action instance values is filled (Own field) =
      unread_known (field_span (action_field m action field)) (slice_get values field) (λ v e. sane.compounds n x action instance values field v is filled e)
  compound_unread n x action instance values is filled (Object r f) = tt
  compound_unread n x action instance values is filled (Initial-of r) = tt
  compound_unread n x action instance values is filled (ClaimId c) = tt
  compound_unread n x action instance values is filled (ClaimField c f) = tt
  compound_unread n x action instance values is filled (Prev f) = tt
  compound_unread n x action instance values is filled IsFirst = tt
  compound_unread n x action instance values is filled Id = tt
  compound_unread n x action instance values is filled (Index l) = tt
  compound_unread n x action instance values is filled (Local l) = tt
  compound_unread n x action instance values is filled (Through h slot) = tt
  compound_unread n x action instance values is filled (Outer slot) = tt

  fill_unread : (n : ℕ) (x : Node) → slice_get t.nodes n ≡ Some x → (f : Fill) → x.fill ≡ f → (type : ℕ) → IsOf t type f → (slot : SlotTree) → Narrower (fill_slot m t f slot) (unread_slot m type slot)
  fill_unread n x is (fill.Compound action instance values) filled type of slot =
      subst (λ y. Narrower (compound_slot m action values slot) (unread_slot m y slot)) of (compound_unread n x action instance values is filled slot)
  fill_unread n x is (fill.Leaf a) filled type of slot =
      subst (λ o. Narrower (maybe_act_slot m t a o slot) (unread_slot m type slot)) (sym of.1)
      (subst (λ y. Narrower (act_slot m t a of.0 slot) (unread_slot m y slot)) of.2 (act_unread a of.0 of.1 slot))
  fill_unread n x is fill.Sequence filled type of slot = absurd of
  fill_unread n x is fill.Parallel filled type of slot = absurd of
  fill_unread n x is fill.Schedule filled type of slot = absurd of
  fill_unread n x is (fill.Joined parallel joined) filled type of slot = absurd of
  fill_unread n x is (fill.Select branch) filled type of slot = absurd of
  fill_unread n x is fill.Repeat filled type of slot = absurd of
  fill_unread n x is (fill.Turn index) filled type of slot = absurd of
  fill_unread n x is (fill.If taken) filled type of slot = absurd of
  fill_unread n x is (fill.Match arm) filled type of slot = absurd of

  plain_unread : (k type : ℕ) → HasType t k type → (slot : SlotTree) → Narrower (maybe_fill_slot m t (slice_get t.nodes k) slot) (unread_slot m type slot)
  plain_unread k type has slot =
      subst (λ o. Narrower (maybe_fill_slot m t o slot) (unread_slot m type slot)) (sym has.1) (fill_unread k has.0 has.1 has.0.fill refl type has.2 slot)

  -- a handle of the action behind a handle
  through_unread : (k type h : ℕ) (slot : SlotTree) → HasType t k type → ((n other : ℕ) → HasType t n other → Narrower (node_slot m t n slot) (unread_slot m other slot))
      → Narrower (node_slot m t k (Through h slot)) (unread_slot m type (Through h slot))
  through_unread k type h slot has each = by_fill has.0.fill refl has.2
    where
      at : (f : Fill) → has.0.fill ≡ f → compound_at t.nodes k ≡ compound_in f
      at f e = ap (option_and_then (λ node. compound_in node.fill)) has.1 ∙ ap compound_in e

      by_behind : (o : Option ℕ) → node_behind m t.nodes k h ≡ o → Narrower (behind (λ n. node_slot m t n slot) o (behind (λ y. unread_slot m y slot) (type_behind m t.nodes k h) Lacking)) (behind (λ y. unread_slot m y slot) (type_behind m t.nodes k h) Lacking)
      by_behind None is = narrower_self (behind (λ y. unread_slot m y slot) (type_behind m t.nodes k h) Lacking)
      by_behind (Some n) is =
          let r = typed k h n is in
          subst (λ o. Narrower (node_slot m t n slot) (behind (λ y. unread_slot m y slot) o Lacking)) (sym r.1) (each n r.0 r.2)

      none_behind : compound_at t.nodes k ≡ None → Narrower (node_slot m t k (Through h slot)) (unread_slot m type (Through h slot))
      none_behind none =
          subst (λ o. Narrower (behind (λ n. node_slot m t n slot) (option_and_then (λ action. handle_node m t.nodes k action h) o) (behind (λ y. unread_slot m y slot) (option_and_then (λ action. traversed_type m action h) o) Lacking)) (unread_slot m type (Through h slot)))
          (sym none) tt

      by_fill : (f : Fill) → has.0.fill ≡ f → IsOf t type f → Narrower (node_slot m t k (Through h slot)) (unread_slot m type (Through h slot))
      by_fill (fill.Compound action instance values) e of =
          let same : type_behind m t.nodes k h ≡ traversed_type m type h = ap (option_and_then (λ action. traversed_type m action h)) (at (fill.Compound action instance values) e) ∙ ap (λ y. traversed_type m y h) of in
          subst (λ o. Narrower (node_slot m t k (Through h slot)) (behind (λ y. unread_slot m y slot) o Lacking)) same (by_behind (node_behind m t.nodes k h) refl)
      by_fill (fill.Leaf a) e of = none_behind (at (fill.Leaf a) e)
      by_fill fill.Sequence e of = absurd of
      by_fill fill.Parallel e of = absurd of
      by_fill fill.Schedule e of = absurd of
      by_fill (fill.Joined parallel joined) e of = absurd of
      by_fill (fill.Select branch) e of = absurd of
      by_fill fill.Repeat e of = absurd of
      by_fill (fill.Turn index) e of = absurd of
      by_fill (fill.If taken) e of = absurd of
      by_fill (fill.Match arm) e of = absurd of

  pub node_unread : (slot : SlotTree) (k type : ℕ) → HasType t k type → Narrower (node_slot m t k slot) (unread_slot m type slot)
  node_unread (Through h slot) k type has = through_unread k type h slot has (λ n other is. node_unread slot n other is)
  node_unread (Own field) k type has = plain_unread k type has (Own field)
  node_unread (Object r field) k type has = plain_unread k type has (Object r field)
  node_unread (Initial-of r) k type has = plain_unread k type has (Initial-of r)
  node_unread (ClaimId c) k type has = plain_unread k type has (ClaimId c)
  node_unread (ClaimField c field) k type has = plain_unread k type has (ClaimField c field)
  node_unread (Prev f) k type has = plain_unread k type has (Prev f)
  node_unread IsFirst k type has = plain_unread k type has IsFirst
  node_unread Id k type has = plain_unread k type has Id
  node_unread (Index l) k type has = plain_unread k type has (Index l)
  node_unread (Local l) k type has = plain_unread k type has (Local l)
  node_unread (Outer slot) k type has = plain_unread k type has (Outer slot)

  pub handles_fit : HandlesFit m t
  handles_fit = record { fits = λ n handle k is. let r = typed n handle k is in (r.0, r.1, λ slot. node_unread slot k r.0 r.2) }
