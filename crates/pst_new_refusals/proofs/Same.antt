-- In scenarios without values the bounds of what belongs to an action are the same.
use Rattle.std.proofs.Common.{◌≡◌, ℕ, ℤ, pos, List, [], ◌∷◌, map, Bool, true, false, if◌then◌else◌, Option, Some, None, refl, sym, ap, ap₂, ◌∙◌, inl, inr}
use Rattle.std.specs.Prelude.{slice_get}
use Rattle.std.specs.List.{list_any}
use Rattle.std.specs.Option.{option_map}
use Rattle.std.proofs.lemmas.Bool.{false≢true, or_parts}
use Rattle.pst_expr.specs.declared.ranges.Span.{Span}
use Rattle.pst_domain.specs.Interval.{interval, is_refused}
use Rattle.pst_model.specs.ConstraintTree.{SlotTree, Own, Object, First as Initial-of, ClaimId, ClaimField, Prev, IsFirst, Id, Index, Local, Through, Outer, ConstraintTree}
use Rattle.pst_model.specs.ModelTree.{ModelTree}
use Rattle.pst_scen.specs.declared.tree.Node.{Node}
use Rattle.pst_scen.specs.declared.tree.Fill.TheVariants as fill
use Rattle.pst_scen.specs.declared.act.Act.{Act}
use Rattle.pst_scen.specs.declared.act.Claimed.{Claimed}
use Rattle.pst_scen.specs.declared.act.Filled.{Filled}
use Rattle.pst_scen.specs.declared.act.Link.{Link}
use Rattle.pst_scen.specs.declared.act.Link.TheVariants as link
use Rattle.pst_scen.specs.declared.scenario.Scenario.{Scenario}
use Rattle.pst_scen.specs.Scenarios.{reference_at}
use Rattle.pst_legal.specs.Types.{action_field, is_output}
use Rattle.pst_legal.specs.Blanks.{Blank, OfFirst, OfAct, OfOutput, OfClaim, Instance, claim_instances, claim_field}
use Rattle.pst_legal.specs.Standing.{Standing, bound_of, value_or, open_value, hull, field_span}
use Rattle.pst_legal.specs.Slots.{pool_span, first_values, claim_values, first_slot, written_slot, output_values, linked_slot, flow_slot, claim_slot, claim_field_slot, act_slot, compound_slot, fill_slot, maybe_fill_slot, node_slot, output_slot, resource_slot, first_object_slot}
use Rattle.pst_legal.specs.Constraints.{is_refused_at}
use Rattle.pst_built.proofs.Members.{In}
use Rattle.pst_refusals.specs.Inlines.{is_far_slot}
use Rattle.pst_new_refusals.specs.Since.{IsUnread}

-- where an open value stands doesn't matter
open_same : (o : Option ℤ) (b c : Blank) (span : Option Span) → bound_of (value_or o (open_value b span)) ≡ bound_of (value_or o (open_value c span))
open_same None b c None = refl
open_same None b c (Some span) = refl
open_same (Some v) b c span = refl

claimed : (m : ModelTree) (a b : ℕ) (act : Act) (claim : ℕ) → bound_of (claim_slot m a act claim) ≡ bound_of (claim_slot m b act claim)
claimed m a b act claim = open_same (option_map (λ (x : Claimed). pos x.instance) (slice_get act.claims claim)) (Instance a claim) (Instance b claim) (hull (claim_instances m act claim))

claimed_field : (m : ModelTree) (a b : ℕ) (act : Act) (claim field : ℕ) → bound_of (claim_field_slot m a act claim field) ≡ bound_of (claim_field_slot m b act claim field)
claimed_field m a b act claim field =
    open_same (slice_get (claim_values (slice_get act.claims claim)) field) (OfClaim a claim field) (OfClaim b claim field) (field_span (claim_field m act.action claim field))

no_output : (s : Scenario) → IsUnread s → (b q : ℕ) → output_values (reference_at s.actions b q) ≡ []
no_output s unread b q = by (reference_at s.actions b q) refl
  where
    by : (o : Option Filled) → reference_at s.actions b q ≡ o → output_values o ≡ []
    by None e = refl
    by (Some f) e = unread.outputs b q f e

module _ (m : ModelTree) (s u : Scenario) (here : IsUnread s) (there : IsUnread u) where
  same_first : (pool field : ℕ) → first_slot m s pool field ≡ first_slot m u pool field
  same_first pool field = ap (λ firsts. value_or (slice_get (first_values firsts pool) field) (open_value (OfFirst pool field) (pool_span m pool field))) (here.firsts ∙ sym there.firsts)

  same_linked : (pool : ℕ) (to : Link) (field : ℕ) → linked_slot m s pool to field ≡ linked_slot m u pool to field
  same_linked pool link.Nothing field = refl
  same_linked pool link.Initial field = same_first pool field
  same_linked pool (link.Act b q) field =
      ap (λ values. value_or (slice_get values field) (open_value (OfOutput b q field) (pool_span m pool field))) (no_output s here b q ∙ sym (no_output u there b q))

  same_flow : (a b r : ℕ) (o : Option Filled) (field : ℕ) → bound_of (flow_slot m s a r o field) ≡ bound_of (flow_slot m u b r o field)
  same_flow a b r None field = refl
  same_flow a b r (Some f) field = by (is_output f.flow)
    where
      by : (c : Bool) → bound_of (if c then written_slot m a r f field else linked_slot m s f.pool f.link field) ≡ bound_of (if c then written_slot m b r f field else linked_slot m u f.pool f.link field)
      by true = open_same (slice_get f.values field) (OfOutput a r field) (OfOutput b r field) (pool_span m f.pool field)
      by false = ap bound_of (same_linked f.pool f.link field)

  pub same_act : (a b : ℕ) (act : Act) (slot : SlotTree) → bound_of (act_slot m s a act slot) ≡ bound_of (act_slot m u b act slot)
  same_act a b act (Own field) = open_same (slice_get act.fields field) (OfAct a field) (OfAct b field) (field_span (action_field m act.action field))
  same_act a b act (Object reference field) = same_flow a b reference (slice_get act.references reference) field
  same_act a b act (Initial-of reference) = refl
  same_act a b act (ClaimId claim) = claimed m a b act claim
  same_act a b act (ClaimField claim field) = claimed_field m a b act claim field
  same_act a b act (Prev field) = refl
  same_act a b act IsFirst = refl
  same_act a b act Id = refl
  same_act a b act (Index level) = refl
  same_act a b act (Local local) = refl
  same_act a b act (Through handle slot) = refl
  same_act a b act (Outer slot) = refl

  pub same_output : (a b r : ℕ) (f : Filled) (slot : SlotTree) → bound_of (output_slot m s a r f slot) ≡ bound_of (output_slot m u b r f slot)
  same_output a b r f (Own field) = open_same (slice_get f.values field) (OfOutput a r field) (OfOutput b r field) (pool_span m f.pool field)
  same_output a b r f (Prev field) = ap bound_of (same_linked f.pool f.link field)
  same_output a b r f IsFirst = refl
  same_output a b r f (Object reference field) = refl
  same_output a b r f (Initial-of reference) = refl
  same_output a b r f (ClaimId claim) = refl
  same_output a b r f (ClaimField claim field) = refl
  same_output a b r f Id = refl
  same_output a b r f (Index level) = refl
  same_output a b r f (Local local) = refl
  same_output a b r f (Through handle slot) = refl
  same_output a b r f (Outer slot) = refl

  pub same_first_object : (pool : ℕ) (slot : SlotTree) → bound_of (first_object_slot m s pool slot) ≡ bound_of (first_object_slot m u pool slot)
  same_first_object pool (Own field) = ap bound_of (same_first pool field)
  same_first_object pool IsFirst = refl
  same_first_object pool (Prev field) = refl
  same_first_object pool (Object reference field) = refl
  same_first_object pool (Initial-of reference) = refl
  same_first_object pool (ClaimId claim) = refl
  same_first_object pool (ClaimField claim field) = refl
  same_first_object pool Id = refl
  same_first_object pool (Index level) = refl
  same_first_object pool (Local local) = refl
  same_first_object pool (Through handle slot) = refl
  same_first_object pool (Outer slot) = refl

pub same_resource : (m : ModelTree) (a b : ℕ) (act : Act) (c : ℕ) (slot : SlotTree) → bound_of (resource_slot m a act c slot) ≡ bound_of (resource_slot m b act c slot)
same_resource m a b act c (Own field) = claimed_field m a b act c field
same_resource m a b act c Id = claimed m a b act c
same_resource m a b act c (Prev field) = refl
same_resource m a b act c IsFirst = refl
same_resource m a b act c (Object reference field) = refl
same_resource m a b act c (Initial-of reference) = refl
same_resource m a b act c (ClaimId claim) = refl
same_resource m a b act c (ClaimField claim field) = refl
same_resource m a b act c (Index level) = refl
same_resource m a b act c (Local local) = refl
same_resource m a b act c (Through handle slot) = refl
same_resource m a b act c (Outer slot) = refl

-- ---- compound actions

-- what doesn't stand behind a handle belongs to the node
pub at_node : (m : ModelTree) (s : Scenario) (n : ℕ) (slot : SlotTree) → is_far_slot slot ≡ false → node_slot m s n slot ≡ maybe_fill_slot m s (slice_get s.nodes n) slot
at_node m s n (Through handle slot) near = absurd (false≢true (sym near))
at_node m s n (Own field) near = refl
at_node m s n (Object reference field) near = refl
at_node m s n (Initial-of reference) near = refl
at_node m s n (ClaimId claim) near = refl
at_node m s n (ClaimField claim field) near = refl
at_node m s n (Prev field) near = refl
at_node m s n IsFirst near = refl
at_node m s n Id near = refl
at_node m s n (Index level) near = refl
at_node m s n (Local local) near = refl
at_node m s n (Outer slot) near = refl

own_node : (m : ModelTree) (s : Scenario) (n action instance : ℕ) (fields : List ℤ) (node : Node) (slot : SlotTree) → slice_get s.nodes n ≡ Some node → node.fill ≡ fill.Compound action instance fields → is_far_slot slot ≡ false
    → node_slot m s n slot ≡ compound_slot m action fields slot
own_node m s n action instance fields node slot is of near = at_node m s n slot near ∙ ap (λ o. maybe_fill_slot m s o slot) is ∙ ap (λ f. fill_slot m s f slot) of

pub same_node : (m : ModelTree) (s u : Scenario) (n action instance : ℕ) (fields : List ℤ) (node : Node) (slot : SlotTree) → slice_get s.nodes n ≡ Some node → slice_get u.nodes n ≡ Some node
    → node.fill ≡ fill.Compound action instance fields → is_far_slot slot ≡ false → bound_of (node_slot m s n slot) ≡ bound_of (node_slot m u n slot)
same_node m s u n action instance fields node slot is also of near =
    ap bound_of (own_node m s n action instance fields node slot is of near ∙ sym (own_node m u n action instance fields node slot also of near))

-- ---- constraints

some_bounds : (skips : SlotTree → Bool) (p q : SlotTree → Standing) (slots : List SlotTree) → ((slot : SlotTree) → skips slot ≡ false → bound_of (p slot) ≡ bound_of (q slot)) → list_any skips slots ≡ false
    → map (λ slot. bound_of (p slot)) slots ≡ map (λ slot. bound_of (q slot)) slots
some_bounds skips p q [] each none = refl
some_bounds skips p q (slot ∷ slots) each none =
    let parts = or_parts (skips slot) (list_any skips slots) none in
    ap₂ (λ bound bounds. bound ∷ bounds) (each slot parts.0) (some_bounds skips p q slots each parts.1)

all_bounds : (p q : SlotTree → Standing) (slots : List SlotTree) → ((slot : SlotTree) → bound_of (p slot) ≡ bound_of (q slot)) → map (λ slot. bound_of (p slot)) slots ≡ map (λ slot. bound_of (q slot)) slots
all_bounds p q [] each = refl
all_bounds p q (slot ∷ slots) each = ap₂ (λ bound bounds. bound ∷ bounds) (each slot) (all_bounds p q slots each)

each_bound : (p q : SlotTree → Standing) (slots : List SlotTree) → ((slot : SlotTree) → In slot slots → bound_of (p slot) ≡ bound_of (q slot)) → map (λ slot. bound_of (p slot)) slots ≡ map (λ slot. bound_of (q slot)) slots
each_bound p q [] each = refl
each_bound p q (slot ∷ slots) each = ap₂ (λ bound bounds. bound ∷ bounds) (each slot (inl refl)) (each_bound p q slots (λ other has. each other (inr has)))

-- a constraint is refused by its bounds alone
pub refused_but : (skips : SlotTree → Bool) (k : ConstraintTree) (p q : SlotTree → Standing) → ((slot : SlotTree) → skips slot ≡ false → bound_of (p slot) ≡ bound_of (q slot)) → list_any skips k.slots ≡ false
    → is_refused_at k q ≡ false → is_refused_at k p ≡ false
refused_but skips k p q each none e = ap (λ bounds. is_refused (interval k.expression bounds)) (some_bounds skips p q k.slots each none) ∙ e

pub refused_near : (k : ConstraintTree) (p q : SlotTree → Standing) → ((slot : SlotTree) → is_far_slot slot ≡ false → bound_of (p slot) ≡ bound_of (q slot)) → list_any is_far_slot k.slots ≡ false → is_refused_at k q ≡ false → is_refused_at k p ≡ false
refused_near k p q each near e = refused_but is_far_slot k p q each near e

pub refused_each : (k : ConstraintTree) (p q : SlotTree → Standing) → ((slot : SlotTree) → In slot k.slots → bound_of (p slot) ≡ bound_of (q slot)) → is_refused_at k q ≡ false → is_refused_at k p ≡ false
refused_each k p q each e = ap (λ bounds. is_refused (interval k.expression bounds)) (each_bound p q k.slots each) ∙ e

pub refused_same : (k : ConstraintTree) (p q : SlotTree → Standing) → ((slot : SlotTree) → bound_of (p slot) ≡ bound_of (q slot)) → is_refused_at k q ≡ false → is_refused_at k p ≡ false
refused_same k p q each e = ap (λ bounds. is_refused (interval k.expression bounds)) (all_bounds p q k.slots each) ∙ e
