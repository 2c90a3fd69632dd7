-- In a scenario of which the activity and the sources are read the place of each slot is known.
use Rattle.std.proofs.Common.{◌≡◌, ℕ, ℤ, Bool, true, false, Option, Some, None, refl, ap, ◌∙◌, subst, if◌then◌else◌}
use Rattle.std.specs.Prelude.{slice_get, pos}
use Rattle.std.specs.Option.{option_map, option_and_then}
use Rattle.pst_expr.specs.declared.ranges.Span.{Span}
use Rattle.pst_model.specs.ConstraintTree.{SlotTree, Own, Object, First as Initial-of, ClaimId, ClaimField, Prev, IsFirst, Id, Index, Local, Through, Outer}
use Rattle.pst_model.specs.ModelTree.{ModelTree, ObjectTree}
use Rattle.pst_model.specs.SoundSlots.{IsObjectSlot}
use Rattle.pst_scen.specs.declared.act.Act.{Act}
use Rattle.pst_scen.specs.declared.act.Filled.{Filled}
use Rattle.pst_scen.specs.declared.act.Claimed.{Claimed}
use Rattle.pst_scen.specs.declared.act.Flow.{Flow}
use Rattle.pst_scen.specs.declared.act.Flow.TheVariants.{BufferIn, BufferOut, StreamIn, StreamOut, StateIn, StateOut}
use Rattle.pst_scen.specs.declared.act.Link.{Link}
use Rattle.pst_scen.specs.declared.act.Link.TheVariants as link
use Rattle.pst_scen.specs.declared.scenario.Scenario.{Scenario}
use Rattle.pst_scen.specs.Scenarios.{reference_at, IsLinkOf}
use Rattle.pst_legal.specs.Types.{action_field, pool_object, flow_of, is_output}
use Rattle.pst_legal.specs.Blanks.{Blank, OfFirst, OfAct, OfOutput, OfClaim, Instance, claim_instances, claim_field}
use Rattle.pst_legal.specs.Standing.{Standing, value_or, open_value, hull, field_span}
use Rattle.pst_legal.specs.Slots.{pool_span, first_values, first_slot, written_slot, output_values, linked_slot, flow_slot, initial_by, initial_slot, claim_slot, claim_values, claim_field_slot, act_slot, output_slot, resource_slot, first_object_slot}
use Rattle.pst_slots.specs.Decided.{IsPlaced, IsReadThrough}
use Rattle.pst_slots.proofs.Owned.{WantsObject, wants_input, no_link, state_flow, wants_state}

placed_or : (o : Option ℤ) (other : Standing) → IsPlaced other → IsPlaced (value_or o other)
placed_or None other is = is
placed_or (Some v) other is = tt

open_is : (blank : Blank) (span : Option Span) → IsPlaced (open_value blank span)
open_is blank None = tt
open_is blank (Some span) = tt

value_is : (o : Option ℤ) (blank : Blank) (span : Option Span) → IsPlaced (value_or o (open_value blank span))
value_is o blank span = placed_or o (open_value blank span) (open_is blank span)

either : (b : Bool) (x y : Standing) → IsPlaced x → (b ≡ false → IsPlaced y) → IsPlaced (if b then x else y)
either true x y one other = one
either false x y one other = other refl

module _ (m : ModelTree) (root : ℕ) (s : Scenario) (through : IsReadThrough m root s) where
  first : (pool field : ℕ) → IsPlaced (first_slot m s pool field)
  first pool field = value_is (slice_get (first_values s.firsts pool) field) (OfFirst pool field) (pool_span m pool field)

  written : (a r : ℕ) (filled : Filled) (field : ℕ) → IsPlaced (written_slot m a r filled field)
  written a r filled field = value_is (slice_get filled.values field) (OfOutput a r field) (pool_span m filled.pool field)

  by_link : (flow : Flow) (pool : ℕ) (to : Link) (field : ℕ) → WantsObject flow → IsLinkOf flow to → IsPlaced (linked_slot m s pool to field)
  by_link flow pool link.Nothing field wants kind = absurd (no_link flow wants kind)
  by_link flow pool link.Initial field wants kind = first pool field
  by_link flow pool (link.Act b q) field wants kind = value_is (slice_get (output_values (reference_at s.actions b q)) field) (OfOutput b q field) (pool_span m pool field)

  linked : (a r : ℕ) (filled : Filled) (field : ℕ) → reference_at s.actions a r ≡ Some filled → WantsObject filled.flow → IsPlaced (linked_slot m s filled.pool filled.link field)
  linked a r filled field e wants = by_link filled.flow filled.pool filled.link field wants (through.links a r filled e).kind

  claim : (a : ℕ) (act : Act) (c : ℕ) → IsPlaced (claim_slot m a act c)
  claim a act c = value_is (option_map (λ (claimed : Claimed). pos claimed.instance) (slice_get act.claims c)) (Instance a c) (hull (claim_instances m act c))

  claim_value : (a : ℕ) (act : Act) (c field : ℕ) → IsPlaced (claim_field_slot m a act c field)
  claim_value a act c field = value_is (slice_get (claim_values (slice_get act.claims c)) field) (OfClaim a c field) (field_span (claim_field m act.action c field))

  by_flow : (f : Flow) (to : Link) → IsLinkOf f to → IsPlaced (initial_by f to)
  by_flow StateIn link.Nothing kind = kind
  by_flow StateIn link.Initial kind = tt
  by_flow StateIn (link.Act b q) kind = tt
  by_flow StateOut to kind = tt
  by_flow BufferIn to kind = tt
  by_flow BufferOut to kind = tt
  by_flow StreamIn to kind = tt
  by_flow StreamOut to kind = tt

  module _ (a : ℕ) (act : Act) (there : slice_get s.actions a ≡ Some act) where
    at_it : (r : ℕ) (filled : Filled) → slice_get act.references r ≡ Some filled → reference_at s.actions a r ≡ Some filled
    at_it r filled has = ap (option_and_then (λ (x : Act). slice_get x.references r)) there ∙ has

    flow : (r field : ℕ) (filled : Option Filled) → slice_get act.references r ≡ filled → IsPlaced (flow_slot m s a r filled field)
    flow r field None is = tt
    flow r field (Some filled) is =
        either (is_output filled.flow) (written_slot m a r filled field) (linked_slot m s filled.pool filled.link field) (written a r filled field)
        (λ input. linked a r filled field (at_it r filled is) (wants_input filled.flow input))

    initial : (r : ℕ) (filled : Option Filled) → slice_get act.references r ≡ filled → IsPlaced (initial_slot filled)
    initial r None is = tt
    initial r (Some filled) is = by_flow filled.flow filled.link (through.links a r filled (at_it r filled is)).kind

    pub act_placed : (slot : SlotTree) → IsPlaced (act_slot m s a act slot)
    act_placed (Own field) = value_is (slice_get act.fields field) (OfAct a field) (field_span (action_field m act.action field))
    act_placed (Object reference field) = flow reference field (slice_get act.references reference) refl
    act_placed (Initial-of reference) = initial reference (slice_get act.references reference) refl
    act_placed (ClaimId c) = claim a act c
    act_placed (ClaimField c field) = claim_value a act c field
    act_placed (Prev field) = tt
    act_placed IsFirst = tt
    act_placed Id = tt
    act_placed (Index level) = tt
    act_placed (Local local) = tt
    act_placed (Through handle slot) = tt
    act_placed (Outer slot) = tt

  pub resource_placed : (a : ℕ) (act : Act) (c : ℕ) (slot : SlotTree) → IsPlaced (resource_slot m a act c slot)
  resource_placed a act c (Own field) = claim_value a act c field
  resource_placed a act c Id = claim a act c
  resource_placed a act c (Object reference field) = tt
  resource_placed a act c (Initial-of reference) = tt
  resource_placed a act c (ClaimId d) = tt
  resource_placed a act c (ClaimField d field) = tt
  resource_placed a act c (Prev field) = tt
  resource_placed a act c IsFirst = tt
  resource_placed a act c (Index level) = tt
  resource_placed a act c (Local local) = tt
  resource_placed a act c (Through handle slot) = tt
  resource_placed a act c (Outer slot) = tt

  pub output_placed : (a r : ℕ) (filled : Filled) (object : ObjectTree) → reference_at s.actions a r ≡ Some filled → pool_object m filled.pool ≡ Some object → (slot : SlotTree) → IsObjectSlot object slot → IsPlaced (output_slot m s a r filled slot)
  output_placed a r filled object e of (Own field) is = written a r filled field
  output_placed a r filled object e of (Prev field) is =
      let kind = subst (λ k. flow_of k (is_output filled.flow) ≡ Some filled.flow) is.0 (through.kinds a r filled object e of) in
      linked a r filled field e (wants_state filled.flow (state_flow (is_output filled.flow) filled.flow kind))
  output_placed a r filled object e of IsFirst is = tt
  output_placed a r filled object e of Id is = tt
  output_placed a r filled object e of (Object reference field) is = tt
  output_placed a r filled object e of (Initial-of reference) is = tt
  output_placed a r filled object e of (ClaimId c) is = tt
  output_placed a r filled object e of (ClaimField c field) is = tt
  output_placed a r filled object e of (Index level) is = tt
  output_placed a r filled object e of (Local local) is = tt
  output_placed a r filled object e of (Through handle slot) is = tt
  output_placed a r filled object e of (Outer slot) is = tt

  pub first_placed : (pool : ℕ) (slot : SlotTree) → IsPlaced (first_object_slot m s pool slot)
  first_placed pool (Own field) = first pool field
  first_placed pool IsFirst = tt
  first_placed pool (Prev field) = tt
  first_placed pool Id = tt
  first_placed pool (Object reference field) = tt
  first_placed pool (Initial-of reference) = tt
  first_placed pool (ClaimId c) = tt
  first_placed pool (ClaimField c field) = tt
  first_placed pool (Index level) = tt
  first_placed pool (Local local) = tt
  first_placed pool (Through handle slot) = tt
  first_placed pool (Outer slot) = tt
