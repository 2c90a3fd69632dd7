-- Each open slot waits for the place of an open blank.
use Rattle.std.proofs.Common.{◌≡◌, ℕ, ℤ, pos, List, Contains, map, Bool, true, false, if◌then◌else◌, Option, Some, None, refl, sym, ap, ◌∙◌, subst}
use Rattle.std.specs.Prelude.{slice_get}
use Rattle.std.specs.Option.{option_map, option_and_then}
use Rattle.std.proofs.lemmas.List.Elements.{All-contains}
use Rattle.std.proofs.lemmas.Bool.{false≢true}
use Rattle.std.proofs.lemmas.Option.{none-some, same_Some, slice_get-map, option_and_then_some}
use Rattle.pst_expr.specs.declared.ranges.Span.{Span}
use Rattle.pst_model.specs.declared.action.Reference.{Reference}
use Rattle.pst_model.specs.declared.action.Claim.{Claim}
use Rattle.pst_model.specs.declared.model.Pool.{Pool}
use Rattle.pst_model.specs.declared.object.ObjectKind.{ObjectKind}
use Rattle.pst_model.specs.declared.object.ObjectKind.TheVariants.{Buffer, Stream, State, Resource as Resources}
use Rattle.pst_model.specs.ConstraintTree.{SlotTree, Own, Object, First as Initial-of, ClaimId, ClaimField, Prev, IsFirst, Id, Index, Local, Through, Outer, ConstraintTree}
use Rattle.pst_model.specs.ModelTree.{ModelTree, ObjectTree}
use Rattle.pst_model.specs.Served.{objects_of}
use Rattle.pst_model.specs.SoundSlots.{IsObjectSlot}
use Rattle.pst_model.specs.SoundConstraint.{IsSoundConstraint}
use Rattle.pst_model.specs.Sound.{IsSoundObject, IsSound}
use Rattle.pst_scen.specs.declared.tree.Node.{Node}
use Rattle.pst_scen.specs.declared.tree.Fill.{Fill}
use Rattle.pst_scen.specs.declared.tree.Fill.TheVariants as fill
use Rattle.pst_scen.specs.declared.act.Act.{Act}
use Rattle.pst_scen.specs.declared.act.Filled.{Filled}
use Rattle.pst_scen.specs.declared.act.Claimed.{Claimed}
use Rattle.pst_scen.specs.declared.act.Flow.{Flow}
use Rattle.pst_scen.specs.declared.act.Flow.TheVariants.{BufferIn, BufferOut, StreamIn, StreamOut, StateIn, StateOut}
use Rattle.pst_scen.specs.declared.act.Link.{Link}
use Rattle.pst_scen.specs.declared.act.Link.TheVariants as link
use Rattle.pst_scen.specs.declared.scenario.Scenario.{Scenario}
use Rattle.pst_scen.specs.Scenarios.{reference_at}
use Rattle.pst_legal.specs.Types.{action_field, object_field, action_reference, pool_object, flow_of, is_output, same_kind, has_kind, is_state_pool}
use Rattle.pst_legal.specs.Supplied.{is_source_for}
use Rattle.pst_legal.specs.SupplyReading.{is_state}
use Rattle.pst_legal.specs.Blanks.{Blank, Instance, OfFirst, OfAct, OfOutput, OfClaim, claim_instances, claim_field}
use Rattle.pst_legal.specs.Standing.{Standing, Known, Lacking, Open, Unread, value_or, open_value, unread, number_or_lacking, hull, field_span}
use Rattle.pst_legal.specs.Slots.{pool_span, first_slot, written_slot, output_values, linked_slot, flow_slot, is_source_first, initial_by, initial_slot, claim_slot, claim_values, claim_field_slot, behind, traversed_type, unread_slot, act_slot, compound_slot, maybe_act_slot, fill_slot, maybe_fill_slot, node_behind, type_behind, node_slot, inline_slot, output_slot, resource_slot, first_object_slot}
use Rattle.pst_legal.specs.Constraints.{HasConstraint, OfCompound, OfAct as OfAction, OfOutput as OfWritten, OfClaim as OfResource, OfFirst as OfInitial, Inline}
use Rattle.pst_built.proofs.Members.{In, to_filter, to_contains}
use Rattle.pst_built.proofs.Parents.{get_more}
use Rattle.pst_built.proofs.Lists.{get_mapped}
use Rattle.pst_built.proofs.SoundActs.{all_get, served_pool}
use Rattle.pst_read_domains.specs.ReadActsLaws.{IsOfItsType, ActsAreOfTheirTypes}
use Rattle.pst_few_places.specs.Fillings.{all_blanks}
use Rattle.pst_blank_values.specs.Rows.{Claims, Fields, Output, Resource, of_act, stands_in}
use Rattle.pst_read_so_far.specs.Joined.{JoinOpenEnds}
use Rattle.pst_read_so_far.specs.OpenBlanks.{is_nothing, is_open, open_blanks}
use Rattle.pst_read_so_far.specs.Laws.{LinksJoinOpenEnds, OpenSlotsWait}
use Rattle.pst_read_so_far.proofs.Members.{own_in, output_in, resource_in, instance_in, first_in}

-- ---- flows and kinds

-- an input, or a state output: its source writes an object
abbrev WantsObject : Flow → Type 0
WantsObject BufferIn = Unit {0}
WantsObject StreamIn = Unit {0}
WantsObject StateIn = Unit {0}
WantsObject StateOut = Unit {0}
WantsObject BufferOut = ⊥
WantsObject StreamOut = ⊥

wants_input : (flow : Flow) → is_output flow ≡ false → WantsObject flow
wants_input BufferIn e = tt
wants_input StreamIn e = tt
wants_input StateIn e = tt
wants_input StateOut e = tt
wants_input BufferOut e = absurd (false≢true (sym e))
wants_input StreamOut e = absurd (false≢true (sym e))

-- a source of what wants an object writes one
writes_it : (flow source : Flow) → WantsObject flow → is_source_for flow source ≡ true → is_output source ≡ true
writes_it BufferIn BufferOut wants e = refl
writes_it BufferIn BufferIn wants e = absurd (false≢true e)
writes_it BufferIn StreamIn wants e = absurd (false≢true e)
writes_it BufferIn StreamOut wants e = absurd (false≢true e)
writes_it BufferIn StateIn wants e = absurd (false≢true e)
writes_it BufferIn StateOut wants e = absurd (false≢true e)
writes_it StreamIn StreamOut wants e = refl
writes_it StreamIn BufferIn wants e = absurd (false≢true e)
writes_it StreamIn BufferOut wants e = absurd (false≢true e)
writes_it StreamIn StreamIn wants e = absurd (false≢true e)
writes_it StreamIn StateIn wants e = absurd (false≢true e)
writes_it StreamIn StateOut wants e = absurd (false≢true e)
writes_it StateIn StateOut wants e = refl
writes_it StateIn BufferIn wants e = absurd (false≢true e)
writes_it StateIn BufferOut wants e = absurd (false≢true e)
writes_it StateIn StreamIn wants e = absurd (false≢true e)
writes_it StateIn StreamOut wants e = absurd (false≢true e)
writes_it StateIn StateIn wants e = absurd (false≢true e)
writes_it StateOut StateOut wants e = refl
writes_it StateOut BufferIn wants e = absurd (false≢true e)
writes_it StateOut BufferOut wants e = absurd (false≢true e)
writes_it StateOut StreamIn wants e = absurd (false≢true e)
writes_it StateOut StreamOut wants e = absurd (false≢true e)
writes_it StateOut StateIn wants e = absurd (false≢true e)
writes_it BufferOut source wants e = absurd wants
writes_it StreamOut source wants e = absurd wants

-- a use of a state is of a state object
of_state : (kind : ObjectKind) (output : Bool) (flow : Flow) → flow_of kind output ≡ Some flow → is_state flow ≡ true → same_kind kind State ≡ true
of_state State output flow e state = refl
of_state Buffer true flow e state = absurd (false≢true (ap is_state (same_Some BufferOut flow e) ∙ state))
of_state Buffer false flow e state = absurd (false≢true (ap is_state (same_Some BufferIn flow e) ∙ state))
of_state Stream true flow e state = absurd (false≢true (ap is_state (same_Some StreamOut flow e) ∙ state))
of_state Stream false flow e state = absurd (false≢true (ap is_state (same_Some StreamIn flow e) ∙ state))
of_state Resources true flow e state = absurd (none-some flow e)
of_state Resources false flow e state = absurd (none-some flow e)

-- and a state object is used by states alone
state_wants : (output : Bool) (flow : Flow) → flow_of State output ≡ Some flow → WantsObject flow
state_wants true flow e = subst WantsObject (same_Some StateOut flow e) tt
state_wants false flow e = subst WantsObject (same_Some StateIn flow e) tt

module _ (m : ModelTree) (sound : IsSound m) (s : Scenario) (types : (a : ℕ) (x : Act) → slice_get s.actions a ≡ Some x → IsOfItsType m x) (joins : JoinOpenEnds s.actions) where
  -- the slot isn't open, or its blank is an open one
  abbrev Waits : Standing → Type 0
  Waits (Known v) = Unit {0}
  Waits Lacking = Unit {0}
  Waits (Open blank span) = In blank (open_blanks m s)
  Waits (Unread span) = Unit {0}

  -- ---- one blank

  waits_open : (blank : Blank) (span : Option Span) → stands_in s blank ≡ None → ((x : Span) → span ≡ Some x → In blank (all_blanks m s)) → Waits (open_value blank span)
  waits_open blank None none among = tt
  waits_open blank (Some x) none among = to_filter (is_open s) (all_blanks m s) blank (among x refl) (ap is_nothing none)

  waits_or : (o : Option ℤ) (blank : Blank) (span : Option Span) → stands_in s blank ≡ o → ((x : Span) → span ≡ Some x → In blank (all_blanks m s)) → Waits (value_or o (open_value blank span))
  waits_or None blank span is among = waits_open blank span is among
  waits_or (Some v) blank span is among = tt

  waits_unread : (span : Option Span) → Waits (unread span)
  waits_unread None = tt
  waits_unread (Some span) = tt

  -- ---- references

  -- a reference with its action
  record Has (a r : ℕ) (filled : Filled) : Type 0 where
    act : Act
    there : slice_get s.actions a ≡ Some act
    has : slice_get act.references r ≡ Some filled

  has_of : (a r : ℕ) (filled : Filled) → reference_at s.actions a r ≡ Some filled → Has a r filled
  has_of a r filled e = option_and_then_some {P = Has a r filled} (λ (x : Act). slice_get x.references r) (slice_get s.actions a) filled e (λ x at has. record { act = x; there = at; has = has })

  -- the objects of a reference's pool are of the kind of the reference
  record OfKind (filled : Filled) : Type 0 where
    object : ObjectTree
    output : Bool
    of_pool : pool_object m filled.pool ≡ Some object
    flow : flow_of object.kind output ≡ Some filled.flow

  kind_of : (a r : ℕ) (filled : Filled) → Has a r filled → OfKind filled
  kind_of a r filled h =
      let t = types a h.act h.there in
      let served_by = t.references r filled h.has in
      let reference = served_by.reference in
      let from = served_pool m sound h.act.action h.act.instance r filled.pool t.type t.is served_by.pool in
      let listed : slice_get (objects_of t.type) r ≡ Some reference.object =
      get_more (map (λ (y : Reference). y.object) t.type.references) (map (λ (y : Claim). y.object) t.type.claims) r reference.object (get_mapped (λ (y : Reference). y.object) t.type.references r reference served_by.is) in
      let same : from.0.object ≡ reference.object = same_Some from.0.object reference.object (sym from.2 ∙ listed) in
      option_and_then_some {P = OfKind filled} (λ (o : ObjectTree). flow_of o.kind reference.output) (slice_get m.objects reference.object) filled.flow served_by.flow
      (λ o at flow. record {
        object = o;
        output = reference.output;
        of_pool = ap (option_and_then (λ (p : Pool). slice_get m.objects p.object)) from.1 ∙ ap (slice_get m.objects) same ∙ at;
        flow = flow;
      })

  state_pool : (a r : ℕ) (filled : Filled) → Has a r filled → is_state filled.flow ≡ true → is_state_pool m filled.pool ≡ true
  state_pool a r filled h state = let k = kind_of a r filled h in ap (has_kind State) k.of_pool ∙ of_state k.object.kind k.output filled.flow k.flow state

  -- ---- flow objects

  -- what stands in an output, by its action
  stands_out : (a r i : ℕ) (x : Act) (filled : Filled) → slice_get s.actions a ≡ Some x → slice_get x.references r ≡ Some filled → stands_in s (OfOutput a r i) ≡ slice_get filled.values i
  stands_out a r i x filled at has = ap (λ o. slice_get (of_act (Output r) o) i) at ∙ ap (λ o. slice_get (output_values o) i) has

  first_waits : (a r : ℕ) (filled : Filled) (i : ℕ) → Has a r filled → is_state_pool m filled.pool ≡ true → Waits (first_slot m s filled.pool i)
  first_waits a r filled i h state =
      waits_or (stands_in s (OfFirst filled.pool i)) (OfFirst filled.pool i) (pool_span m filled.pool i) refl (λ x e. first_in m s a h.act h.there r i filled x h.has state e)

  written_waits : (a r : ℕ) (filled : Filled) (i : ℕ) → Has a r filled → is_output filled.flow ≡ true → Waits (written_slot m a r filled i)
  written_waits a r filled i h output =
      waits_or (slice_get filled.values i) (OfOutput a r i) (pool_span m filled.pool i) (stands_out a r i h.act filled h.there h.has) (λ x e. output_in m s a h.act h.there r i filled x h.has output e)

  by_link : (a r : ℕ) (filled : Filled) (i : ℕ) (to : Link) → Has a r filled → reference_at s.actions a r ≡ Some filled → WantsObject filled.flow → filled.link ≡ to → Waits (linked_slot m s filled.pool to i)
  by_link a r filled i link.Nothing h at wants e = waits_unread (pool_span m filled.pool i)
  by_link a r filled i link.Initial h at wants e = first_waits a r filled i h (state_pool a r filled h (joins.first a r filled at e))
  by_link a r filled i (link.Act b q) h at wants e =
      let from = joins.sources a r b q filled at e in
      let g = has_of b q from.source from.is in
      let same : output_values (reference_at s.actions b q) ≡ from.source.values = ap output_values from.is in
      waits_or (slice_get (output_values (reference_at s.actions b q)) i) (OfOutput b q i) (pool_span m filled.pool i)
      (stands_out b q i g.act from.source g.there g.has ∙ ap (λ vs. slice_get vs i) (sym same))
      (λ x span. output_in m s b g.act g.there q i from.source x g.has (writes_it filled.flow from.source.flow wants from.fits) (ap (λ p. pool_span m p i) from.pool ∙ span))

  linked_waits : (a r : ℕ) (filled : Filled) (i : ℕ) → reference_at s.actions a r ≡ Some filled → WantsObject filled.flow → Waits (linked_slot m s filled.pool filled.link i)
  linked_waits a r filled i at wants = by_link a r filled i filled.link (has_of a r filled at) at wants refl

  either : (b : Bool) (x y : Standing) → (b ≡ true → Waits x) → (b ≡ false → Waits y) → Waits (if b then x else y)
  either true x y one other = one refl
  either false x y one other = other refl

  first_known : (to : Link) → Waits (is_source_first to)
  first_known link.Nothing = tt
  first_known link.Initial = tt
  first_known (link.Act b q) = tt

  initial_waits : (flow : Flow) (to : Link) → Waits (initial_by flow to)
  initial_waits StateIn to = first_known to
  initial_waits StateOut to = tt
  initial_waits BufferIn to = tt
  initial_waits BufferOut to = tt
  initial_waits StreamIn to = tt
  initial_waits StreamOut to = tt

  -- ---- actions

  module _ (a : ℕ) (x : Act) (at : slice_get s.actions a ≡ Some x) where
    at_it : (r : ℕ) (filled : Filled) → slice_get x.references r ≡ Some filled → reference_at s.actions a r ≡ Some filled
    at_it r filled has = ap (option_and_then (λ (y : Act). slice_get y.references r)) at ∙ has

    flow_waits : (r i : ℕ) (filled : Option Filled) → slice_get x.references r ≡ filled → Waits (flow_slot m s a r filled i)
    flow_waits r i None is = tt
    flow_waits r i (Some filled) is =
        either (is_output filled.flow) (written_slot m a r filled i) (linked_slot m s filled.pool filled.link i)
        (λ output. written_waits a r filled i (record { act = x; there = at; has = is }) output)
        (λ input. linked_waits a r filled i (at_it r filled is) (wants_input filled.flow input))

    by_initial : (r : ℕ) (filled : Option Filled) → Waits (initial_slot filled)
    by_initial r None = tt
    by_initial r (Some filled) = initial_waits filled.flow filled.link

    claim_waits : (c : ℕ) → Waits (claim_slot m a x c)
    claim_waits c =
        let t = types a x at in
        let value : Claimed → ℤ = λ claimed. pos claimed.instance in
        waits_or (option_map value (slice_get x.claims c)) (Instance a c) (hull (claim_instances m x c))
        (ap (λ o. slice_get (of_act Claims o) c) at ∙ slice_get-map value x.claims c)
        (λ span e. instance_in m s a x at sound t.type t.is c span e)

    claim_field_waits : (c i : ℕ) → Waits (claim_field_slot m a x c i)
    claim_field_waits c i =
        waits_or (slice_get (claim_values (slice_get x.claims c)) i) (OfClaim a c i) (field_span (claim_field m x.action c i))
        (ap (λ o. slice_get (of_act (Resource c) o) i) at) (λ span e. resource_in m s a x at c i span e)

    act_waits : (slot : SlotTree) → Waits (act_slot m s a x slot)
    act_waits (Own i) =
        waits_or (slice_get x.fields i) (OfAct a i) (field_span (action_field m x.action i)) (ap (λ o. slice_get (of_act Fields o) i) at) (λ span e. own_in m s a x at i span e)
    act_waits (Object r i) = flow_waits r i (slice_get x.references r) refl
    act_waits (Initial-of r) = by_initial r (slice_get x.references r)
    act_waits (ClaimId c) = claim_waits c
    act_waits (ClaimField c i) = claim_field_waits c i
    act_waits (Prev i) = tt
    act_waits IsFirst = tt
    act_waits Id = tt
    act_waits (Index level) = tt
    act_waits (Local local) = tt
    act_waits (Through handle slot) = tt
    act_waits (Outer slot) = tt

    resource_waits : (c : ℕ) (slot : SlotTree) → Waits (resource_slot m a x c slot)
    resource_waits c (Own i) = claim_field_waits c i
    resource_waits c Id = claim_waits c
    resource_waits c (Object r i) = tt
    resource_waits c (Initial-of r) = tt
    resource_waits c (ClaimId d) = tt
    resource_waits c (ClaimField d i) = tt
    resource_waits c (Prev i) = tt
    resource_waits c IsFirst = tt
    resource_waits c (Index level) = tt
    resource_waits c (Local local) = tt
    resource_waits c (Through handle slot) = tt
    resource_waits c (Outer slot) = tt

  -- ---- objects

  output_waits : (a r : ℕ) (filled : Filled) (object : ObjectTree) → reference_at s.actions a r ≡ Some filled → is_output filled.flow ≡ true → pool_object m filled.pool ≡ Some object
      → (slot : SlotTree) → IsObjectSlot object slot → Waits (output_slot m s a r filled slot)
  output_waits a r filled object at output of_pool (Own i) is = written_waits a r filled i (has_of a r filled at) output
  output_waits a r filled object at output of_pool (Prev i) is =
      let k = kind_of a r filled (has_of a r filled at) in
      let same : k.object ≡ object = same_Some k.object object (sym k.of_pool ∙ of_pool) in
      let kind : flow_of State k.output ≡ Some filled.flow = subst (λ c. flow_of c k.output ≡ Some filled.flow) (ap (λ (o : ObjectTree). o.kind) same ∙ is.0) k.flow in
      linked_waits a r filled i at (state_wants k.output filled.flow kind)
  output_waits a r filled object at output of_pool IsFirst is = tt
  output_waits a r filled object at output of_pool Id is = tt
  output_waits a r filled object at output of_pool (Object q i) is = tt
  output_waits a r filled object at output of_pool (Initial-of q) is = tt
  output_waits a r filled object at output of_pool (ClaimId c) is = tt
  output_waits a r filled object at output of_pool (ClaimField c i) is = tt
  output_waits a r filled object at output of_pool (Index level) is = tt
  output_waits a r filled object at output of_pool (Local local) is = tt
  output_waits a r filled object at output of_pool (Through handle slot) is = tt
  output_waits a r filled object at output of_pool (Outer slot) is = tt

  initial_object_waits : (a r : ℕ) (filled : Filled) → reference_at s.actions a r ≡ Some filled → is_state_pool m filled.pool ≡ true → (slot : SlotTree) → Waits (first_object_slot m s filled.pool slot)
  initial_object_waits a r filled at state (Own i) = first_waits a r filled i (has_of a r filled at) state
  initial_object_waits a r filled at state IsFirst = tt
  initial_object_waits a r filled at state (Prev i) = tt
  initial_object_waits a r filled at state Id = tt
  initial_object_waits a r filled at state (Object q i) = tt
  initial_object_waits a r filled at state (Initial-of q) = tt
  initial_object_waits a r filled at state (ClaimId c) = tt
  initial_object_waits a r filled at state (ClaimField c i) = tt
  initial_object_waits a r filled at state (Index level) = tt
  initial_object_waits a r filled at state (Local local) = tt
  initial_object_waits a r filled at state (Through handle slot) = tt
  initial_object_waits a r filled at state (Outer slot) = tt

  -- ---- nodes

  by_act : (a : ℕ) (x : Option Act) (slot : SlotTree) → slice_get s.actions a ≡ x → Waits (maybe_act_slot m s a x slot)
  by_act a None slot is = tt
  by_act a (Some x) slot is = act_waits a x is slot

  by_value : (o : Option ℤ) (span : Option Span) → Waits (value_or o (unread span))
  by_value None span = waits_unread span
  by_value (Some v) span = tt

  compound_waits : (action : ℕ) (fields : List ℤ) (slot : SlotTree) → Waits (compound_slot m action fields slot)
  compound_waits action fields (Own i) = by_value (slice_get fields i) (field_span (action_field m action i))
  compound_waits action fields (Object r i) = tt
  compound_waits action fields (Initial-of r) = tt
  compound_waits action fields (ClaimId c) = tt
  compound_waits action fields (ClaimField c i) = tt
  compound_waits action fields (Prev i) = tt
  compound_waits action fields IsFirst = tt
  compound_waits action fields Id = tt
  compound_waits action fields (Index level) = tt
  compound_waits action fields (Local local) = tt
  compound_waits action fields (Through handle slot) = tt
  compound_waits action fields (Outer slot) = tt

  by_fill : (f : Fill) (slot : SlotTree) → Waits (fill_slot m s f slot)
  by_fill (fill.Leaf act) slot = by_act act (slice_get s.actions act) slot refl
  by_fill (fill.Compound action instance fields) slot = compound_waits action fields slot
  by_fill fill.Sequence slot = tt
  by_fill fill.Parallel slot = tt
  by_fill fill.Schedule slot = tt
  by_fill (fill.Joined parallel joined) slot = tt
  by_fill (fill.Select branch) slot = tt
  by_fill fill.Repeat slot = tt
  by_fill (fill.Turn index) slot = tt
  by_fill (fill.If taken) slot = tt
  by_fill (fill.Match arm) slot = tt

  by_node : (node : Option Node) (slot : SlotTree) → Waits (maybe_fill_slot m s node slot)
  by_node None slot = tt
  by_node (Some node) slot = by_fill node.fill slot

  by_behind : (slot : ℕ → Standing) (o : Option ℕ) (other : Standing) → ((n : ℕ) → Waits (slot n)) → Waits other → Waits (behind slot o other)
  by_behind slot None other each else_ = else_
  by_behind slot (Some n) other each else_ = each n

  unread_waits : (action : ℕ) (slot : SlotTree) → Waits (unread_slot m action slot)
  unread_waits action (Own i) = waits_unread (field_span (action_field m action i))
  unread_waits action (Object r i) = waits_unread (field_span (option_and_then (λ (y : Reference). object_field m y.object i) (action_reference m action r)))
  unread_waits action (Initial-of r) = tt
  unread_waits action (ClaimId c) = tt
  unread_waits action (ClaimField c i) = waits_unread (field_span (claim_field m action c i))
  unread_waits action (Through handle slot) = by_behind (λ type. unread_slot m type slot) (traversed_type m action handle) Lacking (λ type. unread_waits type slot) tt
  unread_waits action (Prev i) = tt
  unread_waits action IsFirst = tt
  unread_waits action Id = tt
  unread_waits action (Index level) = tt
  unread_waits action (Local local) = tt
  unread_waits action (Outer slot) = tt

  node_waits : (n : ℕ) (slot : SlotTree) → Waits (node_slot m s n slot)
  node_waits n (Through handle slot) =
      by_behind (λ k. node_slot m s k slot) (node_behind m s.nodes n handle) (behind (λ type. unread_slot m type slot) (type_behind m s.nodes n handle) Lacking) (λ k. node_waits k slot)
      (by_behind (λ type. unread_slot m type slot) (type_behind m s.nodes n handle) Lacking (λ type. unread_waits type slot) tt)
  node_waits n (Own i) = by_node (slice_get s.nodes n) (Own i)
  node_waits n (Object r i) = by_node (slice_get s.nodes n) (Object r i)
  node_waits n (Initial-of r) = by_node (slice_get s.nodes n) (Initial-of r)
  node_waits n (ClaimId c) = by_node (slice_get s.nodes n) (ClaimId c)
  node_waits n (ClaimField c i) = by_node (slice_get s.nodes n) (ClaimField c i)
  node_waits n (Prev i) = by_node (slice_get s.nodes n) (Prev i)
  node_waits n IsFirst = by_node (slice_get s.nodes n) IsFirst
  node_waits n Id = by_node (slice_get s.nodes n) Id
  node_waits n (Index level) = by_node (slice_get s.nodes n) (Index level)
  node_waits n (Local local) = by_node (slice_get s.nodes n) (Local local)
  node_waits n (Outer slot) = by_node (slice_get s.nodes n) (Outer slot)

  by_number : (o : Option ℕ) → Waits (number_or_lacking o)
  by_number None = tt
  by_number (Some n) = tt

  inline_waits : (n top : ℕ) (indices : List ℕ) (slot : SlotTree) → Waits (inline_slot m s n top indices slot)
  inline_waits n top indices (Outer slot) = node_waits top slot
  inline_waits n top indices (Index level) = by_number (slice_get indices level)
  inline_waits n top indices (Through handle slot) = node_waits n (Through handle slot)
  inline_waits n top indices (Own i) = node_waits n (Own i)
  inline_waits n top indices (Object r i) = node_waits n (Object r i)
  inline_waits n top indices (Initial-of r) = node_waits n (Initial-of r)
  inline_waits n top indices (ClaimId c) = node_waits n (ClaimId c)
  inline_waits n top indices (ClaimField c i) = node_waits n (ClaimField c i)
  inline_waits n top indices (Prev i) = node_waits n (Prev i)
  inline_waits n top indices IsFirst = node_waits n IsFirst
  inline_waits n top indices Id = node_waits n Id
  inline_waits n top indices (Local local) = node_waits n (Local local)

  -- ---- all constraints

  each_waits : {k : ConstraintTree} {standing : SlotTree → Standing} → HasConstraint m s k standing → (slot : SlotTree) → Contains k.slots slot → Waits (standing slot)
  each_waits (OfCompound n action instance fields node type k is of typed has) slot among = node_waits n slot
  each_waits (OfAction a act type k is has) slot among = act_waits a act is.is slot
  each_waits (OfWritten a r filled object k is output of has) slot among =
      option_and_then_some {P = Waits (output_slot m s a r filled slot)} (λ (p : Pool). slice_get m.objects p.object) (slice_get m.pools filled.pool) object of
      (λ p there at.
      let whole = all_get IsSoundObject m.objects p.object object sound.objects at in
      output_waits a r filled object is output of slot
      (All-contains (IsObjectSlot object) k.slots slot (All-contains (IsSoundConstraint (IsObjectSlot object)) object.constraints k whole.constraints has).slots among))
  each_waits (OfResource a c act type claim object k is at of has) slot among = resource_waits a act is.is c slot
  each_waits (OfInitial a r filled object k is state of has) slot among = initial_object_waits a r filled is state slot
  each_waits (Inline n top action handle inline indices k stands has) slot among = inline_waits n top indices slot

  pub open_waits : (k : ConstraintTree) (standing : SlotTree → Standing) → HasConstraint m s k standing → (slot : SlotTree) → Contains k.slots slot → (blank : Blank) (span : Span) → standing slot ≡ Open blank span
      → Contains (open_blanks m s) blank
  open_waits k standing has slot among blank span e = to_contains (open_blanks m s) blank (subst Waits e (each_waits has slot among))

pub slots_wait : ActsAreOfTheirTypes → LinksJoinOpenEnds → OpenSlotsWait
slots_wait types joins m root seed level choices s sound concrete has =
    open_waits m sound s (types m root seed level choices s sound concrete has) (joins m root seed level choices s has)
