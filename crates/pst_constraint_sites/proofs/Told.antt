-- What is told of slots holds in every scenario that differs in values alone.
use Rattle.std.proofs.Common.{◌≡◌, ℕ, ℤ, pos, List, Bool, true, false, if◌then◌else◌, Option, Some, None, refl, sym, ap, ap₂, ◌∙◌, subst, append-nil}
use Rattle.std.specs.Prelude.{slice_get, flat_map, option_to_list}
use Rattle.std.specs.Option.{option_map, option_and_then}
use Rattle.std.proofs.lemmas.Option.{slice_get-map}
use Rattle.pst_expr.specs.declared.ranges.Span.{Span}
use Rattle.pst_model.specs.ConstraintTree.{SlotTree, Own, Object, First, ClaimId, ClaimField, Prev, IsFirst, Id, Index, Local, Through, Outer}
use Rattle.pst_model.specs.ModelTree.{ModelTree}
use Rattle.pst_scen.specs.declared.tree.Node.{Node}
use Rattle.pst_scen.specs.declared.tree.Fill.{Fill}
use Rattle.pst_scen.specs.declared.tree.Fill.TheVariants as fill
use Rattle.pst_scen.specs.declared.act.Act.{Act}
use Rattle.pst_scen.specs.declared.act.Filled.{Filled}
use Rattle.pst_scen.specs.declared.act.Claimed.{Claimed}
use Rattle.pst_scen.specs.declared.act.Flow.{Flow}
use Rattle.pst_scen.specs.declared.act.Flow.TheVariants.{BufferIn, BufferOut, StreamIn, StreamOut, StateIn, StateOut}
use Rattle.pst_scen.specs.declared.act.Link.{Link}
use Rattle.pst_scen.specs.declared.act.Link.TheVariants as link
use Rattle.pst_scen.specs.declared.scenario.Scenario.{Scenario}
use Rattle.pst_scen.specs.Scenarios.{reference_at}
use Rattle.pst_legal.specs.Types.{action_field, is_output}
use Rattle.pst_legal.specs.Blanks.{Blank, Instance, OfAct, OfOutput, OfClaim, claim_instances, claim_field, pool_field, domain_in, domain_of}
use Rattle.pst_legal.specs.Standing.{Standing, value_or, open_value, hull, field_span, number_or_lacking}
use Rattle.pst_legal.specs.Slots.{pool_span, output_values, claim_values, linked_slot, flow_slot, initial_slot, is_source_first, initial_by as initial_slot_by, act_slot, maybe_act_slot, compound_slot, fill_slot, maybe_fill_slot, behind, node_behind, node_slot, inline_slot, output_slot, resource_slot, first_object_slot}
use Rattle.pst_built.specs.Onward.{Both}
use Rattle.pst_blank_values.specs.Rows.{Part, Claims, Fields, Output, Resource, of_act, stands_in}
use Rattle.pst_blank_values.specs.Values.{IsSameReference, IsSameAct, IsSameButValues}
use Rattle.pst_constraint_sites.specs.Sites.{SiteTree, AtNode, AtTraversal, AtAct, AtOutput, AtClaim, AtFirst, maybe_output_slot, maybe_resource_slot, slot_at}
use Rattle.pst_constraint_sites.specs.Senses.{InBlank, linked_sense, flow_sense, first_sense_of, initial_by, initial_sense, act_sense, maybe_act_sense, value_sense, number_sense, compound_sense, fill_sense, maybe_fill_sense, behind_sense, node_sense, inline_sense, output_sense, maybe_output_sense, resource_sense, maybe_resource_sense, first_object_sense, sense_at, Tells}
use Rattle.pst_constraint_sites.specs.Laws.{SensesTell}

-- the values of an output, by way of its reference
by_reference : (o : Option Act) (r : ℕ) → output_values (option_and_then (λ (x : Act). slice_get x.references r) o) ≡ of_act (Output r) o
by_reference None r = refl
by_reference (Some x) r = refl

module _ (m : ModelTree) (s t : Scenario) (same : IsSameButValues s t) where
  -- ---- flow objects

  linked_tells : (a r : ℕ) (g : Filled) (field : ℕ) → reference_at t.actions a r ≡ Some g → Tells m t (linked_sense g.pool g.link field) (linked_slot m t g.pool g.link field)
  linked_tells a r g field is = by g.link refl
    where
      by : (to : Link) → g.link ≡ to → Tells m t (linked_sense g.pool to field) (linked_slot m t g.pool to field)
      by link.Nothing e = tt
      by link.Initial e = (pool_span m g.pool field, refl, λ joins. refl)
      by (link.Act b q) e = (
        pool_span m g.pool field,
        ap (λ vs. value_or (slice_get vs field) (open_value (OfOutput b q field) (pool_span m g.pool field))) (by_reference (slice_get t.actions b) q),
        λ joins. let other = joins a r b q g is e in sym (ap (λ o. hull (domain_in (option_and_then (λ (f : Filled). pool_field m f.pool field) o))) other.1 ∙ ap (λ p. pool_span m p field) other.2),
      )

  written_tells : (a r : ℕ) (g : Filled) (field : ℕ) → reference_at t.actions a r ≡ Some g
      → Tells m t (InBlank (OfOutput a r field)) (value_or (slice_get g.values field) (open_value (OfOutput a r field) (pool_span m g.pool field)))
  written_tells a r g field is =
      let own : of_act (Output r) (slice_get t.actions a) ≡ g.values = sym (by_reference (slice_get t.actions a) r) ∙ ap output_values is in (
        pool_span m g.pool field,
        ap (λ vs. value_or (slice_get vs field) (open_value (OfOutput a r field) (pool_span m g.pool field))) (sym own),
        λ joins. sym (ap (λ o. hull (domain_in (option_and_then (λ (f : Filled). pool_field m f.pool field) o))) is),
      )

  -- what an input's object is, by its reference
  source_tells : (a r : ℕ) (f g : Filled) (field : ℕ) → reference_at t.actions a r ≡ Some g → IsSameReference f g → Tells m t (linked_sense f.pool f.link field) (linked_slot m t g.pool g.link field)
  source_tells a r f g field is one =
      subst (λ sense. Tells m t sense (linked_slot m t g.pool g.link field)) (ap₂ (λ p l. linked_sense p l field) one.pool one.link) (linked_tells a r g field is)

  flow_tells : (a r : ℕ) (f g : Option Filled) (field : ℕ) → reference_at t.actions a r ≡ g → Both IsSameReference f g → Tells m t (flow_sense a r f field) (flow_slot m t a r g field)
  flow_tells a r None None field is both = refl
  flow_tells a r None (Some g) field is both = absurd both
  flow_tells a r (Some f) None field is both = absurd both
  flow_tells a r (Some f) (Some g) field is both = by (is_output f.flow) (ap is_output both.flow)
    where
      by : (b : Bool) → is_output g.flow ≡ b
          → Tells m t (if b then InBlank (OfOutput a r field) else linked_sense f.pool f.link field)
          (if is_output g.flow then value_or (slice_get g.values field) (open_value (OfOutput a r field) (pool_span m g.pool field)) else linked_slot m t g.pool g.link field)
      by true e =
          subst (λ c. Tells m t (InBlank (OfOutput a r field)) (if c then value_or (slice_get g.values field) (open_value (OfOutput a r field) (pool_span m g.pool field)) else linked_slot m t g.pool g.link field)) (sym e)
          (written_tells a r g field is)
      by false e =
          subst (λ c. Tells m t (linked_sense f.pool f.link field) (if c then value_or (slice_get g.values field) (open_value (OfOutput a r field) (pool_span m g.pool field)) else linked_slot m t g.pool g.link field)) (sym e)
          (source_tells a r f g field is both)

  first_tells : (to : Link) → Tells m t (first_sense_of to) (is_source_first to)
  first_tells link.Nothing = tt
  first_tells link.Initial = refl
  first_tells (link.Act b q) = refl

  initial_by_tells : (flow : Flow) (to : Link) → Tells m t (initial_by flow to) (initial_slot_by flow to)
  initial_by_tells StateIn to = first_tells to
  initial_by_tells StateOut to = refl
  initial_by_tells BufferIn to = refl
  initial_by_tells BufferOut to = refl
  initial_by_tells StreamIn to = refl
  initial_by_tells StreamOut to = refl

  initial_tells : (f g : Option Filled) → Both IsSameReference f g → Tells m t (initial_sense f) (initial_slot g)
  initial_tells None None both = refl
  initial_tells None (Some g) both = absurd both
  initial_tells (Some f) None both = absurd both
  initial_tells (Some f) (Some g) both =
      subst (λ flow. Tells m t (initial_by f.flow f.link) (initial_slot_by flow g.link)) (sym both.flow)
      (subst (λ to. Tells m t (initial_by f.flow f.link) (initial_slot_by f.flow to)) (sym both.link) (initial_by_tells f.flow f.link))

  -- ---- claims

  claim_tells : (a : ℕ) (y : Act) (claim : ℕ) → slice_get t.actions a ≡ Some y
      → Tells m t (InBlank (Instance a claim)) (value_or (option_map (λ (c : Claimed). pos c.instance) (slice_get y.claims claim)) (open_value (Instance a claim) (hull (claim_instances m y claim))))
  claim_tells a y claim is =
      let own : option_map (λ (c : Claimed). pos c.instance) (slice_get y.claims claim) ≡ slice_get (of_act Claims (slice_get t.actions a)) claim =
      sym (slice_get-map (λ (c : Claimed). pos c.instance) y.claims claim) ∙ ap (λ o. slice_get (of_act Claims o) claim) (sym is) in (
        hull (claim_instances m y claim),
        ap (λ v. value_or v (open_value (Instance a claim) (hull (claim_instances m y claim)))) own,
        λ joins. sym (ap (λ o. hull (flat_map (λ (x : Act). claim_instances m x claim) (option_to_list o))) is ∙ ap hull (append-nil (claim_instances m y claim))),
      )

  -- a value of an action
  of_tells : (a : ℕ) (y : Act) (blank : Blank) (part : Part) (i : ℕ) (span : Option Span) → slice_get t.actions a ≡ Some y → stands_in t blank ≡ slice_get (of_act part (slice_get t.actions a)) i
      → span ≡ hull (domain_of m t.actions blank) → Tells m t (InBlank blank) (value_or (slice_get (of_act part (Some y)) i) (open_value blank span))
  of_tells a y blank part i span is stands own = (span, ap (λ v. value_or v (open_value blank span)) (ap (λ o. slice_get (of_act part o) i) (sym is) ∙ sym stands), λ joins. own)

  field_tells : (a : ℕ) (y : Act) (field : ℕ) → slice_get t.actions a ≡ Some y → Tells m t (InBlank (OfAct a field)) (value_or (slice_get y.fields field) (open_value (OfAct a field) (field_span (action_field m y.action field))))
  field_tells a y field is =
      of_tells a y (OfAct a field) Fields field (field_span (action_field m y.action field)) is refl
      (sym (ap (λ o. hull (domain_in (option_and_then (λ (x : Act). action_field m x.action field) o))) is))

  claim_field_tells : (a : ℕ) (y : Act) (claim field : ℕ) → slice_get t.actions a ≡ Some y
      → Tells m t (InBlank (OfClaim a claim field)) (value_or (slice_get (claim_values (slice_get y.claims claim)) field) (open_value (OfClaim a claim field) (field_span (claim_field m y.action claim field))))
  claim_field_tells a y claim field is =
      of_tells a y (OfClaim a claim field) (Resource claim) field (field_span (claim_field m y.action claim field)) is refl
      (sym (ap (λ o. hull (domain_in (option_and_then (λ (x : Act). claim_field m x.action claim field) o))) is))

  -- ---- actions

  one_act_tells : (a : ℕ) (x y : Act) → slice_get t.actions a ≡ Some y → IsSameAct x y → (slot : SlotTree) → Tells m t (act_sense a x slot) (act_slot m t a y slot)
  one_act_tells a x y is one (Own field) = field_tells a y field is
  one_act_tells a x y is one (Object reference field) =
      flow_tells a reference (slice_get x.references reference) (slice_get y.references reference) field (ap (option_and_then (λ (z : Act). slice_get z.references reference)) is) (one.references reference)
  one_act_tells a x y is one (First reference) = initial_tells (slice_get x.references reference) (slice_get y.references reference) (one.references reference)
  one_act_tells a x y is one (ClaimId claim) = claim_tells a y claim is
  one_act_tells a x y is one (ClaimField claim field) = claim_field_tells a y claim field is
  one_act_tells a x y is one _ = refl

  act_tells : (a : ℕ) (o p : Option Act) → slice_get t.actions a ≡ p → Both IsSameAct o p → (slot : SlotTree) → Tells m t (maybe_act_sense a o slot) (maybe_act_slot m t a p slot)
  act_tells a None None is both slot = refl
  act_tells a None (Some y) is both slot = absurd both
  act_tells a (Some x) None is both slot = absurd both
  act_tells a (Some x) (Some y) is both slot = one_act_tells a x y is both slot

  -- ---- nodes

  value_tells : (v : Option ℤ) (other : Standing) → Tells m t (value_sense v) (value_or v other)
  value_tells None other = tt
  value_tells (Some v) other = refl

  compound_tells : (action : ℕ) (fields : List ℤ) (slot : SlotTree) → Tells m t (compound_sense fields slot) (compound_slot m action fields slot)
  compound_tells action fields (Own field) = value_tells (slice_get fields field) _
  compound_tells action fields _ = refl

  fill_tells : (f : Fill) (slot : SlotTree) → Tells m t (fill_sense s f slot) (fill_slot m t f slot)
  fill_tells (fill.Leaf act) slot = act_tells act (slice_get s.actions act) (slice_get t.actions act) refl (same.acts act) slot
  fill_tells (fill.Compound action instance fields) slot = compound_tells action fields slot
  fill_tells _ slot = refl

  maybe_fill_tells : (o : Option Node) (slot : SlotTree) → Tells m t (maybe_fill_sense s o slot) (maybe_fill_slot m t o slot)
  maybe_fill_tells None slot = refl
  maybe_fill_tells (Some node) slot = fill_tells node.fill slot

  at_node : (n : ℕ) (slot : SlotTree) → Tells m t (maybe_fill_sense s (slice_get s.nodes n) slot) (maybe_fill_slot m t (slice_get t.nodes n) slot)
  at_node n slot = subst (λ nodes. Tells m t (maybe_fill_sense s (slice_get s.nodes n) slot) (maybe_fill_slot m t (slice_get nodes n) slot)) (sym same.nodes) (maybe_fill_tells (slice_get s.nodes n) slot)

  behind_tells : (slot : SlotTree) → ((k : ℕ) → Tells m t (node_sense m s k slot) (node_slot m t k slot)) → (o p : Option ℕ) → p ≡ o → (other : Standing)
      → Tells m t (behind_sense (λ k. node_sense m s k slot) o) (behind (λ k. node_slot m t k slot) p other)
  behind_tells slot each None p e other = tt
  behind_tells slot each (Some k) p e other = subst (λ q. Tells m t (node_sense m s k slot) (behind (λ k. node_slot m t k slot) q other)) (sym e) (each k)

  node_tells : (slot : SlotTree) (n : ℕ) → Tells m t (node_sense m s n slot) (node_slot m t n slot)
  node_tells (Through handle slot) n =
      behind_tells slot (node_tells slot) (node_behind m s.nodes n handle) (node_behind m t.nodes n handle) (ap (λ nodes. node_behind m nodes n handle) same.nodes) _
  node_tells (Own field) n = at_node n (Own field)
  node_tells (Object reference field) n = at_node n (Object reference field)
  node_tells (First reference) n = at_node n (First reference)
  node_tells (ClaimId claim) n = at_node n (ClaimId claim)
  node_tells (ClaimField claim field) n = at_node n (ClaimField claim field)
  node_tells (Prev field) n = at_node n (Prev field)
  node_tells IsFirst n = at_node n IsFirst
  node_tells Id n = at_node n Id
  node_tells (Index level) n = at_node n (Index level)
  node_tells (Local local) n = at_node n (Local local)
  node_tells (Outer slot) n = at_node n (Outer slot)

  number_tells : (o : Option ℕ) → Tells m t (number_sense o) (number_or_lacking o)
  number_tells None = refl
  number_tells (Some n) = refl

  inline_tells : (n top : ℕ) (indices : List ℕ) (slot : SlotTree) → Tells m t (inline_sense m s n top indices slot) (inline_slot m t n top indices slot)
  inline_tells n top indices (Outer slot) = node_tells slot top
  inline_tells n top indices (Index level) = number_tells (slice_get indices level)
  inline_tells n top indices (Own field) = node_tells (Own field) n
  inline_tells n top indices (Object reference field) = node_tells (Object reference field) n
  inline_tells n top indices (First reference) = node_tells (First reference) n
  inline_tells n top indices (ClaimId claim) = node_tells (ClaimId claim) n
  inline_tells n top indices (ClaimField claim field) = node_tells (ClaimField claim field) n
  inline_tells n top indices (Prev field) = node_tells (Prev field) n
  inline_tells n top indices IsFirst = node_tells IsFirst n
  inline_tells n top indices Id = node_tells Id n
  inline_tells n top indices (Local local) = node_tells (Local local) n
  inline_tells n top indices (Through handle slot) = node_tells (Through handle slot) n

  -- ---- objects

  one_output_tells : (a r : ℕ) (f g : Filled) → reference_at t.actions a r ≡ Some g → IsSameReference f g → (slot : SlotTree) → Tells m t (output_sense a r f slot) (output_slot m t a r g slot)
  one_output_tells a r f g is one (Own field) = written_tells a r g field is
  one_output_tells a r f g is one (Prev field) = source_tells a r f g field is one
  one_output_tells a r f g is one IsFirst = refl
  one_output_tells a r f g is one _ = refl

  output_tells : (a r : ℕ) (f g : Option Filled) → reference_at t.actions a r ≡ g → Both IsSameReference f g → (slot : SlotTree) → Tells m t (maybe_output_sense a r f slot) (maybe_output_slot m t a r g slot)
  output_tells a r None None is both slot = refl
  output_tells a r None (Some g) is both slot = absurd both
  output_tells a r (Some f) None is both slot = absurd both
  output_tells a r (Some f) (Some g) is both slot = one_output_tells a r f g is both slot

  references_both : (a r : ℕ) (o p : Option Act) → Both IsSameAct o p → Both IsSameReference (option_and_then (λ (x : Act). slice_get x.references r) o) (option_and_then (λ (x : Act). slice_get x.references r) p)
  references_both a r None None both = tt
  references_both a r None (Some y) both = absurd both
  references_both a r (Some x) None both = absurd both
  references_both a r (Some x) (Some y) both = both.references r

  one_resource_tells : (a : ℕ) (y : Act) (claim : ℕ) → slice_get t.actions a ≡ Some y → (slot : SlotTree) → Tells m t (resource_sense a claim slot) (resource_slot m a y claim slot)
  one_resource_tells a y claim is (Own field) = claim_field_tells a y claim field is
  one_resource_tells a y claim is Id = claim_tells a y claim is
  one_resource_tells a y claim is _ = refl

  resource_tells : (a : ℕ) (claim : ℕ) (o p : Option Act) → slice_get t.actions a ≡ p → Both IsSameAct o p → (slot : SlotTree) → Tells m t (maybe_resource_sense a o claim slot) (maybe_resource_slot m a p claim slot)
  resource_tells a claim None None is both slot = refl
  resource_tells a claim None (Some y) is both slot = absurd both
  resource_tells a claim (Some x) None is both slot = absurd both
  resource_tells a claim (Some x) (Some y) is both slot = one_resource_tells a y claim is slot

  first_object_tells : (pool : ℕ) (slot : SlotTree) → Tells m t (first_object_sense pool slot) (first_object_slot m t pool slot)
  first_object_tells pool (Own field) = (pool_span m pool field, refl, λ joins. refl)
  first_object_tells pool IsFirst = refl
  first_object_tells pool _ = refl

  site_tells : (site : SiteTree) (slot : SlotTree) → Tells m t (sense_at m s site slot) (slot_at m t site slot)
  site_tells (AtNode n) slot = node_tells slot n
  site_tells (AtTraversal n top indices) slot = inline_tells n top indices slot
  site_tells (AtAct a) slot = act_tells a (slice_get s.actions a) (slice_get t.actions a) refl (same.acts a) slot
  site_tells (AtOutput a r) slot = output_tells a r (reference_at s.actions a r) (reference_at t.actions a r) refl (references_both a r (slice_get s.actions a) (slice_get t.actions a) (same.acts a)) slot
  site_tells (AtClaim a claim) slot = resource_tells a claim (slice_get s.actions a) (slice_get t.actions a) refl (same.acts a) slot
  site_tells (AtFirst pool) slot = first_object_tells pool slot

pub tell : SensesTell
tell m s t same site slot = site_tells m s t same site slot
