-- What is known of a slot narrows as reading goes on.
use Rattle.std.proofs.Common.{◌≡◌, ◌⊎◌, ℕ, ℤ, pos, Bool, true, false, if◌then◌else◌, Option, Some, None, refl, sym, ap, ◌∙◌, subst, inl, inr}
use Rattle.std.specs.Prelude.{slice_get}
use Rattle.std.specs.Option.{option_map, option_and_then}
use Rattle.std.proofs.lemmas.Option.{none-some, same_Some}
use Rattle.pst_model.specs.ConstraintTree.{SlotTree, Own, Object, First as Initial-of, ClaimId, ClaimField, Prev, IsFirst, Id, Index, Local, Through, Outer}
use Rattle.pst_model.specs.ModelTree.{ModelTree}
use Rattle.pst_scen.specs.declared.act.Act.{Act}
use Rattle.pst_scen.specs.declared.act.Filled.{Filled}
use Rattle.pst_scen.specs.declared.act.Claimed.{Claimed}
use Rattle.pst_scen.specs.declared.act.Flow.{Flow}
use Rattle.pst_scen.specs.declared.act.Flow.TheVariants.{BufferIn, BufferOut, StreamIn, StreamOut, StateIn, StateOut}
use Rattle.pst_scen.specs.declared.act.Link.{Link}
use Rattle.pst_scen.specs.declared.act.Link.TheVariants as link
use Rattle.pst_scen.specs.declared.scenario.Scenario.{Scenario}
use Rattle.pst_scen.specs.Scenarios.{reference_at}
use Rattle.pst_legal.specs.Types.{action_field, is_output}
use Rattle.pst_legal.specs.Blanks.{OfFirst, OfAct, OfOutput, OfClaim, Instance, claim_field}
use Rattle.pst_legal.specs.Standing.{Known, value_or, open_value, unread, field_span}
use Rattle.pst_legal.specs.Slots.{pool_span, first_values, first_slot, written_slot, output_values, linked_slot, flow_slot, is_source_first, initial_by, initial_slot, claim_slot, claim_values, claim_field_slot, act_slot, output_slot, resource_slot, first_object_slot}
pub use Rattle.pst_built.specs.Known.{Narrower, Allows, claim_numbers, InDomains}
use Rattle.pst_built.specs.Onward.{Keeps, Both, MoreFilled, MoreAct, Onward}
use Rattle.pst_built.proofs.Bounds.{narrower_self, blank_inside, blank_known, from_open}

module _ (m : ModelTree) (s t : Scenario) (on : Onward s t) (sane : InDomains m t) where
  pub first_inside : (pool field : ℕ) → Narrower (first_slot m t pool field) (first_slot m s pool field)
  first_inside pool field =
      blank_inside (OfFirst pool field) (OfFirst pool field) (pool_span m pool field) (slice_get (first_values s.firsts pool) field) (slice_get (first_values t.firsts pool) field)
      (λ v e. on.firsts pool field v e) (λ v e. sane.firsts pool field v e)

  -- a source's reference in the old scenario is in the new one
  pub source_more : (b q : ℕ) (f : Filled) → reference_at s.actions b q ≡ Some f → (g : Filled) × (reference_at t.actions b q ≡ Some g) × MoreFilled f g
  source_more b q f is = by_act (slice_get s.actions b) refl is
    where
      by_both : (o p : Option Filled) → Both MoreFilled o p → o ≡ Some f → (g : Filled) × (p ≡ Some g) × MoreFilled f g
      by_both None p both e = absurd (none-some f e)
      by_both (Some x) None both e = absurd both
      by_both (Some x) (Some y) both e = (y, refl, subst (λ z. MoreFilled z y) (same_Some x f e) both)

      by_act : (o : Option Act) → slice_get s.actions b ≡ o → option_and_then (λ (x : Act). slice_get x.references q) o ≡ Some f → (g : Filled) × (reference_at t.actions b q ≡ Some g) × MoreFilled f g
      by_act None there e = absurd (none-some f e)
      by_act (Some x) there e =
          let y = on.acts b x there in
          let g = by_both (slice_get x.references q) (slice_get y.0.references q) (y.2.references q) e in
          (g.0, ap (option_and_then (λ (z : Act). slice_get z.references q)) y.1 ∙ g.1, g.2)

  source_keeps : (b q : ℕ) → Keeps (output_values (reference_at s.actions b q)) (output_values (reference_at t.actions b q))
  source_keeps b q = by_source (reference_at s.actions b q) refl
    where
      by_source : (o : Option Filled) → reference_at s.actions b q ≡ o → Keeps (output_values o) (output_values (reference_at t.actions b q))
      by_source None e k v is = absurd (none-some v is)
      by_source (Some f) e k v is =
          let g = source_more b q f e in
          subst (λ o. slice_get (output_values o) k ≡ Some v) (sym g.1) (g.2.values k v is)

  -- a linked object: what is read of it lies in the domains of the same pool
  source_allows : (pool b q field : ℕ) → ((g : Filled) → reference_at t.actions b q ≡ Some g → g.pool ≡ pool) → (v : ℤ)
      → slice_get (output_values (reference_at t.actions b q)) field ≡ Some v → Allows (pool_span m pool field) v
  source_allows pool b q field same v is = by_source (reference_at t.actions b q) refl is
    where
      by_source : (o : Option Filled) → reference_at t.actions b q ≡ o → slice_get (output_values o) field ≡ Some v → Allows (pool_span m pool field) v
      by_source None e is = absurd (none-some v is)
      by_source (Some g) e is = subst (λ p. Allows (pool_span m p field) v) (same g e) (sane.outputs b q g field v e is)

  -- where the links of the new scenario lead to the same pool
  abbrev pub LeadsTo : ℕ → Link → Type 0
  LeadsTo pool to = (b q : ℕ) (g : Filled) → to ≡ link.Act b q → reference_at t.actions b q ≡ Some g → g.pool ≡ pool

  pub linked_allows : (pool field : ℕ) (to : Link) → LeadsTo pool to → Narrower (linked_slot m t pool to field) (unread (pool_span m pool field))
  linked_allows pool field link.Nothing leads = narrower_self (unread (pool_span m pool field))
  linked_allows pool field link.Initial leads = blank_known (OfFirst pool field) (pool_span m pool field) (slice_get (first_values t.firsts pool) field) (λ v e. sane.firsts pool field v e)
  linked_allows pool field (link.Act b q) leads =
      blank_known (OfOutput b q field) (pool_span m pool field) (slice_get (output_values (reference_at t.actions b q)) field) (source_allows pool b q field (λ g e. leads b q g refl e))

  linked_same : (pool field : ℕ) (to : Link) → LeadsTo pool to → Narrower (linked_slot m t pool to field) (linked_slot m s pool to field)
  linked_same pool field link.Nothing leads = narrower_self (unread (pool_span m pool field))
  linked_same pool field link.Initial leads = first_inside pool field
  linked_same pool field (link.Act b q) leads =
      blank_inside (OfOutput b q field) (OfOutput b q field) (pool_span m pool field) (slice_get (output_values (reference_at s.actions b q)) field) (slice_get (output_values (reference_at t.actions b q)) field)
      (λ v e. source_keeps b q field v e) (source_allows pool b q field (λ g e. leads b q g refl e))

  pub linked_inside : (pool field : ℕ) (old new : Link) → (old ≡ link.Nothing) ⊎ (new ≡ old) → LeadsTo pool new → Narrower (linked_slot m t pool new field) (linked_slot m s pool old field)
  linked_inside pool field old new (inl e) leads =
      subst (λ o. Narrower (linked_slot m t pool new field) (linked_slot m s pool o field)) (sym e) (linked_allows pool field new leads)
  linked_inside pool field old new (inr e) leads =
      subst (λ o. Narrower (linked_slot m t pool new field) (linked_slot m s pool o field)) e (linked_same pool field new leads)

  -- ---- references

  module _ (a r : ℕ) (f g : Filled) (is : reference_at t.actions a r ≡ Some g) (more : MoreFilled f g) where
    leads : LeadsTo f.pool g.link
    leads b q source to there = sane.links a r b q g source is to there ∙ more.pool

    own_inside : (field : ℕ) → Narrower (written_slot m a r g field) (written_slot m a r f field)
    own_inside field =
        subst (λ p. Narrower (written_slot m a r g field) (value_or (slice_get f.values field) (open_value (OfOutput a r field) (pool_span m p field)))) more.pool
        (blank_inside (OfOutput a r field) (OfOutput a r field) (pool_span m g.pool field) (slice_get f.values field) (slice_get g.values field)
        (λ v e. more.values field v e) (λ v e. sane.outputs a r g field v is e))

    pub previous_inside : (field : ℕ) → Narrower (linked_slot m t g.pool g.link field) (linked_slot m s f.pool f.link field)
    previous_inside field =
        subst (λ p. Narrower (linked_slot m t p g.link field) (linked_slot m s f.pool f.link field)) (sym more.pool)
        (linked_inside f.pool field f.link g.link more.link leads)

    by_direction : (b : Bool) (field : ℕ)
        → Narrower (if b then written_slot m a r g field else linked_slot m t g.pool g.link field) (if b then written_slot m a r f field else linked_slot m s f.pool f.link field)
    by_direction true field = own_inside field
    by_direction false field = previous_inside field

    pub flow_inside : (field : ℕ) → Narrower (flow_slot m t a r (Some g) field) (flow_slot m s a r (Some f) field)
    flow_inside field =
        subst (λ flow. Narrower (if is_output flow then written_slot m a r g field else linked_slot m t g.pool g.link field) (flow_slot m s a r (Some f) field)) (sym more.flow)
        (by_direction (is_output f.flow) field)

    pub output_inside : (slot : SlotTree) → Narrower (output_slot m t a r g slot) (output_slot m s a r f slot)
    output_inside (Own field) = own_inside field
    output_inside (Prev field) = previous_inside field
    output_inside IsFirst = narrower_self (Known (pos 0))
    output_inside (Object r f) = tt
    output_inside (Initial-of r) = tt
    output_inside (ClaimId c) = tt
    output_inside (ClaimField c f) = tt
    output_inside Id = tt
    output_inside (Index l) = tt
    output_inside (Local l) = tt
    output_inside (Through h slot) = tt
    output_inside (Outer slot) = tt

  -- `initial`
  source_first : (old new : Link) → (old ≡ link.Nothing) ⊎ (new ≡ old) → Narrower (is_source_first new) (is_source_first old)
  source_first old new (inl e) = subst (λ o. Narrower (is_source_first new) (is_source_first o)) (sym e) (from_open new)
  source_first old new (inr e) = subst (λ o. Narrower (is_source_first new) (is_source_first o)) e (narrower_self (is_source_first new))

  initial_inside_by : (flow : Flow) (old new : Link) → (old ≡ link.Nothing) ⊎ (new ≡ old) → Narrower (initial_by flow new) (initial_by flow old)
  initial_inside_by StateIn old new more = source_first old new more
  initial_inside_by StateOut old new more = narrower_self (Known (pos 0))
  initial_inside_by BufferIn old new more = tt
  initial_inside_by BufferOut old new more = tt
  initial_inside_by StreamIn old new more = tt
  initial_inside_by StreamOut old new more = tt

  initial_inside : (o p : Option Filled) → Both MoreFilled o p → Narrower (initial_slot p) (initial_slot o)
  initial_inside None None both = tt
  initial_inside None (Some g) both = absurd both
  initial_inside (Some f) None both = absurd both
  initial_inside (Some f) (Some g) both =
      subst (λ flow. Narrower (initial_by flow g.link) (initial_by f.flow f.link)) (sym both.flow) (initial_inside_by f.flow f.link g.link both.link)

  -- ---- actions

  module _ (a : ℕ) (x y : Act) (is : slice_get t.actions a ≡ Some y) (more : MoreAct x y) where
    in_reference : (r : ℕ) (g : Filled) → slice_get y.references r ≡ Some g → reference_at t.actions a r ≡ Some g
    in_reference r g there = ap (option_and_then (λ (z : Act). slice_get z.references r)) is ∙ there

    act_flow : (r field : ℕ) (o p : Option Filled) → Both MoreFilled o p → slice_get y.references r ≡ p → Narrower (flow_slot m t a r p field) (flow_slot m s a r o field)
    act_flow r field None None both there = tt
    act_flow r field None (Some g) both there = absurd both
    act_flow r field (Some f) None both there = absurd both
    act_flow r field (Some f) (Some g) both there = flow_inside a r f g (in_reference r g there) both field

    number_keeps : (c : ℕ) (v : ℤ) → option_map (λ (claimed : Claimed). pos claimed.instance) (slice_get x.claims c) ≡ Some v → option_map (λ (claimed : Claimed). pos claimed.instance) (slice_get y.claims c) ≡ Some v
    number_keeps c v e = by_claim (slice_get x.claims c) refl e
      where
        by_claim : (o : Option Claimed) → slice_get x.claims c ≡ o → option_map (λ (claimed : Claimed). pos claimed.instance) o ≡ Some v → option_map (λ (claimed : Claimed). pos claimed.instance) (slice_get y.claims c) ≡ Some v
        by_claim None there e = absurd (none-some v e)
        by_claim (Some k) there e =
            let l = more.claims c k there in
            ap (option_map (λ (claimed : Claimed). pos claimed.instance)) l.1 ∙ ap (λ n. Some (pos n)) l.2.instance ∙ e

    number_allows : (c : ℕ) (v : ℤ) → option_map (λ (claimed : Claimed). pos claimed.instance) (slice_get y.claims c) ≡ Some v → Allows (claim_numbers m y.action y.instance c) v
    number_allows c v e = by_claim (slice_get y.claims c) refl e
      where
        by_claim : (o : Option Claimed) → slice_get y.claims c ≡ o → option_map (λ (claimed : Claimed). pos claimed.instance) o ≡ Some v → Allows (claim_numbers m y.action y.instance c) v
        by_claim None there e = absurd (none-some v e)
        by_claim (Some k) there e = subst (Allows (claim_numbers m y.action y.instance c)) (same_Some (pos k.instance) v e) (sane.instances a y c k is there)

    pub claim_inside : (c : ℕ) → Narrower (claim_slot m a y c) (claim_slot m a x c)
    claim_inside c =
        subst (λ action. Narrower (claim_slot m a y c) (value_or (option_map (λ (claimed : Claimed). pos claimed.instance) (slice_get x.claims c)) (open_value (Instance a c) (claim_numbers m action x.instance c)))) more.action
        (subst (λ instance. Narrower (claim_slot m a y c) (value_or (option_map (λ (claimed : Claimed). pos claimed.instance) (slice_get x.claims c)) (open_value (Instance a c) (claim_numbers m y.action instance c)))) more.instance
        (blank_inside (Instance a c) (Instance a c) (claim_numbers m y.action y.instance c) (option_map (λ (claimed : Claimed). pos claimed.instance) (slice_get x.claims c))
        (option_map (λ (claimed : Claimed). pos claimed.instance) (slice_get y.claims c)) (number_keeps c) (number_allows c)))

    value_keeps : (c field : ℕ) (v : ℤ) → slice_get (claim_values (slice_get x.claims c)) field ≡ Some v → slice_get (claim_values (slice_get y.claims c)) field ≡ Some v
    value_keeps c field v e = by_claim (slice_get x.claims c) refl e
      where
        by_claim : (o : Option Claimed) → slice_get x.claims c ≡ o → slice_get (claim_values o) field ≡ Some v → slice_get (claim_values (slice_get y.claims c)) field ≡ Some v
        by_claim None there e = absurd (none-some v e)
        by_claim (Some k) there e =
            let l = more.claims c k there in
            ap (λ o. slice_get (claim_values o) field) l.1 ∙ l.2.values field v e

    value_allows : (c field : ℕ) (v : ℤ) → slice_get (claim_values (slice_get y.claims c)) field ≡ Some v → Allows (field_span (claim_field m y.action c field)) v
    value_allows c field v e = by_claim (slice_get y.claims c) refl e
      where
        by_claim : (o : Option Claimed) → slice_get y.claims c ≡ o → slice_get (claim_values o) field ≡ Some v → Allows (field_span (claim_field m y.action c field)) v
        by_claim None there e = absurd (none-some v e)
        by_claim (Some k) there e = sane.claims a y c k field v is there e

    pub claim_field_inside : (c field : ℕ) → Narrower (claim_field_slot m a y c field) (claim_field_slot m a x c field)
    claim_field_inside c field =
        subst (λ action. Narrower (claim_field_slot m a y c field) (value_or (slice_get (claim_values (slice_get x.claims c)) field) (open_value (OfClaim a c field) (field_span (claim_field m action c field))))) more.action
        (blank_inside (OfClaim a c field) (OfClaim a c field) (field_span (claim_field m y.action c field)) (slice_get (claim_values (slice_get x.claims c)) field) (slice_get (claim_values (slice_get y.claims c)) field)
        (value_keeps c field) (value_allows c field))

    field_inside : (field : ℕ) → Narrower (act_slot m t a y (Own field)) (act_slot m s a x (Own field))
    field_inside field =
        subst (λ action. Narrower (act_slot m t a y (Own field)) (value_or (slice_get x.fields field) (open_value (OfAct a field) (field_span (action_field m action field))))) more.action
        (blank_inside (OfAct a field) (OfAct a field) (field_span (action_field m y.action field)) (slice_get x.fields field) (slice_get y.fields field) (λ v e. more.fields field v e) (λ v e. sane.fields a y field v is e))

    pub act_inside : (slot : SlotTree) → Narrower (act_slot m t a y slot) (act_slot m s a x slot)
    act_inside (Own field) = field_inside field
    act_inside (Object r field) = act_flow r field (slice_get x.references r) (slice_get y.references r) (more.references r) refl
    act_inside (Initial-of r) = initial_inside (slice_get x.references r) (slice_get y.references r) (more.references r)
    act_inside (ClaimId c) = claim_inside c
    act_inside (ClaimField c field) = claim_field_inside c field
    act_inside (Prev f) = tt
    act_inside IsFirst = tt
    act_inside Id = tt
    act_inside (Index l) = tt
    act_inside (Local l) = tt
    act_inside (Through h slot) = tt
    act_inside (Outer slot) = tt

    pub resource_inside : (c : ℕ) (slot : SlotTree) → Narrower (resource_slot m a y c slot) (resource_slot m a x c slot)
    resource_inside c (Own field) = claim_field_inside c field
    resource_inside c Id = claim_inside c
    resource_inside c (Object r f) = tt
    resource_inside c (Initial-of r) = tt
    resource_inside c (ClaimId d) = tt
    resource_inside c (ClaimField d f) = tt
    resource_inside c (Prev f) = tt
    resource_inside c IsFirst = tt
    resource_inside c (Index l) = tt
    resource_inside c (Local l) = tt
    resource_inside c (Through h slot) = tt
    resource_inside c (Outer slot) = tt

  pub first_object_inside : (pool : ℕ) (slot : SlotTree) → Narrower (first_object_slot m t pool slot) (first_object_slot m s pool slot)
  first_object_inside pool (Own field) = first_inside pool field
  first_object_inside pool IsFirst = narrower_self (Known (pos 1))
  first_object_inside pool (Object r f) = tt
  first_object_inside pool (Initial-of r) = tt
  first_object_inside pool (ClaimId d) = tt
  first_object_inside pool (ClaimField d f) = tt
  first_object_inside pool (Prev f) = tt
  first_object_inside pool Id = tt
  first_object_inside pool (Index l) = tt
  first_object_inside pool (Local l) = tt
  first_object_inside pool (Through h slot) = tt
  first_object_inside pool (Outer slot) = tt
