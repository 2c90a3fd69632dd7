-- What belongs to the atomic actions and the objects of a scenario that fits is decided.
use Rattle.std.proofs.Common.{◌≡◌, ◌⊎◌, ℕ, zero, suc, ◌+◌, ◌<◌, ℤ, pos, List, [], ◌∷◌, ◌++◌, map, length, get_or, Contains, Bool, true, false, nat_eq, if◌then◌else◌, Option, Some, None, refl, sym, ap, ◌∙◌, subst, arith, inl, inr, ⊎_elim}
use Rattle.std.specs.Prelude.{slice_get}
use Rattle.std.specs.Option.{option_map, option_and_then}
use Rattle.std.proofs.lemmas.Option.{none-some, same_Some, slice_get-map, option_and_then_some}
use Rattle.std.proofs.lemmas.Bool.{false≢true, eqb-true, eq-eqb}
use Rattle.pst_model.specs.declared.action.Reference.{Reference}
use Rattle.pst_model.specs.declared.action.Claim.{Claim}
use Rattle.pst_model.specs.declared.action.Field.{Field}
use Rattle.pst_model.specs.declared.model.Pool.{Pool}
use Rattle.pst_model.specs.declared.object.ObjectKind.{ObjectKind}
use Rattle.pst_model.specs.declared.object.ObjectKind.TheVariants.{Buffer, Stream, State, Resource}
use Rattle.pst_model.specs.ConstraintTree.{SlotTree, Own, Object, First as Initial-of, ClaimId, ClaimField, Prev, IsFirst, Id, Index, Local, Through, Outer}
use Rattle.pst_model.specs.ModelTree.{ModelTree, ActionTree, ObjectTree}
use Rattle.pst_model.specs.Served.{objects_of}
use Rattle.pst_model.specs.SoundSlots.{IsObjectSlot}
use Rattle.pst_model.specs.Sound.{IsSound}
use Rattle.pst_scen.specs.declared.act.Act.{Act}
use Rattle.pst_scen.specs.declared.act.Filled.{Filled}
use Rattle.pst_scen.specs.declared.act.Claimed.{Claimed}
use Rattle.pst_scen.specs.declared.act.Flow.{Flow}
use Rattle.pst_scen.specs.declared.act.Flow.TheVariants.{BufferIn, BufferOut, StreamIn, StreamOut, StateIn, StateOut}
use Rattle.pst_scen.specs.declared.act.Link.{Link}
use Rattle.pst_scen.specs.declared.act.Link.TheVariants as link
use Rattle.pst_scen.specs.declared.scenario.First.{First}
use Rattle.pst_scen.specs.declared.scenario.Scenario.{Scenario}
use Rattle.pst_scen.specs.Conflicts.{Uses}
use Rattle.pst_scen.specs.Scenarios.{reference_at, IsLinkOf, IsScenario}
use Rattle.pst_legal.specs.Types.{action_field, object_field, pool_object, served, served_claim, flow_of, is_output, is_state_pool, has_kind, same_kind}
use Rattle.pst_legal.specs.Supplied.{is_source_for, Supplied}
use Rattle.pst_legal.specs.Fits.{AreObjectValues, IsReferenceOf, IsActOf, HasValues}
use Rattle.pst_legal.specs.Pieces.{IsValueOf}
use Rattle.pst_legal.specs.Blanks.{OfFirst, OfAct, OfOutput, OfClaim, Instance, claim_instances, instances_in, pool_field, claim_field}
use Rattle.pst_legal.specs.Standing.{open_value, hull, field_span}
use Rattle.pst_legal.specs.Slots.{pool_span, first_values, first_slot, written_slot, output_values, linked_slot, flow_slot, initial_by, initial_slot, claim_slot, claim_values, claim_field_slot, act_slot, output_slot, resource_slot, first_object_slot}
use Rattle.pst_built.proofs.Parents.{get_more}
use Rattle.pst_built.proofs.SoundActs.{served_pool}
use Rattle.pst_slots.specs.Decided.{IsDecided}
use Rattle.pst_slots.proofs.Lists.{decided_or, nothing_open, either, zip_past, as_long_past, as_long_at}

-- ---- fields of objects

-- where a field has no value the type has no such field
past_fields : (object : Option ObjectTree) (values : List ℤ) (field : ℕ) → AreObjectValues object values → slice_get values field ≡ None → option_and_then (λ (type : ObjectTree). slice_get type.fields field) object ≡ None
past_fields None values field are none = refl
past_fields (Some object) values field are none = zip_past IsValueOf object.fields values field are none

pub no_span : (field : Option Field) → field ≡ None → field_span field ≡ None
no_span None e = refl
no_span (Some field) e = absurd (none-some field (sym e))

-- the fields of a pool's objects
by_pool : (m : ModelTree) (pool : ℕ) (p : Pool) (field : ℕ) → slice_get m.pools pool ≡ Some p → pool_field m pool field ≡ object_field m p.object field
by_pool m pool p field is = ap (option_and_then (λ (x : Pool). object_field m x.object field)) is

by_object : (m : ModelTree) (pool : Option Pool) (field : ℕ) → option_and_then (λ (x : Pool). object_field m x.object field) pool ≡ option_and_then (λ (type : ObjectTree). slice_get type.fields field) (option_and_then (λ (x : Pool). slice_get m.objects x.object) pool)
by_object m None field = refl
by_object m (Some pool) field = refl

-- ---- first objects

first_found : (firsts : List First) (pool : ℕ) → Contains (map (λ (f : First). f.pool) firsts) pool → (k : ℕ) × (first : First) × (slice_get firsts k ≡ Some first) × (first.pool ≡ pool) × (first_values firsts pool ≡ first.values)
first_found firsts pool has = go firsts has.0 has.1 has.2
  where
    here : (first : First) (firsts : List First) (b : Bool) → nat_eq first.pool pool ≡ b
        → ((b ≡ false) → (k : ℕ) × (other : First) × (slice_get firsts k ≡ Some other) × (other.pool ≡ pool) × (first_values firsts pool ≡ other.values))
        → (k : ℕ) × (other : First) × (slice_get (first ∷ firsts) k ≡ Some other) × (other.pool ≡ pool) × ((if b then first.values else first_values firsts pool) ≡ other.values)
    here first firsts true is rest = (0, first, refl, eqb-true first.pool pool is, refl)
    here first firsts false is rest = let r = rest refl in (suc r.0, r.1, r.2, r.3, r.4)

    go : (firsts : List First) (k : ℕ) → k < length (map (λ (f : First). f.pool) firsts) → get_or (map (λ (f : First). f.pool) firsts) k pool ≡ pool
        → (i : ℕ) × (first : First) × (slice_get firsts i ≡ Some first) × (first.pool ≡ pool) × (first_values firsts pool ≡ first.values)
    go [] k l e = absurd (omega (arith, l))
    go (first ∷ firsts) zero l e = here first firsts (nat_eq first.pool pool) refl (λ no. absurd (false≢true (sym no ∙ eq-eqb first.pool pool e)))
    go (first ∷ firsts) (suc k) l e = here first firsts (nat_eq first.pool pool) refl (λ no. go firsts k (omega (arith, l)) e)

-- ---- flows

-- an input, or a state output: what is linked to it has an object
abbrev pub WantsObject : Flow → Type 0
WantsObject BufferIn = Unit {0}
WantsObject StreamIn = Unit {0}
WantsObject StateIn = Unit {0}
WantsObject StateOut = Unit {0}
WantsObject BufferOut = ⊥
WantsObject StreamOut = ⊥

pub wants_input : (flow : Flow) → is_output flow ≡ false → WantsObject flow
wants_input BufferIn e = tt
wants_input StreamIn e = tt
wants_input StateIn e = tt
wants_input StateOut e = tt
wants_input BufferOut e = absurd (false≢true (sym e))
wants_input StreamOut e = absurd (false≢true (sym e))

source_writes : (flow source : Flow) → WantsObject flow → is_source_for flow source ≡ true → is_output source ≡ true
source_writes BufferIn BufferOut wants e = refl
source_writes BufferIn BufferIn wants e = absurd (false≢true e)
source_writes BufferIn StreamIn wants e = absurd (false≢true e)
source_writes BufferIn StreamOut wants e = absurd (false≢true e)
source_writes BufferIn StateIn wants e = absurd (false≢true e)
source_writes BufferIn StateOut wants e = absurd (false≢true e)
source_writes StreamIn StreamOut wants e = refl
source_writes StreamIn BufferIn wants e = absurd (false≢true e)
source_writes StreamIn BufferOut wants e = absurd (false≢true e)
source_writes StreamIn StreamIn wants e = absurd (false≢true e)
source_writes StreamIn StateIn wants e = absurd (false≢true e)
source_writes StreamIn StateOut wants e = absurd (false≢true e)
source_writes StateIn StateOut wants e = refl
source_writes StateIn BufferIn wants e = absurd (false≢true e)
source_writes StateIn BufferOut wants e = absurd (false≢true e)
source_writes StateIn StreamIn wants e = absurd (false≢true e)
source_writes StateIn StreamOut wants e = absurd (false≢true e)
source_writes StateIn StateIn wants e = absurd (false≢true e)
source_writes StateOut StateOut wants e = refl
source_writes StateOut BufferIn wants e = absurd (false≢true e)
source_writes StateOut BufferOut wants e = absurd (false≢true e)
source_writes StateOut StreamIn wants e = absurd (false≢true e)
source_writes StateOut StreamOut wants e = absurd (false≢true e)
source_writes StateOut StateIn wants e = absurd (false≢true e)
source_writes BufferOut source wants e = absurd wants
source_writes StreamOut source wants e = absurd wants

pub no_link : (flow : Flow) → WantsObject flow → IsLinkOf flow link.Nothing → ⊥
no_link BufferIn wants is = is
no_link StreamIn wants is = is
no_link StateIn wants is = is
no_link StateOut wants is = is
no_link BufferOut wants is = wants
no_link StreamOut wants is = wants

-- what is linked to a pool's first object is of a state
of_state : (flow : Flow) → IsLinkOf flow link.Initial → (flow ≡ StateIn) ⊎ (flow ≡ StateOut)
of_state StateIn is = inl refl
of_state StateOut is = inr refl
of_state BufferIn is = absurd is
of_state BufferOut is = absurd is
of_state StreamIn is = absurd is
of_state StreamOut is = absurd is

pub state_flow : (output : Bool) (flow : Flow) → flow_of State output ≡ Some flow → (flow ≡ StateIn) ⊎ (flow ≡ StateOut)
state_flow false flow e = inl (sym (same_Some StateIn flow e))
state_flow true flow e = inr (sym (same_Some StateOut flow e))

pub wants_state : (flow : Flow) → (flow ≡ StateIn) ⊎ (flow ≡ StateOut) → WantsObject flow
wants_state flow (inl e) = subst WantsObject (sym e) tt
wants_state flow (inr e) = subst WantsObject (sym e) tt

module _ (m : ModelTree) (s : Scenario) (sound : IsSound m) (scenario : IsScenario s) (values : HasValues m s) (supplied : Supplied m s) where
  -- an action has such a reference, and the reference is one of its type's, whose pool has its objects
  record IsWhole (a r : ℕ) (filled : Filled) : Type 0 where
    pub act : Act
    pub there : slice_get s.actions a ≡ Some act
    pub has : slice_get act.references r ≡ Some filled
    pub of : IsReferenceOf m act r filled
    pub pool : Pool
    pub is_pool : slice_get m.pools filled.pool ≡ Some pool
    pub object : pool.object ≡ of.reference.object

  whole : (a r : ℕ) (filled : Filled) → reference_at s.actions a r ≡ Some filled → IsWhole a r filled
  whole a r filled e =
      option_and_then_some (λ (x : Act). slice_get x.references r) (slice_get s.actions a) filled e
      (λ act there has.
      let of_type = values.acts a act there in
      let of = of_type.references r filled has in
      let p = served_pool m sound act.action act.instance r filled.pool of_type.type of_type.is of.pool in
      let named : slice_get of_type.type.references r ≡ Some of.reference = ap (option_and_then (λ (x : ActionTree). slice_get x.references r)) (sym of_type.is) ∙ of.is in
      let mapped : slice_get (map (λ (x : Reference). x.object) of_type.type.references) r ≡ Some of.reference.object =
      slice_get-map (λ (x : Reference). x.object) of_type.type.references r ∙ ap (option_map (λ (x : Reference). x.object)) named in
      let listed : slice_get (objects_of of_type.type) r ≡ Some of.reference.object =
      get_more (map (λ (x : Reference). x.object) of_type.type.references) (map (λ (x : Claim). x.object) of_type.type.claims) r of.reference.object mapped in
      record { act = act; there = there; has = has; of = of; pool = p.0; is_pool = p.1; object = same_Some p.0.object of.reference.object (sym p.2 ∙ listed) })

  -- an output's field without a value is none of its pool's objects
  written_past : (a r : ℕ) (filled : Filled) (field : ℕ) → reference_at s.actions a r ≡ Some filled → is_output filled.flow ≡ true → slice_get filled.values field ≡ None → pool_span m filled.pool field ≡ None
  written_past a r filled field e output none =
      let w = whole a r filled e in
      let are : AreObjectValues (slice_get m.objects w.pool.object) filled.values = subst (λ k. AreObjectValues (slice_get m.objects k) filled.values) (sym w.object) (w.of.output output) in
      no_span (pool_field m filled.pool field) (by_pool m filled.pool w.pool field w.is_pool ∙ past_fields (slice_get m.objects w.pool.object) filled.values field are none)

  written : (a r : ℕ) (filled : Filled) (field : ℕ) → reference_at s.actions a r ≡ Some filled → is_output filled.flow ≡ true → IsDecided (written_slot m a r filled field)
  written a r filled field e output =
      decided_or (slice_get filled.values field) (open_value (OfOutput a r field) (pool_span m filled.pool field))
      (λ none. nothing_open (OfOutput a r field) (pool_span m filled.pool field) (written_past a r filled field e output none))

  -- ---- first objects

  first_past : (pool field : ℕ) (values_of : List ℤ) → AreObjectValues (pool_object m pool) values_of → slice_get values_of field ≡ None → pool_span m pool field ≡ None
  first_past pool field values_of are none = no_span (pool_field m pool field) (by_object m (slice_get m.pools pool) field ∙ past_fields (pool_object m pool) values_of field are none)

  pub first : (a pool field : ℕ) → Uses s a pool → IsDecided (first_slot m s pool field)
  first a pool field uses =
      let f = first_found s.firsts pool ((scenario.firsts.used pool).1 (a, uses)) in
      let are : AreObjectValues (pool_object m pool) (first_values s.firsts pool) =
      subst (λ p. AreObjectValues (pool_object m p) (first_values s.firsts pool)) f.3 (subst (AreObjectValues (pool_object m f.1.pool)) (sym f.4) (values.firsts f.0 f.1 f.2)) in
      decided_or (slice_get (first_values s.firsts pool) field) (open_value (OfFirst pool field) (pool_span m pool field))
      (λ none. nothing_open (OfFirst pool field) (pool_span m pool field) (first_past pool field (first_values s.firsts pool) are none))

  uses_it : (a r : ℕ) (filled : Filled) → reference_at s.actions a r ≡ Some filled → (filled.flow ≡ StateIn) ⊎ (filled.flow ≡ StateOut) → Uses s a filled.pool
  uses_it a r filled e flow =
      let w = whole a r filled e in (
        filled.link,
        ⊎_elim
            (λ reads. inl (record { reference = r; act = w.act; filled = filled; is_act = w.there; is = w.has; of_flow = reads; of_pool = refl; linked = refl }))
            (λ writes. inr (record { reference = r; act = w.act; filled = filled; is_act = w.there; is = w.has; of_flow = writes; of_pool = refl; linked = refl })) flow,
      )

  -- ---- links

  by_link : (a r : ℕ) (filled : Filled) (to : Link) (field : ℕ) → reference_at s.actions a r ≡ Some filled → filled.link ≡ to → WantsObject filled.flow → IsDecided (linked_slot m s filled.pool to field)
  by_link a r filled link.Nothing field e is wants = absurd (no_link filled.flow wants (subst (IsLinkOf filled.flow) is (scenario.links a r filled e).kind))
  by_link a r filled link.Initial field e is wants = first a filled.pool field (uses_it a r filled e (of_state filled.flow (subst (IsLinkOf filled.flow) is (scenario.links a r filled e).kind)))
  by_link a r filled (link.Act b q) field e is wants =
      let from = supplied.sources a r b q filled e is in
      let at : output_values (reference_at s.actions b q) ≡ from.source.values = ap output_values from.is in
      let output = source_writes filled.flow from.source.flow wants from.fits in
      decided_or (slice_get (output_values (reference_at s.actions b q)) field) (open_value (OfOutput b q field) (pool_span m filled.pool field))
      (λ none. nothing_open (OfOutput b q field) (pool_span m filled.pool field)
      (subst (λ p. pool_span m p field ≡ None) from.pool (written_past b q from.source field from.is output (ap (λ vs. slice_get vs field) (sym at) ∙ none))))

  linked : (a r : ℕ) (filled : Filled) (field : ℕ) → reference_at s.actions a r ≡ Some filled → WantsObject filled.flow → IsDecided (linked_slot m s filled.pool filled.link field)
  linked a r filled field e wants = by_link a r filled filled.link field e refl wants

  -- ---- actions

  module _ (a : ℕ) (act : Act) (there : slice_get s.actions a ≡ Some act) where
    abbrev typed : IsActOf m act
    typed = values.acts a act there

    at_it : (r : ℕ) (filled : Filled) → slice_get act.references r ≡ Some filled → reference_at s.actions a r ≡ Some filled
    at_it r filled has = ap (option_and_then (λ (x : Act). slice_get x.references r)) there ∙ has

    own : (field : ℕ) → IsDecided (act_slot m s a act (Own field))
    own field =
        decided_or (slice_get act.fields field) (open_value (OfAct a field) (field_span (action_field m act.action field)))
        (λ none. nothing_open (OfAct a field) (field_span (action_field m act.action field))
        (no_span (action_field m act.action field) (ap (option_and_then (λ (x : ActionTree). slice_get x.fields field)) typed.is ∙ zip_past IsValueOf typed.type.fields act.fields field typed.fields none)))

    flow : (r field : ℕ) (filled : Option Filled) → slice_get act.references r ≡ filled → IsDecided (flow_slot m s a r filled field)
    flow r field None is = tt
    flow r field (Some filled) is =
        either (is_output filled.flow) (written_slot m a r filled field) (linked_slot m s filled.pool filled.link field)
        (λ output. written a r filled field (at_it r filled is) output)
        (λ input. linked a r filled field (at_it r filled is) (wants_input filled.flow input))

    by_flow : (f : Flow) (to : Link) → IsLinkOf f to → IsDecided (initial_by f to)
    by_flow StateIn link.Nothing kind = kind
    by_flow StateIn link.Initial kind = tt
    by_flow StateIn (link.Act b q) kind = tt
    by_flow StateOut to kind = tt
    by_flow BufferIn to kind = tt
    by_flow BufferOut to kind = tt
    by_flow StreamIn to kind = tt
    by_flow StreamOut to kind = tt

    initial : (r : ℕ) (filled : Option Filled) → slice_get act.references r ≡ filled → IsDecided (initial_slot filled)
    initial r None is = tt
    initial r (Some filled) is = by_flow filled.flow filled.link (scenario.links a r filled (at_it r filled is)).kind

    -- no pool serves a claim that the type doesn't have
    no_pool : (claim : ℕ) (pool : Option ℕ) → slice_get typed.type.claims claim ≡ None → served m act.action act.instance (length typed.type.references + claim) ≡ pool → pool ≡ None
    no_pool claim None none e = refl
    no_pool claim (Some p) none e =
        let w = served_pool m sound act.action act.instance (length typed.type.references + claim) p typed.type typed.is e in
        absurd (none-some w.0.object (sym (behind claim none) ∙ w.2))
      where
        past : {A : Type 0} (xs ys : List A) (k : ℕ) → slice_get ys k ≡ None → slice_get (xs ++ ys) (length xs + k) ≡ None
        past [] ys k none = let e : k ≡ 0 + k = omega arith in subst (λ i. slice_get ys i ≡ None) e none
        past (x ∷ xs) ys k none = let e : suc (length xs + k) ≡ suc (length xs) + k = omega arith in subst (λ i. slice_get (x ∷ xs ++ ys) i ≡ None) e (past xs ys k none)

        long : {A B : Type 0} (f : A → B) (xs : List A) → length (map f xs) ≡ length xs
        long f [] = refl
        long f (x ∷ xs) = ap suc (long f xs)

        behind : (claim : ℕ) → slice_get typed.type.claims claim ≡ None → slice_get (objects_of typed.type) (length typed.type.references + claim) ≡ None
        behind claim none =
            subst (λ k. slice_get (objects_of typed.type) (k + claim) ≡ None) (long (λ (x : Reference). x.object) typed.type.references)
            (past (map (λ (x : Reference). x.object) typed.type.references) (map (λ (x : Claim). x.object) typed.type.claims) claim
            (slice_get-map (λ (x : Claim). x.object) typed.type.claims claim ∙ ap (option_map (λ (x : Claim). x.object)) none))

    by_claimed : (claim : ℕ) (claimed : Option Claimed) → slice_get act.claims claim ≡ claimed → option_map (λ (c : Claimed). pos c.instance) claimed ≡ None → hull (claim_instances m act claim) ≡ None
    by_claimed claim (Some claimed) is e = absurd (none-some (pos claimed.instance) (sym e))
    by_claimed claim None is e =
        let past = as_long_past typed.type.claims act.claims claim typed.many_claims is in
        let none = no_pool claim (served m act.action act.instance (length typed.type.references + claim)) past refl in
        let unserved : served_claim m act.action act.instance claim ≡ None = ap (option_and_then (λ (x : ActionTree). served m act.action act.instance (length x.references + claim))) typed.is ∙ none in
        ap (λ o. hull (instances_in (option_and_then (λ pool. slice_get m.pools pool) o))) unserved

    pub claim : (c : ℕ) → IsDecided (claim_slot m a act c)
    claim c =
        decided_or (option_map (λ (claimed : Claimed). pos claimed.instance) (slice_get act.claims c)) (open_value (Instance a c) (hull (claim_instances m act c)))
        (λ none. nothing_open (Instance a c) (hull (claim_instances m act c)) (by_claimed c (slice_get act.claims c) refl none))

    claim_past : (c field : ℕ) (claimed : Option Claimed) → slice_get act.claims c ≡ claimed → slice_get (claim_values claimed) field ≡ None → claim_field m act.action c field ≡ None
    claim_past c field None is none =
        let past = as_long_past typed.type.claims act.claims c typed.many_claims is in
        ap (option_and_then (λ (x : Claim). object_field m x.object field)) (ap (option_and_then (λ (x : ActionTree). slice_get x.claims c)) typed.is ∙ past)
    claim_past c field (Some claimed) is none =
        let of = as_long_at typed.type.claims act.claims c claimed typed.many_claims is in
        let whole_claim = typed.claims c of.0 claimed of.1 is in
        ap (option_and_then (λ (x : Claim). object_field m x.object field)) (ap (option_and_then (λ (x : ActionTree). slice_get x.claims c)) typed.is ∙ of.1)
        ∙ past_fields (slice_get m.objects of.0.object) claimed.values field whole_claim.values none

    pub claim_value : (c field : ℕ) → IsDecided (claim_field_slot m a act c field)
    claim_value c field =
        decided_or (slice_get (claim_values (slice_get act.claims c)) field) (open_value (OfClaim a c field) (field_span (claim_field m act.action c field)))
        (λ none. nothing_open (OfClaim a c field) (field_span (claim_field m act.action c field)) (no_span (claim_field m act.action c field) (claim_past c field (slice_get act.claims c) refl none)))

    pub of_act : (slot : SlotTree) → IsDecided (act_slot m s a act slot)
    of_act (Own field) = own field
    of_act (Object reference field) = flow reference field (slice_get act.references reference) refl
    of_act (Initial-of reference) = initial reference (slice_get act.references reference) refl
    of_act (ClaimId c) = claim c
    of_act (ClaimField c field) = claim_value c field
    of_act (Prev field) = tt
    of_act IsFirst = tt
    of_act Id = tt
    of_act (Index level) = tt
    of_act (Local local) = tt
    of_act (Through handle slot) = tt
    of_act (Outer slot) = tt

    pub of_resource : (c : ℕ) (slot : SlotTree) → IsDecided (resource_slot m a act c slot)
    of_resource c (Own field) = claim_value c field
    of_resource c Id = claim c
    of_resource c (Object reference field) = tt
    of_resource c (Initial-of reference) = tt
    of_resource c (ClaimId d) = tt
    of_resource c (ClaimField d field) = tt
    of_resource c (Prev field) = tt
    of_resource c IsFirst = tt
    of_resource c (Index level) = tt
    of_resource c (Local local) = tt
    of_resource c (Through handle slot) = tt
    of_resource c (Outer slot) = tt

  -- ---- objects

  -- what refers to a pool of states is of a state
  by_kind : (a r : ℕ) (filled : Filled) (object : ObjectTree) → reference_at s.actions a r ≡ Some filled → pool_object m filled.pool ≡ Some object → object.kind ≡ State → (filled.flow ≡ StateIn) ⊎ (filled.flow ≡ StateOut)
  by_kind a r filled object e of kind =
      let w = whole a r filled e in
      let there : slice_get m.objects w.of.reference.object ≡ Some object =
      subst (λ k. slice_get m.objects k ≡ Some object) w.object (ap (option_and_then (λ (p : Pool). slice_get m.objects p.object)) (sym w.is_pool) ∙ of) in
      let flow_is : flow_of object.kind w.of.reference.output ≡ Some filled.flow =
      ap (option_and_then (λ (o : ObjectTree). flow_of o.kind w.of.reference.output)) (sym there) ∙ w.of.flow in
      state_flow w.of.reference.output filled.flow (subst (λ k. flow_of k w.of.reference.output ≡ Some filled.flow) kind flow_is)

  pub of_output : (a r : ℕ) (filled : Filled) (object : ObjectTree) → reference_at s.actions a r ≡ Some filled → is_output filled.flow ≡ true → pool_object m filled.pool ≡ Some object
      → (slot : SlotTree) → IsObjectSlot object slot → IsDecided (output_slot m s a r filled slot)
  of_output a r filled object e output of (Own field) is = written a r filled field e output
  of_output a r filled object e output of (Prev field) is = linked a r filled field e (wants_state filled.flow (by_kind a r filled object e of is.0))
  of_output a r filled object e output of IsFirst is = tt
  of_output a r filled object e output of Id is = tt
  of_output a r filled object e output of (Object reference field) is = tt
  of_output a r filled object e output of (Initial-of reference) is = tt
  of_output a r filled object e output of (ClaimId c) is = tt
  of_output a r filled object e output of (ClaimField c field) is = tt
  of_output a r filled object e output of (Index level) is = tt
  of_output a r filled object e output of (Local local) is = tt
  of_output a r filled object e output of (Through handle slot) is = tt
  of_output a r filled object e output of (Outer slot) is = tt

  is_state_kind : (object : ObjectTree) → has_kind State (Some object) ≡ true → object.kind ≡ State
  is_state_kind object e = go object.kind e
    where
      go : (kind : ObjectKind) → same_kind kind State ≡ true → kind ≡ State
      go State e = refl
      go Buffer e = absurd (false≢true e)
      go Stream e = absurd (false≢true e)
      go Resource e = absurd (false≢true e)

  pub of_first : (a r : ℕ) (filled : Filled) (object : ObjectTree) → reference_at s.actions a r ≡ Some filled → is_state_pool m filled.pool ≡ true → pool_object m filled.pool ≡ Some object
      → (slot : SlotTree) → IsDecided (first_object_slot m s filled.pool slot)
  of_first a r filled object e state of (Own field) =
      first a filled.pool field (uses_it a r filled e (by_kind a r filled object e of (is_state_kind object (ap (has_kind State) (sym of) ∙ state))))
  of_first a r filled object e state of IsFirst = tt
  of_first a r filled object e state of (Prev field) = tt
  of_first a r filled object e state of Id = tt
  of_first a r filled object e state of (Object reference field) = tt
  of_first a r filled object e state of (Initial-of reference) = tt
  of_first a r filled object e state of (ClaimId c) = tt
  of_first a r filled object e state of (ClaimField c field) = tt
  of_first a r filled object e state of (Index level) = tt
  of_first a r filled object e state of (Local local) = tt
  of_first a r filled object e state of (Through handle slot) = tt
  of_first a r filled object e state of (Outer slot) = tt
