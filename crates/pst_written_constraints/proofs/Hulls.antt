-- The spans of blanks hold the values of all options.
use Rattle.std.proofs.Common.{◌≡◌, ℕ, zero, suc, ◌-◌, ◌<◌, ℤ, pos, ◌≤ℤ◌, List, [], ◌∷◌, map, get_or, IfSome, Bool, true, false, nat_eq, if◌then◌else◌, Option, Some, None, refl, sym, ap, ap₂, ◌∙◌, subst, arith, append-nil}
use Rattle.std.specs.Prelude.{slice_get, flat_map, option_to_list}
use Rattle.std.specs.Option.{option_map, option_and_then}
use Rattle.std.proofs.lemmas.Int.{ints}
use Rattle.std.proofs.lemmas.List.Elements.{All-map}
use Rattle.std.proofs.lemmas.Option.{option_and_then_some}
use Rattle.pst_expr.specs.declared.ranges.Span.{Span}
use Rattle.pst_expr.specs.Spans.{values, size_of}
use Rattle.pst_expr.specs.Value.{variable_value}
use Rattle.pst_expr.specs.Laws.{DomainsListValues}
use Rattle.pst_expr.specs.Spans.{IsDomain}
use Rattle.pst_domain.specs.Bounds.{Holds, AreUpright, bound_of as bound_at}
use Rattle.pst_model.specs.declared.action.Field.{Field}
use Rattle.pst_model.specs.declared.action.Claim.{Claim}
use Rattle.pst_model.specs.declared.model.Pool.{Pool}
use Rattle.pst_model.specs.ConstraintTree.{Own, Id}
use Rattle.pst_model.specs.ModelTree.{ModelTree, ActionTree, ObjectTree}
use Rattle.pst_model.specs.Sound.{IsSound, IsSoundAction, IsSoundObject, IsSoundField}
use Rattle.pst_scen.specs.declared.act.Act.{Act}
use Rattle.pst_scen.specs.declared.act.Filled.{Filled}
use Rattle.pst_scen.specs.declared.act.Claimed.{Claimed}
use Rattle.pst_scen.specs.declared.scenario.Scenario.{Scenario}
use Rattle.pst_scen.specs.Scenarios.{reference_at}
use Rattle.pst_legal.specs.Types.{action_field, object_field, action_claim, served_claim}
use Rattle.pst_legal.specs.Blanks.{Blank, Instance, OfFirst, OfAct, OfOutput, OfClaim, instances_in, claim_instances, pool_field, claim_field, domain_in, domain_of, options, used_state_pools}
use Rattle.pst_legal.specs.Slots.{first_values, claim_values, pool_span, maybe_act_slot}
use Rattle.pst_legal.specs.Standing.{bound_of, value_or, open_value, hull, field_span}
use Rattle.pst_legal.specs.ValueReading.{empty_first, with_firsts}
use Rattle.pst_built.proofs.SoundActs.{all_get}
use Rattle.pst_built.specs.Known.{Allows}
use Rattle.pst_built.proofs.Went.{value_of}
use Rattle.pst_read_domains.proofs.Hulls.{in_hull}
use Rattle.pst_few_places.specs.Fillings.{all_blanks}
use Rattle.pst_blank_values.specs.Values.{value_of_option, blank_values, IsBareAct, AreBare}
use Rattle.pst_constraint_sites.specs.Sites.{maybe_output_slot, maybe_resource_slot}
use Rattle.pst_written_constraints.specs.Spans.{blank_bound, blank_hulls, HoldOptions}

-- ---- of a bare scenario the slot of a blank has the span of its domain

bound_of_open : (blank : Blank) (span : Option Span) → bound_of (open_value blank span) ≡ span
bound_of_open blank None = refl
bound_of_open blank (Some span) = refl

open_bound : (v : Option ℤ) (blank : Blank) (span : Option Span) → v ≡ None → bound_of (value_or v (open_value blank span)) ≡ span
open_bound v blank span e = ap (λ o. bound_of (value_or o (open_value blank span))) e ∙ bound_of_open blank span

no_firsts : (pools : List ℕ) (pool : ℕ) → first_values (map empty_first pools) pool ≡ []
no_firsts [] pool = refl
no_firsts (p ∷ pools) pool = by (nat_eq p pool) (no_firsts pools pool)
  where
    by : (b : Bool) → first_values (map empty_first pools) pool ≡ [] → (if b then [] else first_values (map empty_first pools) pool) ≡ []
    by true rest = refl
    by false rest = rest

module _ (m : ModelTree) (u : Scenario) (bare : AreBare u.actions) where
  abbrev start : Scenario
  start = with_firsts m u

  abbrev Same : Blank → Type 0
  Same blank = blank_bound m start blank ≡ hull (domain_of m u.actions blank)

  claim_same : (act claim : ℕ) (o : Option Act) → slice_get u.actions act ≡ o
      → bound_of (maybe_resource_slot m act o claim Id) ≡ hull (flat_map (λ (a : Act). claim_instances m a claim) (option_to_list o))
  claim_same act claim None is = refl
  claim_same act claim (Some x) is =
      let b = all_get IsBareAct u.actions act x bare is in
      open_bound (option_map (λ (c : Claimed). pos c.instance) (slice_get x.claims claim)) (Instance act claim) (hull (claim_instances m x claim)) (ap (λ cs. option_map (λ (c : Claimed). pos c.instance) (slice_get cs claim)) b.claims)
      ∙ ap hull (sym (append-nil (claim_instances m x claim)))

  own_same : (act field : ℕ) (o : Option Act) → slice_get u.actions act ≡ o
      → bound_of (maybe_act_slot m start act o (Own field)) ≡ hull (domain_in (option_and_then (λ (a : Act). action_field m a.action field) o))
  own_same act field None is = refl
  own_same act field (Some x) is =
      let b = all_get IsBareAct u.actions act x bare is in
      open_bound (slice_get x.fields field) (OfAct act field) (field_span (action_field m x.action field)) (ap (λ vs. slice_get vs field) b.fields)

  resource_same : (act claim field : ℕ) (o : Option Act) → slice_get u.actions act ≡ o
      → bound_of (maybe_resource_slot m act o claim (Own field)) ≡ hull (domain_in (option_and_then (λ (a : Act). claim_field m a.action claim field) o))
  resource_same act claim field None is = refl
  resource_same act claim field (Some x) is =
      let b = all_get IsBareAct u.actions act x bare is in
      open_bound (slice_get (claim_values (slice_get x.claims claim)) field) (OfClaim act claim field) (field_span (claim_field m x.action claim field)) (ap (λ cs. slice_get (claim_values (slice_get cs claim)) field) b.claims)

  output_same : (act reference field : ℕ) (o : Option Filled) → reference_at u.actions act reference ≡ o
      → bound_of (maybe_output_slot m start act reference o (Own field)) ≡ hull (domain_in (option_and_then (λ (f : Filled). pool_field m f.pool field) o))
  output_same act reference field None is = refl
  output_same act reference field (Some f) is =
      let empty : f.values ≡ [] =
      option_and_then_some {P = f.values ≡ []} (λ (x : Act). slice_get x.references reference) (slice_get u.actions act) f is
      (λ x at has. all_get (λ (g : Filled). g.values ≡ []) x.references reference f (all_get IsBareAct u.actions act x bare at).references has) in
      open_bound (slice_get f.values field) (OfOutput act reference field) (pool_span m f.pool field) (ap (λ vs. slice_get vs field) empty)

  blank_same : (blank : Blank) → Same blank
  blank_same (Instance act claim) = claim_same act claim (slice_get u.actions act) refl
  blank_same (OfFirst pool field) =
      open_bound (slice_get (first_values (map empty_first (used_state_pools m u.actions)) pool) field) (OfFirst pool field) (pool_span m pool field)
      (ap (λ vs. slice_get vs field) (no_firsts (used_state_pools m u.actions) pool))
  blank_same (OfAct act field) = own_same act field (slice_get u.actions act) refl
  blank_same (OfOutput act reference field) = output_same act reference field (reference_at u.actions act reference) refl
  blank_same (OfClaim act claim field) = resource_same act claim field (slice_get u.actions act) refl

  blanks_same : (blanks : List Blank) → map (blank_bound m start) blanks ≡ map (λ blank. hull (domain_of m u.actions blank)) blanks
  blanks_same [] = refl
  blanks_same (blank ∷ blanks) = ap₂ (λ a b. a ∷ b) (blank_same blank) (blanks_same blanks)

-- ---- which holds the values of all options

module _ (listed : DomainsListValues) (m : ModelTree) (sound : IsSound m) (u : Scenario) where
  abbrev acts : List Act
  acts = u.actions

  field_holds : (o : Option Field) → ((field : Field) → o ≡ Some field → IsDomain field.domain) → (k : ℕ) → k < size_of (domain_in o) → Allows (hull (domain_in o)) (get_or (values (domain_in o)) k (pos 0))
  field_holds None each k l = absurd (omega (arith, l))
  field_holds (Some field) each k l = let domain = each field refl in in_hull field.domain domain (get_or (values field.domain) k (pos 0)) (value_of listed field k domain l)

  abbrev AreOf : Option Field → Type 0
  AreOf o = (field : Field) → o ≡ Some field → IsDomain field.domain

  object_domain : (n field : ℕ) → AreOf (object_field m n field)
  object_domain n field x is =
      option_and_then_some {P = IsDomain x.domain} (λ (object : ObjectTree). slice_get object.fields field) (slice_get m.objects n) x is
      (λ object at has. (all_get IsSoundField object.fields field x (all_get IsSoundObject m.objects n object sound.objects at).fields has).domain)

  pool_domain : (pool field : ℕ) → AreOf (pool_field m pool field)
  pool_domain pool field x is = option_and_then_some {P = IsDomain x.domain} (λ (p : Pool). object_field m p.object field) (slice_get m.pools pool) x is (λ p at has. object_domain p.object field x has)

  action_domain : (action field : ℕ) → AreOf (action_field m action field)
  action_domain action field x is =
      option_and_then_some {P = IsDomain x.domain} (λ (type : ActionTree). slice_get type.fields field) (slice_get m.actions action) x is
      (λ type at has. (all_get IsSoundField type.fields field x (all_get (IsSoundAction m) m.actions action type sound.actions at).fields has).domain)

  claim_domain : (action claim field : ℕ) → AreOf (claim_field m action claim field)
  claim_domain action claim field x is = option_and_then_some {P = IsDomain x.domain} (λ (c : Claim). object_field m c.object field) (action_claim m action claim) x is (λ c at has. object_domain c.object field x has)

  through : {A : Type 0} (f : A → Option Field) → ((a : A) → AreOf (f a)) → (o : Option A) → AreOf (option_and_then f o)
  through f each o x is = option_and_then_some {P = IsDomain x.domain} f o x is (λ a at has. each a x has)

  -- the instances of a pool
  numbers_hold : (o : Option Pool) (k : ℕ) → k < size_of (instances_in o) → Allows (hull (instances_in o)) (pos k)
  numbers_hold None k l = absurd (omega (arith, l))
  numbers_hold (Some pool) k l = by (nat_eq pool.size 0) refl l
    where
      by : (b : Bool) → nat_eq pool.size 0 ≡ b → k < size_of (if b then [] else record { low = pos 0; high = pos (pool.size - 1) } ∷ [])
          → Allows (hull (if b then [] else record { low = pos 0; high = pos (pool.size - 1) } ∷ [])) (pos k)
      by true e h = absurd (omega (arith, h))
      by false e h = (omega (arith, ints), omega (arith, ints, h))

  instance_holds : (act claim k : ℕ) (o : Option Act) → k < size_of (flat_map (λ (a : Act). claim_instances m a claim) (option_to_list o)) → Allows (hull (flat_map (λ (a : Act). claim_instances m a claim) (option_to_list o))) (pos k)
  instance_holds act claim k None l = absurd (omega (arith, l))
  instance_holds act claim k (Some x) l =
      let same = append-nil (claim_instances m x claim) in
      subst (λ spans. Allows (hull spans) (pos k)) (sym same)
      (numbers_hold (option_and_then (λ pool. slice_get m.pools pool) (served_claim m x.action x.instance claim)) k (subst (λ spans. k < size_of spans) same l))

  blank_holds : (blank : Blank) (k : ℕ) → k < options m acts blank → Allows (hull (domain_of m acts blank)) (value_of_option m acts blank k)
  blank_holds (Instance act claim) k l = instance_holds act claim k (slice_get acts act) l
  blank_holds (OfFirst pool field) k l = field_holds (pool_field m pool field) (pool_domain pool field) k l
  blank_holds (OfAct act field) k l =
      field_holds (option_and_then (λ (a : Act). action_field m a.action field) (slice_get acts act)) (through (λ (a : Act). action_field m a.action field) (λ a. action_domain a.action field) (slice_get acts act)) k l
  blank_holds (OfOutput act reference field) k l =
      field_holds (option_and_then (λ (f : Filled). pool_field m f.pool field) (reference_at acts act reference)) (through (λ (f : Filled). pool_field m f.pool field) (λ f. pool_domain f.pool field) (reference_at acts act reference)) k l
  blank_holds (OfClaim act claim field) k l =
      field_holds (option_and_then (λ (a : Act). claim_field m a.action claim field) (slice_get acts act)) (through (λ (a : Act). claim_field m a.action claim field) (λ a. claim_domain a.action claim field) (slice_get acts act)) k l

  abbrev hulls : List Blank → List (Option Span)
  hulls blanks = map (λ blank. hull (domain_of m acts blank)) blanks

  each_within : (blanks : List Blank) (chosen : List ℕ) → ((i : ℕ) (blank : Blank) (k : ℕ) → slice_get blanks i ≡ Some blank → slice_get chosen i ≡ Some k → k < options m acts blank)
      → (i : ℕ) → Holds (bound_at (hulls blanks) i) (variable_value (blank_values m acts blanks chosen) i)
  each_within [] chosen below i = tt
  each_within (blank ∷ blanks) [] below i = tt
  each_within (blank ∷ blanks) (k ∷ chosen) below zero = blank_holds blank k (below zero blank k refl refl)
  each_within (blank ∷ blanks) (k ∷ chosen) below (suc i) = each_within blanks chosen (λ j b n is at. below (suc j) b n is at) i

  -- no span is reversed
  abbrev IsUprightIf : Option Span → Type 0
  IsUprightIf bound = IfSome bound (λ s. s.low ≤ℤ s.high)

  domain_upright : (spans : List Span) → IsDomain spans → IsUprightIf (hull spans)
  domain_upright [] domain = tt
  domain_upright (s ∷ more) domain =
      let up : s.low ≤ℤ s.high = domain.upright 0 s (omega arith) in
      let inside = in_hull (s ∷ more) domain s.low (0, s, omega arith, refl, (omega (arith, ints), up)) in
      let high = inside.1 in
      high

  field_upright : (o : Option Field) → AreOf o → IsUprightIf (hull (domain_in o))
  field_upright None each = tt
  field_upright (Some field) each = domain_upright field.domain (each field refl)

  numbers_upright : (o : Option Pool) → IsUprightIf (hull (instances_in o))
  numbers_upright None = tt
  numbers_upright (Some pool) = by (nat_eq pool.size 0)
    where
      by : (b : Bool) → IsUprightIf (hull (if b then [] else record { low = pos 0; high = pos (pool.size - 1) } ∷ []))
      by true = tt
      by false = omega (arith, ints)

  instance_upright : (claim : ℕ) (o : Option Act) → IsUprightIf (hull (flat_map (λ (a : Act). claim_instances m a claim) (option_to_list o)))
  instance_upright claim None = tt
  instance_upright claim (Some x) =
      subst (λ spans. IsUprightIf (hull spans)) (sym (append-nil (claim_instances m x claim)))
      (numbers_upright (option_and_then (λ pool. slice_get m.pools pool) (served_claim m x.action x.instance claim)))

  blank_upright : (blank : Blank) → IsUprightIf (hull (domain_of m acts blank))
  blank_upright (Instance act claim) = instance_upright claim (slice_get acts act)
  blank_upright (OfFirst pool field) = field_upright (pool_field m pool field) (pool_domain pool field)
  blank_upright (OfAct act field) =
      field_upright (option_and_then (λ (a : Act). action_field m a.action field) (slice_get acts act)) (through (λ (a : Act). action_field m a.action field) (λ a. action_domain a.action field) (slice_get acts act))
  blank_upright (OfOutput act reference field) =
      field_upright (option_and_then (λ (f : Filled). pool_field m f.pool field) (reference_at acts act reference)) (through (λ (f : Filled). pool_field m f.pool field) (λ f. pool_domain f.pool field) (reference_at acts act reference))
  blank_upright (OfClaim act claim field) =
      field_upright (option_and_then (λ (a : Act). claim_field m a.action claim field) (slice_get acts act)) (through (λ (a : Act). claim_field m a.action claim field) (λ a. claim_domain a.action claim field) (slice_get acts act))

  pub hold : AreBare u.actions → (spans : List (Option Span)) → spans ≡ map (blank_bound m (with_firsts m u)) (all_blanks m u) → HoldOptions m u spans
  hold bare spans is =
      let each : spans ≡ blank_hulls m u = is ∙ blanks_same m u bare (all_blanks m u) in
      let upright : AreUpright (blank_hulls m u) = All-map IsUprightIf (λ blank. hull (domain_of m acts blank)) (all_blanks m u) (λ k d l. blank_upright (get_or (all_blanks m u) k d)) in
      record {
        each = each;
        upright = subst AreUpright (sym each) upright;
        within = λ chosen options i l. subst (λ xs. Holds (bound_at xs i) (variable_value (blank_values m u.actions (all_blanks m u) chosen) i)) (sym each) (each_within (all_blanks m u) chosen options.below i);
      }
