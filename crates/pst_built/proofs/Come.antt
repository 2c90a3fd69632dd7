-- What the values of an action come to: each in its domain.
use Rattle.std.proofs.Common.{◌≡◌, ℕ, zero, suc, ◌+◌, ◌-◌, ◌<◌, ℤ, pos, List, [], ◌∷◌, ◌++◌, map, length, Bool, true, false, nat_eq, if◌then◌else◌, Option, Some, None, refl, sym, ap, ◌∙◌, subst, arith, append_assoc, append-nil, length-append}
use Rattle.std.specs.Prelude.{slice_get, flat_map, option_to_list}
use Rattle.std.specs.List.{enumerate_from, range_with_len}
use Rattle.std.specs.Option.{option_and_then, unwrap_or}
use Rattle.std.proofs.lemmas.Bool.{eq-eqb, false≢true}
use Rattle.std.proofs.lemmas.Int.{ints}
use Rattle.std.proofs.lemmas.List.{map-id, length-map}
use Rattle.std.proofs.lemmas.Option.{none-some, same_Some, slice_get_within}
use Rattle.pst_expr.specs.Spans.{size_of}
use Rattle.pst_expr.specs.Laws.{DomainsListValues}
use Rattle.pst_model.specs.declared.action.Claim.{Claim}
use Rattle.pst_model.specs.declared.model.Pool.{Pool}
use Rattle.pst_model.specs.declared.object.ObjectKind.TheVariants.{Resource}
use Rattle.pst_model.specs.ModelTree.{ModelTree, ActionTree, ObjectTree}
use Rattle.pst_model.specs.Sound.{IsSound, IsSoundAction, IsSoundObject, IsSoundField, IsSoundClaim}
use Rattle.pst_scen.specs.declared.act.Act.{Act}
use Rattle.pst_scen.specs.declared.act.Filled.{Filled}
use Rattle.pst_scen.specs.declared.act.Claimed.{Claimed}
use Rattle.pst_scen.specs.declared.scenario.Scenario.{Scenario}
use Rattle.pst_legal.specs.Types.{type_of, action_field, object_field, action_claim, served_claim, pool_object, is_output}
use Rattle.pst_legal.specs.Fits.{AreObjectValues, IsReferenceOf, IsClaimOf, IsActOf}
use Rattle.pst_legal.specs.Blanks.{Instance, OfAct, OfOutput, OfClaim, places, fields_of, claims_of, act_fields, instance_blanks, output_blanks, resource_blanks, act_blanks, instances_in, claim_instances, pool_field, claim_field, domain_in, domain_of, option_value}
use Rattle.pst_legal.specs.SupplyReading.{alter}
use Rattle.pst_legal.specs.ValueReading.{is_lock, claimed_as, with_claim, act_with_value, filled_with_value, claimed_with_value, with_output_value, with_claim_value}
use Rattle.pst_built.proofs.SoundActs.{all_get, some_and}
use Rattle.pst_built.proofs.Lists.{get_below, get_mapped, zipped}
use Rattle.pst_built.proofs.Blanks.{Steps, at_length, alter_at}
use Rattle.pst_built.proofs.ReachedValues.{pool_field_is}
use Rattle.pst_built.proofs.Went.{AreDomains}
use Rattle.pst_built.proofs.Back.{steps_cut, values_come, rows_back}
use Rattle.pst_built.proofs.Filled.{all_domains}
use Rattle.pst_built.proofs.Fresh.{IsFresh}
use Rattle.pst_built.proofs.Served.{IsOpenReference, open_is, as_many}

pub object_domains : (m : ModelTree) → IsSound m → (n : ℕ) (object : ObjectTree) → slice_get m.objects n ≡ Some object → AreDomains object.fields
object_domains m sound n object is =
    let whole = all_get IsSoundObject m.objects n object sound.objects is in
    all_domains object.fields (λ k field at. all_get IsSoundField object.fields k field whole.fields at)

-- the pool of a claim, where it has an instance
by_pool : (o : Option Pool) (k : ℕ) → k < size_of (instances_in o) → (pool : Pool) × (o ≡ Some pool) × (k < pool.size)
by_pool None k l = absurd (omega (arith, l))
by_pool (Some pool) k l = (pool, refl, by (nat_eq pool.size 0) refl l)
  where
    by : (b : Bool) → nat_eq pool.size 0 ≡ b → k < size_of (if b then [] else record { low = pos 0; high = pos (pool.size - 1) } ∷ []) → k < pool.size
    by true e h = absurd (omega (arith, h))
    by false e h =
        let some : pool.size ≡ 0 → ⊥ = λ z. false≢true (sym e ∙ eq-eqb pool.size 0 z) in
        small pool.size k some h
      where
        small : (size k : ℕ) → (size ≡ 0 → ⊥) → k < size_of (record { low = pos 0; high = pos (size - 1) } ∷ []) → k < size
        small zero k some h = absurd (some refl)
        small (suc size) k some h = omega (arith, ints, h)

by_served : (m : ModelTree) (o : Option ℕ) (k : ℕ) → k < size_of (instances_in (option_and_then (λ pool. slice_get m.pools pool) o)) → (p : ℕ) × (pool : Pool) × (o ≡ Some p) × (slice_get m.pools p ≡ Some pool) × (k < pool.size)
by_served m None k l = absurd (omega (arith, l))
by_served m (Some p) k l = let x = by_pool (slice_get m.pools p) k l in (p, x.0, refl, x.1, x.2)

-- a claim of that number, before its resource's values
pub record IsClaimRead (m : ModelTree) (x : Act) (j : ℕ) (c : Claimed) : Type 0 where
  pub pool : Pool
  pub served : served_claim m x.action x.instance j ≡ Some c.pool
  pub is : slice_get m.pools c.pool ≡ Some pool
  pub within : c.instance < pool.size
  pub lock : c.lock ≡ is_lock (action_claim m x.action j)
  pub values : c.values ≡ []

-- an action with its claims
abbrev pub with_claims : Act → List Claimed → Act
with_claims x held = record { action = x.action; instance = x.instance; node = x.node; fields = []; references = x.references; claims = held }

module _ (listed : DomainsListValues) (m : ModelTree) (sound : IsSound m) (t : Scenario) (pre post : List Act) (x : Act) (fresh : IsFresh m x) where
  abbrev a : ℕ
  a = length pre

  abbrev type : ActionTree
  type = fresh.concrete.type

  abbrev at : Act → Scenario
  at y = record t { actions = pre ++ y ∷ post }

  here : (y : Act) → slice_get (pre ++ y ∷ post) a ≡ Some y
  here y = at_length pre post y

  put_act : (f : Act → Act) (y : Act) → record t { actions = alter f a (pre ++ y ∷ post) } ≡ at (f y)
  put_act f y = ap (λ acts. record t { actions = acts }) (alter_at f pre post y)

  -- ---- claims

  abbrev claiming : List Claimed → Act
  claiming known = record { action = x.action; instance = x.instance; node = x.node; fields = []; references = x.references; claims = known }

  pub record Claims-read (known : List Claimed) (n : ℕ) (u : Scenario) : Type 0 where
    pub claims : List Claimed
    pub long : length claims ≡ n
    pub each : (i : ℕ) (c : Claimed) → slice_get claims i ≡ Some c → IsClaimRead m x (length known + i) c
    pub same : u ≡ at (claiming (known ++ claims))

  claims_from : (known : List Claimed) (n : ℕ) (u : Scenario) → Steps m (map (Instance a) (range_with_len (length known) n)) (at (claiming known)) u → Claims-read known n u
  claims_from known zero u steps = record { claims = []; long = refl; each = λ i c is. absurd (none-some c is); same = steps ∙ ap (λ cs. at (claiming cs)) (sym (append-nil known)) }
  claims_from known (suc n) u steps =
      let j = length known in
      let k = steps.0 in
      let y = claiming known in
      let domain : domain_of m (pre ++ y ∷ post) (Instance a j) ≡ instances_in (option_and_then (λ pool. slice_get m.pools pool) (served_claim m x.action x.instance j)) =
      ap (λ o. flat_map (λ z. claim_instances m z j) (option_to_list o)) (here y) ∙ append-nil (claim_instances m y j) in
      let found = by_served m (served_claim m x.action x.instance j) k (subst (λ spans. k < size_of spans) domain steps.1) in
      let c = claimed_as m y j k in
      let pool : c.pool ≡ found.0 = ap (λ o. unwrap_or o 0) found.2 in
      let first : IsClaimRead m x j c = record { pool = found.1; served = found.2 ∙ ap Some (sym pool); is = ap (slice_get m.pools) pool ∙ found.3; within = found.4; lock = refl; values = refl } in
      let next = known ++ c ∷ [] in
      let long : j + 1 ≡ length next = sym (length-append known (c ∷ [])) in
      let moved = subst (λ v. Steps m (map (Instance a) (range_with_len (j + 1) n)) v u) (put_act (with_claim m j k) y) steps.2 in
      let rest = claims_from next n u (subst (λ v. Steps m (map (Instance a) (range_with_len v n)) (at (claiming next)) u) long moved) in
      record {
        claims = c ∷ rest.claims;
        long = ap suc rest.long;
        each = λ i d is. one_more j (length next) c rest.claims long first rest.each i d is;
        same = rest.same ∙ ap (λ cs. at (claiming cs)) (append_assoc known (c ∷ []) rest.claims);
      }
    where
      one_more : (j next : ℕ) (c : Claimed) (cs : List Claimed) → j + 1 ≡ next → IsClaimRead m x j c → ((i : ℕ) (d : Claimed) → slice_get cs i ≡ Some d → IsClaimRead m x (next + i) d) → (i : ℕ) (d : Claimed) → slice_get (c ∷ cs) i ≡ Some d → IsClaimRead m x (j + i) d
      one_more j next c cs long first each zero d is = let e : j ≡ j + zero = omega arith in subst (λ n. IsClaimRead m x n d) e (subst (IsClaimRead m x j) (same_Some c d is) first)
      one_more j next c cs long first each (suc i) d is = let e : next + i ≡ j + suc i = omega (arith, long) in subst (λ n. IsClaimRead m x n d) e (each i d is)

  pub claims_come : (u : Scenario) → Steps m (instance_blanks m (a, x)) (at x) u → Claims-read [] (length (claims_of (type_of m x.action))) u
  claims_come u steps =
      let start : x ≡ claiming [] = λ i. record { action = x.action; instance = x.instance; node = x.node; fields = fresh.fields i; references = x.references; claims = fresh.claims i } in
      claims_from [] (length (claims_of (type_of m x.action))) u (subst (λ y. Steps m (instance_blanks m (a, x)) (at y) u) start steps)

  -- ---- values

  module _ (held : List Claimed) (long_held : length held ≡ length (claims_of (type_of m x.action))) (each_held : (i : ℕ) (c : Claimed) → slice_get held i ≡ Some c → IsClaimRead m x i c) where
    abbrev valued : List ℤ → List Filled → List Claimed → Act
    valued fields refs claims = record { action = x.action; instance = x.instance; node = x.node; fields = fields; references = refs; claims = claims }

    abbrev RefRead : ℕ → Filled → Filled → Type 0
    RefRead r f g = (g.pool ≡ f.pool) × (g.flow ≡ f.flow) × (is_output f.flow ≡ true → AreObjectValues (pool_object m f.pool) g.values) × (is_output f.flow ≡ false → g.values ≡ [])

    abbrev ClaimRead : ℕ → Claim × Claimed → Claimed → Type 0
    ClaimRead n e d = (d.pool ≡ e.1.pool) × (d.lock ≡ e.1.lock) × (d.instance ≡ e.1.instance) × AreObjectValues (slice_get m.objects e.0.object) d.values

    claim_object : (n : ℕ) (claim : Claim) → slice_get type.claims n ≡ Some claim → (object : ObjectTree) × (slice_get m.objects claim.object ≡ Some object)
    claim_object n claim is =
        let action = all_get (IsSoundAction m) m.actions x.action type sound.actions fresh.concrete.is in
        let o = some_and (slice_get m.objects claim.object) (λ (object : ObjectTree). object.kind ≡ Resource) (all_get (IsSoundClaim m.objects) type.claims n claim action.claims is) in
        (o.0, o.1)

    module _ (fs : List ℤ) where
      output_come : (r : ℕ) (f : Filled) → slice_get x.references r ≡ Some f → (before after : List Filled) → length before ≡ r → (v : Scenario) → Steps m (output_blanks m a (length before, f)) (at (valued fs (before ++ f ∷ after) held)) v
          → (g : Filled) × RefRead r f g × (v ≡ at (valued fs (before ++ g ∷ after) held))
      output_come r f has before after long v steps = by (is_output f.flow) refl steps
        where
          own : IsOpenReference m x type r f
          own = open_is m sound x fresh r f has

          by : (b : Bool) → is_output f.flow ≡ b → Steps m (if b then map (OfOutput a (length before)) (places (fields_of (pool_object m f.pool))) else []) (at (valued fs (before ++ f ∷ after) held)) v
              → (g : Filled) × RefRead r f g × (v ≡ at (valued fs (before ++ g ∷ after) held))
          by false e st = (f, (refl, refl, (λ yes. absurd (false≢true (sym e ∙ yes))), (λ no. own_values own)), st)
            where
              own_values : IsOpenReference m x type r f → f.values ≡ []
              own_values o = o.values
          by true e st = output_true own e st
            where
              output_true : IsOpenReference m x type r f → is_output f.flow ≡ true → Steps m (map (OfOutput a (length before)) (places (fields_of (pool_object m f.pool)))) (at (valued fs (before ++ f ∷ after) held)) v
                  → (g : Filled) × RefRead r f g × (v ≡ at (valued fs (before ++ g ∷ after) held))
              output_true o e st =
                  let with_values : List ℤ → Filled = λ known. record { pool = f.pool; flow = f.flow; values = known; link = f.link } in
                  let there : List ℤ → Scenario = λ known. at (valued fs (before ++ with_values known ∷ after) held) in
                  let bare : f ≡ with_values [] = λ i. record { pool = f.pool; flow = f.flow; values = o.values i; link = f.link } in
                  let st_object = subst (λ p. Steps m (map (OfOutput a (length before)) (places (fields_of p))) (at (valued fs (before ++ f ∷ after) held)) v) o.of_pool st in
                  let st_bare = subst (λ g. Steps m (map (OfOutput a (length before)) (places o.object.fields)) (at (valued fs (before ++ g ∷ after) held)) v) bare st_object in
                  let r = values_come listed m (OfOutput a (length before)) there o.object.fields
                  (λ known field at_field.
                  ap (λ q. domain_in (option_and_then (λ (g : Filled). pool_field m g.pool (length known)) (option_and_then (λ (y : Act). slice_get y.references (length before)) q))) (here (valued fs (before ++ with_values known ∷ after) held))
                  ∙ ap (λ q. domain_in (option_and_then (λ (g : Filled). pool_field m g.pool (length known)) q)) (at_length before after (with_values known))
                  ∙ ap domain_in (pool_field_is m f.pool (length known) o.object o.of_pool ∙ at_field))
                  (λ known k.
                  let w = option_value m (pre ++ valued fs (before ++ with_values known ∷ after) held ∷ post) (OfOutput a (length before) (length known)) k in
                  put_act (with_output_value (length before) w) (valued fs (before ++ with_values known ∷ after) held)
                  ∙ ap (λ rs. at (valued fs rs held)) (alter_at (filled_with_value w) before after (with_values known)))
                  v (object_domains m sound o.reference.object o.object o.there) st_bare in
                  (with_values r.rest, (refl, refl, (λ yes. subst (λ p. AreObjectValues p r.rest) (sym o.of_pool) r.zip), (λ no. absurd (false≢true (sym no ∙ e)))), r.is)

      module _ (gs : List Filled) where
        resource_come : (n : ℕ) (e : Claim × Claimed) → slice_get type.claims n ≡ Some e.0 → slice_get held n ≡ Some e.1 → (before after : List Claimed) → length before ≡ n → (v : Scenario)
            → Steps m (resource_blanks m a (length before, e.0)) (at (valued fs gs (before ++ e.1 ∷ after))) v → (d : Claimed) × ClaimRead n e d × (v ≡ at (valued fs gs (before ++ d ∷ after)))
        resource_come n e at_claim has before after long v steps =
            let claim = e.0 in
            let c = e.1 in
            let object = claim_object n claim at_claim in
            let own = each_held n c has in
            let with_resource : List ℤ → Claimed = λ known. record { pool = c.pool; lock = c.lock; instance = c.instance; values = known } in
            let there : List ℤ → Scenario = λ known. at (valued fs gs (before ++ with_resource known ∷ after)) in
            let bare : c ≡ with_resource [] = λ i. record { pool = c.pool; lock = c.lock; instance = c.instance; values = own.values i } in
            let claim_is : action_claim m x.action (length before) ≡ Some claim = ap (option_and_then (λ (y : ActionTree). slice_get y.claims (length before))) fresh.concrete.is ∙ ap (slice_get type.claims) long ∙ at_claim in
            let st_object = subst (λ p. Steps m (map (OfClaim a (length before)) (places (fields_of p))) (at (valued fs gs (before ++ c ∷ after))) v) object.1 steps in
            let st_bare = subst (λ d. Steps m (map (OfClaim a (length before)) (places object.0.fields)) (at (valued fs gs (before ++ d ∷ after))) v) bare st_object in
            let r = values_come listed m (OfClaim a (length before)) there object.0.fields
            (λ known field at_field.
            ap (λ q. domain_in (option_and_then (λ (y : Act). claim_field m y.action (length before) (length known)) q)) (here (valued fs gs (before ++ with_resource known ∷ after)))
            ∙ ap (λ q. domain_in (option_and_then (λ (z : Claim). object_field m z.object (length known)) q)) claim_is
            ∙ ap (λ q. domain_in (option_and_then (λ (y : ObjectTree). slice_get y.fields (length known)) q)) object.1
            ∙ ap domain_in at_field)
            (λ known k.
            let w = option_value m (pre ++ valued fs gs (before ++ with_resource known ∷ after) ∷ post) (OfClaim a (length before) (length known)) k in
            put_act (with_claim_value (length before) w) (valued fs gs (before ++ with_resource known ∷ after))
            ∙ ap (λ cs. at (valued fs gs cs)) (alter_at (claimed_with_value w) before after (with_resource known)))
            v (object_domains m sound claim.object object.0 object.1) st_bare in
            (with_resource r.rest, (refl, refl, refl, subst (λ p. AreObjectValues p r.rest) (sym object.1) r.zip), r.is)

    -- ---- all of an action

    pub record Act-read (u : Scenario) : Type 0 where
      pub act : Act
      pub of : IsActOf m act
      pub same : u ≡ at act

    pub act_come : (u : Scenario) → Steps m (act_blanks m (a, x)) (at (valued [] x.references held)) u → Act-read u
    act_come u steps =
        let claims = claims_of (type_of m x.action) in
        let field_blanks = map (OfAct a) (places (act_fields (type_of m x.action))) in
        let outputs = flat_map (output_blanks m a) (enumerate_from 0 x.references) in
        let resources = flat_map (resource_blanks m a) (enumerate_from 0 claims) in
        let c = steps_cut m field_blanks (outputs ++ resources) (at (valued [] x.references held)) u steps in
        let d = steps_cut m outputs resources c.mid u c.second in
        let domains = all_domains type.fields (λ k field at_field. all_get IsSoundField type.fields k field (all_get (IsSoundAction m) m.actions x.action type sound.actions fresh.concrete.is).fields at_field) in
        let fields = values_come listed m (OfAct a) (λ known. at (valued known x.references held)) type.fields
        (λ known field has.
        ap (λ o. domain_in (option_and_then (λ (y : Act). action_field m y.action (length known)) o)) (here (valued known x.references held))
        ∙ ap (λ o. domain_in (option_and_then (λ (y : ActionTree). slice_get y.fields (length known)) o)) fresh.concrete.is ∙ ap domain_in has)
        (λ known k. put_act (act_with_value (option_value m (pre ++ valued known x.references held ∷ post) (OfAct a (length known)) k)) (valued known x.references held))
        c.mid domains (subst (λ o. Steps m (map (OfAct a) (places (act_fields o))) (at (valued [] x.references held)) c.mid) fresh.concrete.is c.first) in
        let fs = fields.rest in
        let same_refs = map-id x.references in
        let out_steps = subst (λ rs. Steps m (flat_map (output_blanks m a) (enumerate_from 0 rs)) (at (valued fs rs held)) d.mid) (sym same_refs)
        (subst (λ v. Steps m outputs v d.mid) fields.is d.first) in
        let refs = rows_back m (λ gs. at (valued fs gs held)) (output_blanks m a) (λ f. f) (λ f. f) RefRead [] x.references d.mid
        (λ i f has before after long v st. output_come fs i f has before after (omega (arith, long)) v st) out_steps in
        let gs = refs.rows in
        let both = zipped type.claims held (ap (λ o. length (claims_of o)) (sym fresh.concrete.is) ∙ sym long_held) in
        let res_steps = subst (λ v. Steps m resources v u) refs.is d.second in
        let res_claims = subst (λ cs. Steps m (flat_map (resource_blanks m a) (enumerate_from 0 cs)) (at (valued fs gs held)) u) (ap claims_of fresh.concrete.is ∙ sym both.1) res_steps in
        let res_held = subst (λ cs. Steps m (flat_map (resource_blanks m a) (enumerate_from 0 (map (λ (e : Claim × Claimed). e.0) both.0))) (at (valued fs gs cs)) u) (sym both.2) res_claims in
        let at_claim = λ (i : ℕ) (e : Claim × Claimed) (is : slice_get both.0 i ≡ Some e). ap (λ cs. slice_get cs i) (sym both.1) ∙ get_mapped (λ (y : Claim × Claimed). y.0) both.0 i e is in
        let at_held = λ (i : ℕ) (e : Claim × Claimed) (is : slice_get both.0 i ≡ Some e). ap (λ cs. slice_get cs i) (sym both.2) ∙ get_mapped (λ (y : Claim × Claimed). y.1) both.0 i e is in
        let holds = rows_back m (λ ds. at (valued fs gs ds)) (resource_blanks m a) (λ e. e.0) (λ e. e.1) ClaimRead [] both.0 u
        (λ i e is before after long v st. resource_come fs gs i e (at_claim i e is) (at_held i e is) before after (omega (arith, long)) v st) res_held in
        let ds = holds.rows in
        let pairs : length both.0 ≡ length type.claims = sym (length-map both.0 (λ (e : Claim × Claimed). e.0)) ∙ ap length both.1 in
        record {
          act = valued fs gs ds;
          of = record {
            type = type;
            is = fresh.concrete.is;
            fields = fields.zip;
            many_references = refs.long ∙ as_many m sound x fresh;
            references = λ number g has. reference_of gs refs.long refs.each number g has fs ds;
            many_claims = holds.long ∙ pairs;
            claims = λ number claim e is has. claim_of both.0 pairs ds (λ i p w at_p at_w. holds.each i p w at_p at_w) at_claim at_held number claim e is has fs gs;
          };
          same = holds.is;
        }
      where
        reference_of : (gs : List Filled) → length gs ≡ length x.references → ((i : ℕ) (f g : Filled) → slice_get x.references i ≡ Some f → slice_get gs i ≡ Some g → RefRead (0 + i) f g)
            → (number : ℕ) (g : Filled) → slice_get gs number ≡ Some g → (fs : List ℤ) (ds : List Claimed) → IsReferenceOf m (valued fs gs ds) number g
        reference_of gs long each number g has fs ds =
            let within = slice_get_within gs number g has in
            let f = get_below x.references number (omega (arith, within, long)) in
            let own = open_is m sound x fresh number f.0 f.1 in
            let r = each number f.0 g f.1 has in
            let same_object : pool_object m f.0.pool ≡ slice_get m.objects own.reference.object = own.of_pool ∙ sym own.there in
            record {
              reference = own.reference;
              is = ap (option_and_then (λ (y : ActionTree). slice_get y.references number)) fresh.concrete.is ∙ own.is;
              pool = own.pool ∙ ap Some (sym r.0);
              flow = own.flow ∙ ap Some (sym r.1);
              output = λ yes. subst (λ o. AreObjectValues o g.values) same_object (r.2 (ap is_output (sym r.1) ∙ yes));
              input = λ no. r.3 (ap is_output (sym r.1) ∙ no);
            }

        claim_of : (zs : List (Claim × Claimed)) → length zs ≡ length type.claims → (ds : List Claimed) → ((i : ℕ) (e : Claim × Claimed) (d : Claimed) → slice_get zs i ≡ Some e → slice_get ds i ≡ Some d → ClaimRead (0 + i) e d)
            → ((i : ℕ) (e : Claim × Claimed) → slice_get zs i ≡ Some e → slice_get type.claims i ≡ Some e.0) → ((i : ℕ) (e : Claim × Claimed) → slice_get zs i ≡ Some e → slice_get held i ≡ Some e.1)
            → (number : ℕ) (claim : Claim) (d : Claimed) → slice_get type.claims number ≡ Some claim → slice_get ds number ≡ Some d → (fs : List ℤ) (gs : List Filled) → IsClaimOf m (valued fs gs ds) number claim d
        claim_of zs pairs ds each at_claim at_held number claim d is has fs gs =
            let within = slice_get_within type.claims number claim is in
            let e = get_below zs number (omega (arith, within, pairs)) in
            let first : e.0.0 ≡ claim = same_Some e.0.0 claim (sym (at_claim number e.0 e.1) ∙ is) in
            let own = each_held number e.0.1 (at_held number e.0 e.1) in
            let r = each number e.0 d e.1 has in
            record {
              is_pool = own.served ∙ ap Some (sym r.0);
              lock = r.1 ∙ own.lock ∙ ap (λ o. is_lock (option_and_then (λ (y : ActionTree). slice_get y.claims number) o)) fresh.concrete.is ∙ ap is_lock is;
              pool = own.pool;
              is = ap (slice_get m.pools) r.0 ∙ own.is;
              within = subst (λ n. n < own.pool.size) (sym r.2) own.within;
              values = subst (λ (z : Claim). AreObjectValues (slice_get m.objects z.object) d.values) first r.3;
            }
