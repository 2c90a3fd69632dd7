-- Each value of an action, of what it writes and of what it claims is read by some choices.
use Rattle.std.proofs.Common.{◌≡◌, ℕ, ◌+◌, ◌-◌, ◌<◌, ℤ, pos, List, [], ◌∷◌, ◌++◌, map, length, Bool, true, false, nat_eq, if◌then◌else◌, Option, Some, None, refl, sym, ap, ◌∙◌, subst, arith, append_assoc, append-nil, length-append}
use Rattle.std.specs.Prelude.{slice_get, flat_map, option_to_list}
use Rattle.std.specs.List.{enumerate_from, range_with_len, AllZip}
use Rattle.std.specs.Option.{option_and_then, unwrap_or}
use Rattle.std.proofs.lemmas.Bool.{eqb-true}
use Rattle.std.proofs.lemmas.Int.{ints}
use Rattle.std.proofs.lemmas.List.{map-append, map-id}
use Rattle.std.proofs.lemmas.Option.{none-some, same_Some, slice_get_within}
use Rattle.pst_expr.specs.Spans.{size_of}
use Rattle.pst_model.specs.declared.action.Claim.{Claim}
use Rattle.pst_model.specs.declared.action.Reference.{Reference}
use Rattle.pst_model.specs.declared.model.Pool.{Pool}
use Rattle.pst_model.specs.ModelTree.{ModelTree, ActionTree, ObjectTree}
use Rattle.pst_model.specs.Sound.{IsSound}
use Rattle.pst_scen.specs.declared.act.Act.{Act}
use Rattle.pst_scen.specs.declared.act.Filled.{Filled}
use Rattle.pst_scen.specs.declared.act.Claimed.{Claimed}
use Rattle.pst_scen.specs.declared.scenario.Scenario.{Scenario}
use Rattle.pst_legal.specs.Types.{type_of, action_field, object_field, action_claim, served_claim, pool_object, is_output}
use Rattle.pst_legal.specs.Pieces.{IsValueOf}
use Rattle.pst_legal.specs.Fits.{AreObjectValues, IsReferenceOf, IsActOf}
use Rattle.pst_legal.specs.Blanks.{Instance, OfAct, OfOutput, OfClaim, places, fields_of, claims_of, act_fields, instance_blanks, output_blanks, resource_blanks, act_blanks, instances_in, claim_instances, pool_field, claim_field, domain_in, domain_of, option_value}
use Rattle.pst_legal.specs.SupplyReading.{alter}
use Rattle.pst_legal.specs.ValueReading.{is_lock, claimed_as, with_claim, act_with_value, filled_with_value, claimed_with_value, with_output_value, with_claim_value}
use Rattle.pst_built.proofs.Parents.{get_more}
use Rattle.pst_built.proofs.SoundActs.{served_pool}
use Rattle.pst_built.specs.Parts.{without_values, linked_act}
use Rattle.pst_built.proofs.Lists.{get_below, get_mapped, zipped}
use Rattle.pst_built.proofs.Blanks.{Steps, steps_join, at_length, alter_at, values_steps, rows_steps}

-- a claim without the values of its resource
abbrev pub bare_claimed : Claimed → Claimed
bare_claimed claimed = record claimed { values = [] }

-- an action with its links and claims alone
abbrev pub claimed_act : Act → Act
claimed_act x = record { action = x.action; instance = x.instance; node = x.node; fields = []; references = map without_values x.references; claims = map bare_claimed x.claims }

-- the fields of an object of a pool
pub pool_field_is : (m : ModelTree) (pool field : ℕ) (object : ObjectTree) → pool_object m pool ≡ Some object → pool_field m pool field ≡ slice_get object.fields field
pool_field_is m pool field object is = by (slice_get m.pools pool) is
  where
    inner : (o : Option ObjectTree) → o ≡ Some object → option_and_then (λ (type : ObjectTree). slice_get type.fields field) o ≡ slice_get object.fields field
    inner o e = ap (option_and_then (λ (type : ObjectTree). slice_get type.fields field)) e

    by : (p : Option Pool) → option_and_then (λ (q : Pool). slice_get m.objects q.object) p ≡ Some object → option_and_then (λ (q : Pool). object_field m q.object field) p ≡ slice_get object.fields field
    by None e = absurd (none-some object e)
    by (Some q) e = inner (slice_get m.objects q.object) e

pub object_values : (o : Option ObjectTree) (values : List ℤ) → AreObjectValues o values → (object : ObjectTree) × (o ≡ Some object) × AllZip IsValueOf object.fields values
object_values None values are = absurd are
object_values (Some object) values are = (object, refl, are)

pool_room : (pool : Pool) (k : ℕ) → k < pool.size → k < size_of (instances_in (Some pool))
pool_room pool k l = by (nat_eq pool.size 0) refl
  where
    by : (b : Bool) → nat_eq pool.size 0 ≡ b → k < size_of (if b then [] else record { low = pos 0; high = pos (pool.size - 1) } ∷ [])
    by true e = let none : pool.size ≡ 0 = eqb-true pool.size 0 e in absurd (omega (arith, l, none))
    by false e = omega (arith, ints, l)

-- a reference's pool has objects of its type
pub object_of : (m : ModelTree) → IsSound m → (x : Act) → (of : IsActOf m x) → (r : ℕ) (f : Filled) → (has : slice_get x.references r ≡ Some f) → pool_object m f.pool ≡ slice_get m.objects (of.references r f has).reference.object
object_of m sound x of r f has =
    let own = of.references r f has in
    let pool = served_pool m sound x.action x.instance r f.pool of.type of.is own.pool in
    let at_type : slice_get of.type.references r ≡ Some own.reference = sym (ap (option_and_then (λ (type : ActionTree). slice_get type.references r)) of.is) ∙ own.is in
    let listed = get_more (map (λ (y : Reference). y.object) of.type.references) (map (λ (y : Claim). y.object) of.type.claims) r own.reference.object (get_mapped (λ (y : Reference). y.object) of.type.references r own.reference at_type) in
    let same : pool.0.object ≡ own.reference.object = same_Some pool.0.object own.reference.object (sym pool.2 ∙ listed) in
    ap (option_and_then (λ (p : Pool). slice_get m.objects p.object)) pool.1 ∙ ap (slice_get m.objects) same

module _ (m : ModelTree) (sound : IsSound m) (t : Scenario) (pre post : List Act) (x : Act) (of : IsActOf m x) where
  abbrev a : ℕ
  a = length pre

  abbrev at : Act → Scenario
  at y = record t { actions = pre ++ y ∷ post }

  here : (y : Act) → slice_get (pre ++ y ∷ post) a ≡ Some y
  here y = at_length pre post y

  put_act : (f : Act → Act) (y : Act) → record t { actions = alter f a (pre ++ y ∷ post) } ≡ at (f y)
  put_act f y = ap (λ acts. record t { actions = acts }) (alter_at f pre post y)

  -- ---- the instances that it claims

  abbrev claiming : List Claimed → Act
  claiming known = record { action = x.action; instance = x.instance; node = x.node; fields = []; references = map without_values x.references; claims = known }

  claims_from : (done todo : List Claimed) → x.claims ≡ done ++ todo → Steps m (map (Instance a) (range_with_len (length done) (length todo))) (at (claiming (map bare_claimed done))) (at (claiming (map bare_claimed (done ++ todo))))
  claims_from done [] is = ap (λ cs. at (claiming (map bare_claimed cs))) (append-nil done)
  claims_from done (c ∷ todo) is =
      let n = length done in
      let y = claiming (map bare_claimed done) in
      let has : slice_get x.claims n ≡ Some c = ap (λ cs. slice_get cs n) is ∙ at_length done todo c in
      let within = slice_get_within x.claims n c has in
      let claim = get_below of.type.claims n (omega (arith, within, of.many_claims)) in
      let own = of.claims n claim.0 c claim.1 has in
      let domain : domain_of m (pre ++ y ∷ post) (Instance a n) ≡ instances_in (Some own.pool) =
      ap (λ o. flat_map (λ z. claim_instances m z n) (option_to_list o)) (here y)
      ∙ append-nil (claim_instances m y n)
      ∙ ap (λ o. instances_in (option_and_then (λ pool. slice_get m.pools pool) o)) own.is_pool
      ∙ ap instances_in own.is in
      let pool : unwrap_or (served_claim m x.action x.instance n) 0 ≡ c.pool = ap (λ o. unwrap_or o 0) own.is_pool in
      let lock : is_lock (action_claim m x.action n) ≡ c.lock = ap (λ o. is_lock (option_and_then (λ (type : ActionTree). slice_get type.claims n) o)) of.is ∙ ap is_lock claim.1 ∙ sym own.lock in
      let claimed : claimed_as m y n c.instance ≡ bare_claimed c = λ i. record { pool = pool i; lock = lock i; instance = c.instance; values = [] } in
      let next = done ++ c ∷ [] in
      let long : length next ≡ n + 1 = length-append done (c ∷ []) in
      let put = put_act (with_claim m n c.instance) y ∙ ap (λ z. at (claiming (map bare_claimed done ++ z ∷ []))) claimed ∙ ap (λ cs. at (claiming cs)) (sym (map-append bare_claimed done (c ∷ []))) in
      let rest = claims_from next todo (is ∙ sym (append_assoc done (c ∷ []) todo)) in
      let shorter = subst (λ k. Steps m (map (Instance a) (range_with_len k (length todo))) (at (claiming (map bare_claimed next))) (at (claiming (map bare_claimed (next ++ todo))))) long rest in
      let ended = subst (λ cs. Steps m (map (Instance a) (range_with_len (n + 1) (length todo))) (at (claiming (map bare_claimed next))) (at (claiming (map bare_claimed cs)))) (append_assoc done (c ∷ []) todo) shorter in (
        c.instance,
        subst (λ spans. c.instance < size_of spans) (sym domain) (pool_room own.pool c.instance own.within),
        subst (λ u. Steps m (map (Instance a) (range_with_len (n + 1) (length todo))) u (at (claiming (map bare_claimed (done ++ c ∷ todo))))) (sym put) ended,
      )

  pub claims_steps : Steps m (instance_blanks m (a, linked_act x)) (at (linked_act x)) (at (claimed_act x))
  claims_steps =
      let steps = claims_from [] x.claims refl in
      let many : length x.claims ≡ length (claims_of (type_of m x.action)) = of.many_claims ∙ ap (λ o. length (claims_of o)) (sym of.is) in
      subst (λ n. Steps m (map (Instance a) (range_with_len 0 n)) (at (linked_act x)) (at (claimed_act x))) many steps

  -- ---- its fields

  abbrev valued : List ℤ → Act
  valued known = record { action = x.action; instance = x.instance; node = x.node; fields = known; references = map without_values x.references; claims = map bare_claimed x.claims }

  fields_steps : Steps m (map (OfAct a) (places (act_fields (type_of m x.action)))) (at (valued [])) (at (valued x.fields))
  fields_steps =
      subst (λ o. Steps m (map (OfAct a) (places (act_fields o))) (at (valued [])) (at (valued x.fields))) (sym of.is)
      (values_steps m (OfAct a) (λ known. at (valued known)) of.type.fields
      (λ known field has.
      ap (λ o. domain_in (option_and_then (λ (y : Act). action_field m y.action (length known)) o)) (here (valued known))
      ∙ ap (λ o. domain_in (option_and_then (λ (type : ActionTree). slice_get type.fields (length known)) o)) of.is ∙ ap domain_in has)
      (λ known k. put_act (act_with_value (option_value m (pre ++ valued known ∷ post) (OfAct a (length known)) k)) (valued known)) x.fields of.fields)

  -- ---- what it writes

  abbrev writing : List Filled → Act
  writing refs = record { action = x.action; instance = x.instance; node = x.node; fields = x.fields; references = refs; claims = map bare_claimed x.claims }

  module _ (r : ℕ) (f : Filled) (has : slice_get x.references r ≡ Some f) (before after : List Filled) (long : length before ≡ r) where
    abbrev with_values : List ℤ → Filled
    with_values known = record { pool = f.pool; flow = f.flow; values = known; link = f.link }

    abbrev own : IsReferenceOf m x r f
    own = of.references r f has

    output_by : (b : Bool) → is_output f.flow ≡ b → Steps m (if b then map (OfOutput a (length before)) (places (fields_of (pool_object m f.pool))) else []) (at (writing (before ++ with_values [] ∷ after))) (at (writing (before ++ f ∷ after)))
    output_by false e = ap (λ vs. at (writing (before ++ with_values vs ∷ after))) (own.input e)
    output_by true e =
        let object = object_values (slice_get m.objects own.reference.object) f.values (own.output e) in
        let is : pool_object m f.pool ≡ Some object.0 = object_of m sound x of r f has ∙ object.1 in
        let there = λ (known : List ℤ). writing (before ++ with_values known ∷ after) in
        subst (λ o. Steps m (map (OfOutput a (length before)) (places (fields_of o))) (at (there [])) (at (there f.values))) (sym is)
        (values_steps m (OfOutput a (length before)) (λ known. at (there known)) object.0.fields
        (λ known field at_field.
        ap (λ o. domain_in (option_and_then (λ (g : Filled). pool_field m g.pool (length known)) (option_and_then (λ (y : Act). slice_get y.references (length before)) o))) (here (there known))
        ∙ ap (λ o. domain_in (option_and_then (λ (g : Filled). pool_field m g.pool (length known)) o)) (at_length before after (with_values known))
        ∙ ap domain_in (pool_field_is m f.pool (length known) object.0 is ∙ at_field))
        (λ known k.
        let v = option_value m (pre ++ there known ∷ post) (OfOutput a (length before) (length known)) k in
        put_act (with_output_value (length before) v) (there known)
        ∙ ap (λ rs. at (writing rs)) (alter_at (filled_with_value v) before after (with_values known))) f.values object.2)

    output_steps : Steps m (output_blanks m a (length before, without_values f)) (at (writing (before ++ without_values f ∷ after))) (at (writing (before ++ f ∷ after)))
    output_steps = output_by (is_output f.flow) refl

  outputs_steps : Steps m (flat_map (output_blanks m a) (enumerate_from 0 (map without_values x.references))) (at (valued x.fields)) (at (writing x.references))
  outputs_steps =
      subst (λ fs. Steps m (flat_map (output_blanks m a) (enumerate_from 0 (map without_values x.references))) (at (valued x.fields)) (at (writing fs))) (map-id x.references)
      (rows_steps m (λ fs. at (writing fs)) (output_blanks m a) without_values without_values (λ f. f) [] x.references
      (λ i f has before after long. output_steps i f has before after (omega (arith, long))))

  -- ---- what it claims

  abbrev holding : List Claimed → Act
  holding claims = record { action = x.action; instance = x.instance; node = x.node; fields = x.fields; references = x.references; claims = claims }

  module _ (n : ℕ) (claim : Claim) (c : Claimed) (at_claim : slice_get of.type.claims n ≡ Some claim) (has : slice_get x.claims n ≡ Some c) (before after : List Claimed) (long : length before ≡ n) where
    abbrev with_resource : List ℤ → Claimed
    with_resource known = record { pool = c.pool; lock = c.lock; instance = c.instance; values = known }

    resource_steps : Steps m (resource_blanks m a (length before, claim)) (at (holding (before ++ bare_claimed c ∷ after))) (at (holding (before ++ c ∷ after)))
    resource_steps =
        let object = object_values (slice_get m.objects claim.object) c.values (of.claims n claim c at_claim has).values in
        let there = λ (known : List ℤ). holding (before ++ with_resource known ∷ after) in
        let claim_is : action_claim m x.action (length before) ≡ Some claim = ap (option_and_then (λ (type : ActionTree). slice_get type.claims (length before))) of.is ∙ ap (slice_get of.type.claims) long ∙ at_claim in
        subst (λ o. Steps m (map (OfClaim a (length before)) (places (fields_of o))) (at (there [])) (at (there c.values))) (sym object.1)
        (values_steps m (OfClaim a (length before)) (λ known. at (there known)) object.0.fields
        (λ known field at_field.
        ap (λ o. domain_in (option_and_then (λ (y : Act). claim_field m y.action (length before) (length known)) o)) (here (there known))
        ∙ ap (λ o. domain_in (option_and_then (λ (z : Claim). object_field m z.object (length known)) o)) claim_is
        ∙ ap (λ o. domain_in (option_and_then (λ (type : ObjectTree). slice_get type.fields (length known)) o)) object.1
        ∙ ap domain_in at_field)
        (λ known k.
        let v = option_value m (pre ++ there known ∷ post) (OfClaim a (length before) (length known)) k in
        put_act (with_claim_value (length before) v) (there known)
        ∙ ap (λ cs. at (holding cs)) (alter_at (claimed_with_value v) before after (with_resource known))) c.values object.2)

  resources_steps : Steps m (flat_map (resource_blanks m a) (enumerate_from 0 of.type.claims)) (at (writing x.references)) (at x)
  resources_steps =
      let both = zipped of.type.claims x.claims (sym of.many_claims) in
      let steps = rows_steps m (λ cs. at (holding cs)) (resource_blanks m a) (λ e. e.0) (λ e. bare_claimed e.1) (λ e. e.1) [] both.0
      (λ i e is before after long.
      resource_steps i e.0 e.1
      (ap (λ cs. slice_get cs i) (sym both.1) ∙ get_mapped (λ (e : Claim × Claimed). e.0) both.0 i e is)
      (ap (λ cs. slice_get cs i) (sym both.2) ∙ get_mapped (λ (e : Claim × Claimed). e.1) both.0 i e is) before after (omega (arith, long))) in
      let bares : map (λ (e : Claim × Claimed). bare_claimed e.1) both.0 ≡ map bare_claimed x.claims = map_twice bare_claimed both.0 ∙ ap (map bare_claimed) both.2 in
      subst (λ cs. Steps m (flat_map (resource_blanks m a) (enumerate_from 0 cs)) (at (writing x.references)) (at x)) both.1
      (subst (λ cs. Steps m (flat_map (resource_blanks m a) (enumerate_from 0 (map (λ (e : Claim × Claimed). e.0) both.0))) (at (holding cs)) (at x)) bares
      (subst (λ cs. Steps m (flat_map (resource_blanks m a) (enumerate_from 0 (map (λ (e : Claim × Claimed). e.0) both.0))) (at (holding (map (λ (e : Claim × Claimed). bare_claimed e.1) both.0))) (at (holding cs))) both.2 steps))
    where
      map_twice : (g : Claimed → Claimed) (es : List (Claim × Claimed)) → map (λ (e : Claim × Claimed). g e.1) es ≡ map g (map (λ (e : Claim × Claimed). e.1) es)
      map_twice g [] = refl
      map_twice g (e ∷ es) = ap (λ cs. g e.1 ∷ cs) (map_twice g es)

  pub act_steps : Steps m (act_blanks m (a, linked_act x)) (at (claimed_act x)) (at x)
  act_steps =
      steps_join m (map (OfAct a) (places (act_fields (type_of m x.action))))
      (flat_map (output_blanks m a) (enumerate_from 0 (map without_values x.references)) ++ flat_map (resource_blanks m a) (enumerate_from 0 (claims_of (type_of m x.action))))
      (at (claimed_act x)) (at (valued x.fields)) (at x) fields_steps
      (steps_join m (flat_map (output_blanks m a) (enumerate_from 0 (map without_values x.references))) (flat_map (resource_blanks m a) (enumerate_from 0 (claims_of (type_of m x.action))))
      (at (valued x.fields)) (at (writing x.references)) (at x) outputs_steps
      (subst (λ o. Steps m (flat_map (resource_blanks m a) (enumerate_from 0 (claims_of o))) (at (writing x.references)) (at x)) (sym of.is) resources_steps))
