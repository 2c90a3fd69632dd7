-- What is known of a legal scenario lies in its domains.
use Rattle.std.proofs.Common.{◌≡◌, ℕ, zero, suc, ◌-◌, ◌<◌, ℤ, pos, List, [], ◌∷◌, map, Bool, true, false, nat_eq, if◌then◌else◌, Option, Some, None, refl, sym, ap, ◌∙◌, subst, arith}
use Rattle.std.specs.Prelude.{slice_get}
use Rattle.std.specs.List.{AllZip}
use Rattle.std.specs.Option.{option_map, option_and_then}
use Rattle.std.proofs.lemmas.Int.{ints}
use Rattle.std.proofs.lemmas.Bool.{eqb-true}
use Rattle.std.proofs.lemmas.Option.{none-some, same_Some, slice_get-map, slice_get_within, option_and_then_some}
use Rattle.pst_model.specs.declared.action.Field.{Field}
use Rattle.pst_model.specs.declared.action.Reference.{Reference}
use Rattle.pst_model.specs.declared.action.Claim.{Claim}
use Rattle.pst_model.specs.declared.model.Pool.{Pool}
use Rattle.pst_model.specs.ModelTree.{ModelTree, ActionTree, ObjectTree}
use Rattle.pst_model.specs.Served.{objects_of}
use Rattle.pst_model.specs.Sound.{IsSoundField, IsSoundObject, IsSoundAction, IsSound}
use Rattle.pst_scen.specs.declared.tree.Node.{Node}
use Rattle.pst_scen.specs.declared.tree.Fill.TheVariants as fill
use Rattle.pst_scen.specs.declared.act.Act.{Act}
use Rattle.pst_scen.specs.declared.act.Filled.{Filled}
use Rattle.pst_scen.specs.declared.act.Claimed.{Claimed}
use Rattle.pst_scen.specs.declared.act.Link.TheVariants as link
use Rattle.pst_scen.specs.declared.scenario.First.{First}
use Rattle.pst_scen.specs.declared.scenario.Scenario.{Scenario}
use Rattle.pst_scen.specs.Scenarios.{reference_at}
use Rattle.pst_legal.specs.Types.{action_field, object_field, action_reference, action_claim, pool_object, is_output}
use Rattle.pst_legal.specs.Growing.{most_levels}
use Rattle.pst_legal.specs.Pieces.{IsValueOf}
use Rattle.pst_legal.specs.Blanks.{pool_field, claim_field, instances_in}
use Rattle.pst_legal.specs.Standing.{hull, field_span}
use Rattle.pst_legal.specs.Slots.{pool_span, first_values}
use Rattle.pst_legal.specs.Fits.{AreObjectValues, IsReferenceOf, IsActOf, HasValues}
use Rattle.pst_built.proofs.Parents.{get_more}
use Rattle.pst_built.proofs.SoundActs.{all_get, served_pool}
use Rattle.pst_built.proofs.Lists.{get_below}
use Rattle.pst_built.specs.Known.{Allows, claim_numbers, InDomains}
use Rattle.pst_read_domains.specs.RefusalsStayLaws.{LegalScenariosAreInDomains}
use Rattle.pst_read_domains.proofs.Hulls.{in_hull}
use Rattle.pst_read_domains.proofs.Valued.{tree_valued}

zip_value : (fields : List Field) (values : List ℤ) (i : ℕ) (v : ℤ) → AllZip IsValueOf fields values → slice_get values i ≡ Some v → (field : Field) × (slice_get fields i ≡ Some field) × IsValueOf field v
zip_value [] [] i v zip at = absurd (none-some v at)
zip_value [] (w ∷ values) i v zip at = absurd zip
zip_value (field ∷ fields) [] i v zip at = absurd zip
zip_value (field ∷ fields) (w ∷ values) zero v zip at = (field, refl, subst (IsValueOf field) (same_Some w v at) zip.0)
zip_value (field ∷ fields) (w ∷ values) (suc i) v zip at = zip_value fields values i v zip.1 at

module _ (m : ModelTree) (sound : IsSound m) where
  action_value : (action : ℕ) (type : ActionTree) (values : List ℤ) (i : ℕ) (v : ℤ) → slice_get m.actions action ≡ Some type → AllZip IsValueOf type.fields values → slice_get values i ≡ Some v
      → Allows (field_span (action_field m action i)) v
  action_value action type values i v is zip at =
      let z = zip_value type.fields values i v zip at in
      let whole = all_get (IsSoundAction m) m.actions action type sound.actions is in
      let domain = (all_get IsSoundField type.fields i z.0 whole.fields z.1).domain in
      subst (λ o. Allows (field_span o) v) (sym (ap (option_and_then (λ (t : ActionTree). slice_get t.fields i)) is ∙ z.1)) (in_hull z.0.domain domain v z.2)

  object_value : (n : ℕ) (values : List ℤ) (i : ℕ) (v : ℤ) → AreObjectValues (slice_get m.objects n) values → slice_get values i ≡ Some v → Allows (field_span (object_field m n i)) v
  object_value n values i v are at = by (slice_get m.objects n) refl are
    where
      by : (o : Option ObjectTree) → slice_get m.objects n ≡ o → AreObjectValues o values → Allows (field_span (object_field m n i)) v
      by None is are = absurd are
      by (Some object) is are =
          let z = zip_value object.fields values i v are at in
          let whole = all_get IsSoundObject m.objects n object sound.objects is in
          let domain = (all_get IsSoundField object.fields i z.0 whole.fields z.1).domain in
          subst (λ o. Allows (field_span o) v) (sym (ap (option_and_then (λ (t : ObjectTree). slice_get t.fields i)) is ∙ z.1)) (in_hull z.0.domain domain v z.2)

  pool_value : (pool : ℕ) (values : List ℤ) (i : ℕ) (v : ℤ) → AreObjectValues (pool_object m pool) values → slice_get values i ≡ Some v → Allows (pool_span m pool i) v
  pool_value pool values i v are at = by (slice_get m.pools pool) refl are
    where
      by : (o : Option Pool) → slice_get m.pools pool ≡ o → AreObjectValues (option_and_then (λ (p : Pool). slice_get m.objects p.object) o) values → Allows (pool_span m pool i) v
      by None is are = absurd are
      by (Some p) is are =
          subst (λ o. Allows (field_span o) v) (sym (ap (option_and_then (λ (q : Pool). object_field m q.object i)) is)) (object_value p.object values i v are at)

  -- the values of the first object of a pool
  first_of : (firsts : List First) (pool i : ℕ) (v : ℤ) → ((k : ℕ) (first : First) → slice_get firsts k ≡ Some first → AreObjectValues (pool_object m first.pool) first.values) → slice_get (first_values firsts pool) i ≡ Some v
      → Allows (pool_span m pool i) v
  first_of [] pool i v are at = absurd (none-some v at)
  first_of (first ∷ firsts) pool i v are at = by (nat_eq first.pool pool) refl (λ e. first_of firsts pool i v (λ k x is. are (suc k) x is) e) at
    where
      by : (b : Bool) → nat_eq first.pool pool ≡ b → (slice_get (first_values firsts pool) i ≡ Some v → Allows (pool_span m pool i) v) → slice_get (if b then first.values else first_values firsts pool) i ≡ Some v → Allows (pool_span m pool i) v
      by true e rest at = subst (λ p. Allows (pool_span m p i) v) (eqb-true first.pool pool e) (pool_value first.pool first.values i v (are 0 first refl) at)
      by false e rest at = rest at

  -- ---- claims

  number_in : (pool : Pool) (n : ℕ) → n < pool.size → Allows (hull (instances_in (Some pool))) (pos n)
  number_in pool n within = by (nat_eq pool.size 0) refl
    where
      by : (b : Bool) → nat_eq pool.size 0 ≡ b → Allows (hull (if b then [] else record { low = pos 0; high = pos (pool.size - 1) } ∷ [])) (pos n)
      by true e = let none = eqb-true pool.size 0 e in absurd (omega (arith, none, within))
      by false e = (omega (arith, ints), let most : n < pool.size = within in omega (arith, ints, most))

  module _ (s : Scenario) (has_values : HasValues m s) where
    of_act : (a : ℕ) (act : Act) → slice_get s.actions a ≡ Some act → IsActOf m act
    of_act a act is = has_values.acts a act is

    claim_at : (act : Act) (of : IsActOf m act) (c : ℕ) (x : Claimed) → slice_get act.claims c ≡ Some x → (claim : Claim) × (slice_get of.type.claims c ≡ Some claim)
    claim_at act of c x at = let l = slice_get_within act.claims c x at in let e = of.many_claims in get_below of.type.claims c (omega (arith, l, e))

    instance_in : (a : ℕ) (act : Act) (c : ℕ) (x : Claimed) → slice_get s.actions a ≡ Some act → slice_get act.claims c ≡ Some x → Allows (claim_numbers m act.action act.instance c) (pos x.instance)
    instance_in a act c x is at =
        let of = of_act a act is in
        let claim = claim_at act of c x at in
        let k = of.claims c claim.0 x claim.1 at in
        subst (λ o. Allows (hull (instances_in o)) (pos x.instance)) (sym (ap (option_and_then (λ p. slice_get m.pools p)) k.is_pool ∙ k.is)) (number_in k.pool x.instance k.within)

    claim_in : (a : ℕ) (act : Act) (c : ℕ) (x : Claimed) (i : ℕ) (v : ℤ) → slice_get s.actions a ≡ Some act → slice_get act.claims c ≡ Some x → slice_get x.values i ≡ Some v → Allows (field_span (claim_field m act.action c i)) v
    claim_in a act c x i v is at has =
        let of = of_act a act is in
        let claim = claim_at act of c x at in
        let k = of.claims c claim.0 x claim.1 at in
        let own : action_claim m act.action c ≡ Some claim.0 = ap (option_and_then (λ (t : ActionTree). slice_get t.claims c)) of.is ∙ claim.1 in
        subst (λ o. Allows (field_span o) v) (sym (ap (option_and_then (λ (y : Claim). object_field m y.object i)) own)) (object_value claim.0.object x.values i v k.values has)

    -- ---- references

    -- the pool of a reference is one of its objects
    pool_is : (act : Act) (of : IsActOf m act) (r : ℕ) (f : Filled) (reference : IsReferenceOf m act r f) (field : ℕ) → pool_field m f.pool field ≡ object_field m reference.reference.object field
    pool_is act of r f reference field =
        let p = served_pool m sound act.action act.instance r f.pool of.type of.is reference.pool in
        let named : slice_get of.type.references r ≡ Some reference.reference = ap (option_and_then (λ (x : ActionTree). slice_get x.references r)) (sym of.is) ∙ reference.is in
        let mapped : slice_get (map (λ (x : Reference). x.object) of.type.references) r ≡ Some reference.reference.object =
        slice_get-map (λ (x : Reference). x.object) of.type.references r ∙ ap (option_map (λ (x : Reference). x.object)) named in
        let listed : slice_get (objects_of of.type) r ≡ Some reference.reference.object =
        get_more (map (λ (x : Reference). x.object) of.type.references) (map (λ (x : Claim). x.object) of.type.claims) r reference.reference.object mapped in
        let same : p.0.object ≡ reference.reference.object = same_Some p.0.object reference.reference.object (sym p.2 ∙ listed) in
        ap (option_and_then (λ (q : Pool). object_field m q.object field)) p.1 ∙ ap (λ n. object_field m n field) same

    output_in : (a r : ℕ) (f : Filled) (i : ℕ) (v : ℤ) → reference_at s.actions a r ≡ Some f → slice_get f.values i ≡ Some v → Allows (pool_span m f.pool i) v
    output_in a r f i v is at =
        option_and_then_some (λ (x : Act). slice_get x.references r) (slice_get s.actions a) f is
        (λ act there has.
        let of = of_act a act there in
        let reference = of.references r f has in
        by act of reference (is_output f.flow) refl)
      where
        by : (act : Act) (of : IsActOf m act) (reference : IsReferenceOf m act r f) (b : Bool) → is_output f.flow ≡ b → Allows (pool_span m f.pool i) v
        by act of reference true output =
            subst (λ o. Allows (field_span o) v) (sym (pool_is act of r f reference i)) (object_value reference.reference.object f.values i v (reference.output output) at)
        by act of reference false input = absurd (none-some v (ap (λ vs. slice_get vs i) (sym (reference.input input)) ∙ at))

    served_as : (a : ℕ) (act : Act) (r : ℕ) (f : Filled) (field : ℕ) → slice_get s.actions a ≡ Some act → slice_get act.references r ≡ Some f
        → pool_span m f.pool field ≡ field_span (option_and_then (λ x. object_field m x.object field) (action_reference m act.action r))
    served_as a act r f field is at =
        let of = of_act a act is in
        let reference = of.references r f at in
        ap field_span (pool_is act of r f reference field) ∙ sym (ap (λ o. field_span (option_and_then (λ (x : Reference). object_field m x.object field) o)) reference.is)

-- A scenario that has its values, and whose links and compound actions' values are known to be so, lies in its domains.
pub values_in_domains : (m : ModelTree) → IsSound m → (s : Scenario) → HasValues m s
    → ((a r b q : ℕ) (f g : Filled) → reference_at s.actions a r ≡ Some f → f.link ≡ link.Act b q → reference_at s.actions b q ≡ Some g → g.pool ≡ f.pool)
    → ((n : ℕ) (node : Node) (action instance : ℕ) (values : List ℤ) (i : ℕ) (v : ℤ) → slice_get s.nodes n ≡ Some node → node.fill ≡ fill.Compound action instance values → slice_get values i ≡ Some v → Allows (field_span (action_field m action i)) v)
    → InDomains m s
values_in_domains m sound s has_values links compounds = record {
  fields = λ a act i v is at. let of = of_act m sound s has_values a act is in action_value m sound act.action of.type act.fields i v of.is of.fields at;
  instances = λ a act c x is at. instance_in m sound s has_values a act c x is at;
  claims = λ a act c x i v is at has. claim_in m sound s has_values a act c x i v is at has;
  outputs = λ a r f i v is at. output_in m sound s has_values a r f i v is at;
  links = links;
  firsts = λ pool i v at. first_of m sound s.firsts pool i v has_values.firsts at;
  compounds = compounds;
  served = λ a act r f field is at. served_as m sound s has_values a act r f field is at;
}

pub legal_in_domains : LegalScenariosAreInDomains
legal_in_domains m root s sound legal =
    let valued = tree_valued m most_levels root s.level legal.fits.tree.tree legal.fits.tree.fills in
    values_in_domains m sound s legal.fits.values
    (λ a r b q f g is to there.
    let source = legal.supplied.sources a r b q f is to in
    let same : source.source ≡ g = same_Some source.source g (sym source.is ∙ there) in
    ap (λ (x : Filled). x.pool) (sym same) ∙ source.pool)
    (λ n node action instance values i v is of at.
    let x = valued n node (ap (λ ns. slice_get ns n) (sym legal.fits.tree.nodes) ∙ is) action instance values of in
    action_value m sound action x.0 values i v x.1 x.2 at)
