-- What a fresh action's references are: pools and kinds of the model.
use Rattle.std.proofs.Common.{◌≡◌, ◌≢◌, ℕ, ◌+◌, [], map, length, Bool, true, false, ◌&&◌, is_some, IsSomeAnd, Option, Some, None, refl, sym, ap, ◌∙◌, subst, arith}
use Rattle.std.specs.Prelude.{slice_get}
use Rattle.std.specs.List.{enumerate_from, filter}
use Rattle.std.specs.Option.{option_map, option_and_then, unwrap_or}
use Rattle.std.proofs.lemmas.Bool.{eqb-true, and_parts, false≢true}
use Rattle.std.proofs.lemmas.List.{length-map}
use Rattle.std.proofs.lemmas.Option.{none-some, same_Some, slice_get_within}
use Rattle.pst_base.specs.declared.table.NameId.{NameId}
use Rattle.pst_model.specs.declared.action.Reference.{Reference}
use Rattle.pst_model.specs.declared.action.Claim.{Claim}
use Rattle.pst_model.specs.declared.model.Part.{Part}
use Rattle.pst_model.specs.declared.model.Pool.{Pool}
use Rattle.pst_model.specs.declared.object.ObjectKind.{ObjectKind}
use Rattle.pst_model.specs.declared.object.ObjectKind.TheVariants.{Buffer, Stream, State, Resource}
use Rattle.pst_model.specs.ModelTree.{ModelTree, ActionTree, ObjectTree}
use Rattle.pst_model.specs.Served.{objects_of}
use Rattle.pst_model.specs.Sound.{IsSound, IsSoundAction}
use Rattle.pst_scen.specs.declared.act.Act.{Act}
use Rattle.pst_scen.specs.declared.act.Filled.{Filled}
use Rattle.pst_scen.specs.declared.act.Flow.{Flow}
use Rattle.pst_scen.specs.declared.act.Flow.TheVariants.{BufferIn}
use Rattle.pst_legal.specs.Types.{same_name, is_under, action_instances, served, flow_of, reference_flow, pool_object}
use Rattle.pst_legal.specs.Growing.{open_reference, open_references}
use Rattle.pst_built.proofs.Members.{In, in_map, in_filter, in_numbered}
use Rattle.pst_built.proofs.Parents.{get_more}
use Rattle.pst_built.proofs.SoundActs.{all_get, some_and, served_pool}
use Rattle.pst_built.proofs.Lists.{get_mapped, length_numbered}
use Rattle.pst_built.proofs.Shown.{get_numbered}
use Rattle.pst_built.proofs.Fresh.{unlinked, IsFresh}

name_of : ℕ → NameId
name_of n = record { 0 = n }

same_names : (a b : NameId) → same_name a b ≡ true → a ≡ b
unfolding name_of
same_names a b e = ap name_of (eqb-true a.0 b.0 e)

instance_is : (m : ModelTree) (type : ActionTree) (top : Option ℕ) (instance : ℕ) → In instance (action_instances m (Some type) top) → (part : Part) × (slice_get m.instances instance ≡ Some part) × (part.component ≡ type.component)
instance_is m type top instance has =
    let test : ℕ × Part → Bool = λ e. same_name e.1.component type.component && is_under m top e.0 in
    let i = in_map (λ (e : ℕ × Part). e.0) (filter test (enumerate_from 0 m.instances)) instance has in
    let e = i.0 in
    let f = in_filter test (enumerate_from 0 m.instances) e i.1 in
    let at : slice_get m.instances instance ≡ Some e.1 = subst (λ k. slice_get m.instances k ≡ Some e.1) i.2 (in_numbered m.instances e f.0) in
    (e.1, at, same_names e.1.component type.component (and_parts (same_name e.1.component type.component) (is_under m top e.0) f.1).0)

some_of : {A : Type 0} (o : Option A) → is_some o ≡ true → (x : A) × (o ≡ Some x)
some_of None e = absurd (false≢true e)
some_of (Some x) e = (x, refl)

kind_flow : (kind : ObjectKind) (output : Bool) → kind ≢ Resource → (flow : Flow) × (flow_of kind output ≡ Some flow)
kind_flow Buffer true other = (_, refl)
kind_flow Buffer false other = (_, refl)
kind_flow Stream true other = (_, refl)
kind_flow Stream false other = (_, refl)
kind_flow State true other = (_, refl)
kind_flow State false other = (_, refl)
kind_flow Resource output other = absurd (other refl)

-- a reference of a fresh action
pub record IsOpenReference (m : ModelTree) (x : Act) (type : ActionTree) (r : ℕ) (f : Filled) : Type 0 where
  pub reference : Reference
  pub is : slice_get type.references r ≡ Some reference
  pub pool : served m x.action x.instance r ≡ Some f.pool
  pub flow : reference_flow m reference ≡ Some f.flow
  pub values : f.values ≡ []
  pub object : ObjectTree
  pub there : slice_get m.objects reference.object ≡ Some object
  pub of_pool : pool_object m f.pool ≡ Some object

module _ (m : ModelTree) (sound : IsSound m) (x : Act) (fresh : IsFresh m x) where
  abbrev type : ActionTree
  type = fresh.concrete.type

  rows : map unlinked x.references ≡ map (open_reference m x.action x.instance) (enumerate_from 0 type.references)
  rows = fresh.references ∙ ap (open_references m x.action x.instance) fresh.concrete.is

  mapped : {A B : Type 0} (f : A → B) (o : Option A) (y : B) → option_map f o ≡ Some y → (z : A) × (o ≡ Some z) × (f z ≡ y)
  mapped f None y e = absurd (none-some y e)
  mapped f (Some z) y e = (z, refl, same_Some (f z) y e)

  pub open_is : (r : ℕ) (f : Filled) → slice_get x.references r ≡ Some f → IsOpenReference m x type r f
  open_is r f at =
      let here : 0 + r ≡ r = omega arith in
      let row = get_mapped unlinked x.references r f at in
      let found = mapped (λ reference. open_reference m x.action x.instance (0 + r, reference)) (slice_get type.references r) (unlinked f)
      (sym (get_numbered (open_reference m x.action x.instance) 0 type.references r) ∙ sym (ap (λ fs. slice_get fs r) rows) ∙ row) in
      let reference = found.0 in
      let part = instance_is m type fresh.concrete.top x.instance fresh.concrete.inside in
      let listed : slice_get (objects_of type) r ≡ Some reference.object =
      get_more (map (λ (y : Reference). y.object) type.references) (map (λ (y : Claim). y.object) type.claims) r reference.object (get_mapped (λ (y : Reference). y.object) type.references r reference found.1) in
      let pool = some_of (served m x.action x.instance r) (sound.whole x.action type fresh.concrete.is fresh.concrete.atomic fresh.concrete.concrete x.instance part.0 part.1 part.2 r (slice_get_within (objects_of type) r reference.object listed)) in
      let from = served_pool m sound x.action x.instance r pool.0 type fresh.concrete.is pool.1 in
      let same : from.0.object ≡ reference.object = same_Some from.0.object reference.object (sym from.2 ∙ listed) in
      let action = all_get (IsSoundAction m) m.actions x.action type sound.actions fresh.concrete.is in
      let object = some_and (slice_get m.objects reference.object) (λ (o : ObjectTree). o.kind ≢ Resource) (all_get (λ (y : Reference). IsSomeAnd (slice_get m.objects y.object) (λ o. o.kind ≢ Resource)) type.references r reference action.references found.1) in
      let flow = kind_flow object.0.kind reference.output object.2 in
      let flow_is : reference_flow m reference ≡ Some flow.0 = ap (option_and_then (λ (o : ObjectTree). flow_of o.kind reference.output)) object.1 ∙ flow.1 in
      let own_pool : f.pool ≡ pool.0 = sym (ap (λ (y : Filled). y.pool) found.2) ∙ ap (λ n. unwrap_or (served m x.action x.instance n) 0) here ∙ ap (λ o. unwrap_or o 0) pool.1 in
      let own_flow : f.flow ≡ flow.0 = sym (ap (λ (y : Filled). y.flow) found.2) ∙ ap (λ o. unwrap_or o BufferIn) flow_is in
      record {
        reference = reference;
        is = found.1;
        pool = pool.1 ∙ ap Some (sym own_pool);
        flow = flow_is ∙ ap Some (sym own_flow);
        values = sym (ap (λ (y : Filled). y.values) found.2);
        object = object.0;
        there = object.1;
        of_pool = ap (pool_object m) own_pool ∙ ap (option_and_then (λ (p : Pool). slice_get m.objects p.object)) from.1 ∙ ap (slice_get m.objects) same ∙ object.1;
      }

  pub as_many : length x.references ≡ length type.references
  as_many = sym (length-map x.references unlinked) ∙ ap length rows ∙ length-map (enumerate_from 0 type.references) (open_reference m x.action x.instance) ∙ length_numbered 0 type.references
