-- Scenarios that fit, fit in shape.
use Rattle.std.proofs.Common.{◌≡◌, ℕ, zero, suc, ◌<◌, ◌≤◌, ℤ, List, [], ◌∷◌, ◌++◌, map, length, replicate, take, Bool, true, false, Option, Some, None, refl, sym, ap, ◌∙◌, subst, arith, ⊎_elim}
use Rattle.std.specs.Prelude.{slice_get}
use Rattle.std.specs.List.{AllZip}
use Rattle.std.specs.Option.{option_and_then}
use Rattle.std.proofs.lemmas.Bool.{cases_lt}
use Rattle.std.proofs.lemmas.List.{length-map}
use Rattle.std.proofs.lemmas.Option.{none-some, same_Some, slice_get_within, option_and_then_some}
use Rattle.pst_model.specs.declared.action.Field.{Field}
use Rattle.pst_model.specs.declared.action.Reference.{Reference}
use Rattle.pst_model.specs.declared.model.Pool.{Pool}
use Rattle.pst_model.specs.declared.object.ObjectKind.{ObjectKind}
use Rattle.pst_model.specs.declared.object.ObjectKind.TheVariants.{Buffer, Stream, State, Resource}
use Rattle.pst_model.specs.ModelTree.{ModelTree, ActionTree, ObjectTree}
use Rattle.pst_model.specs.Sound.{IsSound}
use Rattle.pst_scen.specs.declared.act.Act.{Act}
use Rattle.pst_scen.specs.declared.act.Flow.{Flow}
use Rattle.pst_scen.specs.declared.scenario.Scenario.{Scenario}
use Rattle.pst_scen.specs.Scenarios.{leaves_of, IsScenario}
use Rattle.pst_legal.specs.Types.{activity_in, pool_object, flow_of, is_output, action_instances}
use Rattle.pst_legal.specs.Growing.{most_levels}
use Rattle.pst_legal.specs.Pieces.{IsValueOf}
use Rattle.pst_legal.specs.Shape.{HasObjectShape, HasActShape}
use Rattle.pst_legal.specs.Supplied.{IsInferable}
use Rattle.pst_legal.specs.Fits.{IsSameLeaf, AreObjectValues, Fits}
use Rattle.pst_built.specs.Laws.{WholeReadingsAreScenarios, WholeReadingsHaveSources}
use Rattle.pst_built.proofs.SoundActs.{served_pool}
use Rattle.pst_built.specs.Parts.{bare_act}
use Rattle.pst_built.proofs.Lists.{in_contains, get_mapped}
use Rattle.pst_built.proofs.Shown.{take_get}
use Rattle.pst_built.proofs.Activity.{tree_is}
use Rattle.pst_built.specs.ReadFitsLaws.{WholeReadingsFit}
use Rattle.pst_read_legal.specs.ReadShapeLaws.{FittingScenariosHaveShape, WholeReadingsHaveShape}
use Rattle.pst_read_legal.proofs.NodeKinds.{instance_there, IsAtomicAct, AreKinds, tree_kinds}

values_many : (fields : List Field) (values : List ℤ) → AllZip IsValueOf fields values → length values ≡ length fields
values_many [] [] zip = refl
values_many [] (v ∷ values) zip = absurd zip
values_many (field ∷ fields) [] zip = absurd zip
values_many (field ∷ fields) (v ∷ values) zip = ap suc (values_many fields values zip.1)

object_shape : (o : Option ObjectTree) (values : List ℤ) → AreObjectValues o values → HasObjectShape o values
object_shape None values are = absurd are
object_shape (Some object) values are = record { type = object; is = refl; many = values_many object.fields values are }

-- a flow goes the way of its reference
way_of : (kind : ObjectKind) (output : Bool) (flow : Flow) → flow_of kind output ≡ Some flow → is_output flow ≡ output
way_of Buffer true flow e = ap is_output (sym (same_Some _ flow e))
way_of Buffer false flow e = ap is_output (sym (same_Some _ flow e))
way_of Stream true flow e = ap is_output (sym (same_Some _ flow e))
way_of Stream false flow e = ap is_output (sym (same_Some _ flow e))
way_of State true flow e = ap is_output (sym (same_Some _ flow e))
way_of State false flow e = ap is_output (sym (same_Some _ flow e))
way_of Resource output flow e = absurd (none-some flow e)

-- the leaves at the front of the actions
leaf_at : (xs ys : List Act) → AllZip IsSameLeaf (take (length ys) xs) ys → (k : ℕ) (x y : Act) → slice_get xs k ≡ Some x → slice_get ys k ≡ Some y → IsSameLeaf x y
leaf_at xs [] zip k x y at is = absurd (none-some y is)
leaf_at [] (y ∷ ys) zip k x z at is = absurd (none-some x at)
leaf_at (x ∷ xs) (y ∷ ys) zip zero a b at is = subst (λ v. IsSameLeaf v b) (same_Some x a at) (subst (IsSameLeaf x) (same_Some y b is) zip.0)
leaf_at (x ∷ xs) (y ∷ ys) zip (suc k) a b at is = leaf_at xs ys zip.1 k a b at is

behind : (n a : ℕ) (y : Option ℕ) → slice_get (replicate n None) a ≡ Some y → y ≡ None
behind zero a y is = absurd (none-some y is)
behind (suc n) zero y is = sym (same_Some None y is)
behind (suc n) (suc a) y is = behind n a y is

behind_all : (xs : List (Option ℕ)) (n a : ℕ) (y : Option ℕ) → length xs ≤ a → slice_get (xs ++ replicate n None) a ≡ Some y → y ≡ None
behind_all [] n a y most is = behind n a y is
behind_all (x ∷ xs) n zero y most is = absurd (omega (arith, most))
behind_all (x ∷ xs) n (suc a) y most is = behind_all xs n a y (omega (arith, most)) is

-- an action behind the leaves has no node
behind_leaves : (m : ModelTree) (root : ℕ) (s : Scenario) → IsScenario s → (fits : Fits m root s) → (a : ℕ) (act : Act) → slice_get s.actions a ≡ Some act → slice_get fits.tree.tree.actions a ≡ None → act.node ≡ None
behind_leaves m root s scenario fits a act at none =
    let leaves = length (leaves_of s.nodes) in
    let gone : slice_get (map bare_act (take leaves s.actions)) a ≡ None = ap (λ (t : Scenario). slice_get t.actions a) (sym (tree_is m root s fits)) ∙ none in
    ⊎_elim (λ (l : a < leaves). absurd (none-some (bare_act act) (sym gone ∙ get_mapped bare_act (take leaves s.actions) a act (take_get leaves s.actions a l ∙ at))))
    (λ (l : leaves ≤ a).
    let many = length-map (leaves_of s.nodes) (λ e. Some e.1) in
    behind_all (map (λ e. Some e.1) (leaves_of s.nodes)) s.level a act.node (omega (arith, many, l))
    (sym (ap (λ xs. slice_get xs a) scenario.leaves.nodes) ∙ get_mapped (λ (x : Act). x.node) s.actions a act at))
    (cases_lt a leaves)

module _ (m : ModelTree) (root : ℕ) (s : Scenario) (sound : IsSound m) (fits : Fits m root s) (atomic : (a : ℕ) (act : Act) → slice_get s.actions a ≡ Some act → IsAtomicAct m act.action act.instance) where
  act_shape : (a : ℕ) (act : Act) → slice_get s.actions a ≡ Some act → HasActShape m act
  act_shape a act at =
      let of = fits.values.acts a act at in
      let kind = atomic a act at in
      let same : kind.type ≡ of.type = same_Some kind.type of.type (sym kind.is ∙ of.is) in
      record {
        type = of.type;
        is = of.is;
        atomic = subst (λ (t : ActionTree). activity_in t.content ≡ None) same kind.atomic;
        inside = kind.inside;
        many_fields = values_many of.type.fields act.fields of.fields;
        many_references = of.many_references;
        references = λ k reference filled is_reference is_filled.
            let r = of.references k filled is_filled in
            let own : r.reference ≡ reference = same_Some r.reference reference (sym (sym (ap (option_and_then (λ (t : ActionTree). slice_get t.references k)) of.is) ∙ r.is) ∙ is_reference) in
            let pool = served_pool m sound act.action act.instance k filled.pool of.type of.is r.pool in
            option_and_then_some (λ (o : ObjectTree). flow_of o.kind r.reference.output) (slice_get m.objects r.reference.object) filled.flow r.flow
            (λ object there flows.
            let way = way_of object.kind r.reference.output filled.flow flows in
            record {
              pool = slice_get_within m.pools filled.pool pool.0 pool.1;
              output = λ yes. subst (λ (x : Reference). HasObjectShape (slice_get m.objects x.object) filled.values) own
                  (object_shape (slice_get m.objects r.reference.object) filled.values (r.output (way ∙ ap (λ (x : Reference). x.output) own ∙ yes)));
              input = λ no. r.input (way ∙ ap (λ (x : Reference). x.output) own ∙ no);
            });
        many_claims = of.many_claims;
        claims = λ k claim claimed is_claim is_claimed.
            let c = of.claims k claim claimed is_claim is_claimed in
            record { pool = slice_get_within m.pools claimed.pool c.pool c.is; values = object_shape (slice_get m.objects claim.object) claimed.values c.values };
      }

pub has_shape : FittingScenariosHaveShape
has_shape m root s sound scenario fits inferable =
    let kinds = tree_kinds m most_levels root s.level fits.tree.tree fits.tree.fills in
    let tree = fits.tree.tree in
    let atomic : (a : ℕ) (act : Act) → slice_get s.actions a ≡ Some act → IsAtomicAct m act.action act.instance = λ a act at.
    by_leaf a act at (slice_get tree.actions a) refl kinds in
    record {
      compounds = λ n action instance fields node is filled. kinds.nodes n node (ap (λ ns. slice_get ns n) (sym fits.tree.nodes) ∙ is) action instance fields filled;
      acts = act_shape m root s sound fits atomic;
      pools = λ k first is.
          let are = fits.values.firsts k first is in
          pool_there first.pool (slice_get m.pools first.pool) refl (object_shape (pool_object m first.pool) first.values are);
      firsts = λ k first is. object_shape (pool_object m first.pool) first.values (fits.values.firsts k first is);
    }
  where
    pool_there : (pool : ℕ) (o : Option Pool) → slice_get m.pools pool ≡ o → {values : List ℤ} → HasObjectShape (option_and_then (λ (p : Pool). slice_get m.objects p.object) o) values → pool < length m.pools
    pool_there pool None is shape = absurd (none-some shape.type shape.is)
    pool_there pool (Some p) is shape = slice_get_within m.pools pool p is

    by_leaf : (a : ℕ) (act : Act) → slice_get s.actions a ≡ Some act → (o : Option Act) → slice_get fits.tree.tree.actions a ≡ o → AreKinds m fits.tree.tree → IsAtomicAct m act.action act.instance
    by_leaf a act at (Some leaf) is kinds =
        let same = leaf_at s.actions fits.tree.tree.actions fits.tree.leaves a act leaf at is in
        subst (λ n. IsAtomicAct m n act.instance) (sym same.action) (subst (λ n. IsAtomicAct m leaf.action n) (sym same.instance) (kinds.leaves a leaf is))
    by_leaf a act at None is kinds = inferred (inferable a act at (no_leaf a act at is))
      where
        inferred : IsInferable m act → IsAtomicAct m act.action act.instance
        inferred i = record { type = i.type; is = i.is; atomic = i.atomic; inside = instance_there m i.type None act.instance (in_contains (action_instances m (Some i.type) None) act.instance i.inside) }

        no_leaf : (a : ℕ) (act : Act) → slice_get s.actions a ≡ Some act → slice_get fits.tree.tree.actions a ≡ None → act.node ≡ None
        no_leaf a act at is = behind_leaves m root s scenario fits a act at is

pub whole_has_shape : WholeReadingsAreScenarios → WholeReadingsHaveSources → WholeReadingsFit → WholeReadingsHaveShape
whole_has_shape scenarios sources fit m root seed level choices s sound concrete e =
    has_shape m root s sound (scenarios m root seed level choices s sound concrete e) (fit m root seed level choices s sound concrete e) (sources m root seed level choices s e).inferred
