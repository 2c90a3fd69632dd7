-- Each value of the first objects is read by some choices.
use Rattle.std.proofs.Common.{◌≡◌, ◌≢◌, ℕ, zero, suc, ◌<◌, ℤ, List, [], ◌∷◌, ◌++◌, map, length, AllPairs, Bool, true, false, nat_eq, if◌then◌else◌, Some, refl, sym, ap, ap₂, ◌∙◌, subst, arith, append_assoc, inl, inr, ⊎_elim}
use Rattle.std.specs.Prelude.{slice_get, flat_map}
use Rattle.std.specs.Option.{option_and_then}
use Rattle.std.proofs.lemmas.Bool.{eqb-true, eq-eqb, false_from_ne_true}
use Rattle.std.proofs.lemmas.Option.{none-some, same_Some, slice_get_within, get_or_from_slice_get, option_and_then_some}
use Rattle.pst_model.specs.declared.object.ObjectKind.{ObjectKind}
use Rattle.pst_model.specs.declared.object.ObjectKind.TheVariants.{Buffer, Stream, State, Resource}
use Rattle.pst_model.specs.ModelTree.{ModelTree, ObjectTree}
use Rattle.pst_model.specs.Sound.{IsSound}
use Rattle.pst_scen.specs.declared.act.Act.{Act}
use Rattle.pst_scen.specs.declared.act.Flow.{Flow}
use Rattle.pst_scen.specs.declared.act.Link.{Link}
use Rattle.pst_scen.specs.declared.scenario.First.{First}
use Rattle.pst_scen.specs.declared.scenario.Scenario.{Scenario}
use Rattle.pst_scen.specs.Flows.{Refers}
use Rattle.pst_scen.specs.Conflicts.{Uses}
use Rattle.pst_scen.specs.Scenarios.{HasFirsts, IsScenario}
use Rattle.pst_legal.specs.Types.{same_kind, has_kind, is_state_pool, pool_object, flow_of}
use Rattle.pst_legal.specs.Fits.{AreObjectValues, IsActOf}
use Rattle.pst_legal.specs.SupplyReading.{is_state}
use Rattle.pst_legal.specs.Blanks.{OfFirst, places, fields_of, first_blanks, domain_in, option_value, used_state_pools}
use Rattle.pst_legal.specs.ValueReading.{more_values, first_with_value, empty_first}
use Rattle.pst_built.proofs.Members.{In, in_append, to_map, in_map, to_contains}
use Rattle.pst_built.proofs.Bares.{Bare, bare, bares_in, bares, node_in, kind_in, bare_of}
use Rattle.pst_built.proofs.SoundActs.{in_place, ArePooled}
use Rattle.pst_built.proofs.Values.{IsSameOrder}
use Rattle.pst_built.proofs.Firsts.{has_firsts}
use Rattle.pst_built.specs.Parts.{without_values, linked_act, links_alone}
use Rattle.pst_built.proofs.Lists.{in_contains}
use Rattle.pst_built.proofs.Blanks.{Steps, steps_join, values_steps}
use Rattle.pst_built.proofs.ReachedValues.{pool_field_is, object_values, object_of}

-- ---- ascending numbers

rest_ascends : (x : ℕ) (xs : List ℕ) → AllPairs ◌<◌ (x ∷ xs) → AllPairs ◌<◌ xs
rest_ascends x xs pairs i j d l n = pairs (suc i) (suc j) d (omega (arith, l)) (omega (arith, n))

first_least : (x : ℕ) (xs : List ℕ) (y : ℕ) → AllPairs ◌<◌ (x ∷ xs) → In y xs → x < y
first_least x xs y pairs has =
    let j = in_place xs y has in
    let n = slice_get_within xs j.0 y j.1 in
    subst (λ v. x < v) (get_or_from_slice_get xs j.0 y y j.1) (pairs zero (suc j.0) y (omega arith) (omega (arith, n)))

same_ascending : (xs ys : List ℕ) → AllPairs ◌<◌ xs → AllPairs ◌<◌ ys → ((z : ℕ) → In z xs → In z ys) → ((z : ℕ) → In z ys → In z xs) → xs ≡ ys
same_ascending [] [] one other on back = refl
same_ascending [] (y ∷ ys) one other on back = absurd (back y (inl refl))
same_ascending (x ∷ xs) [] one other on back = absurd (on x (inl refl))
same_ascending (x ∷ xs) (y ∷ ys) one other on back =
    let same : x ≡ y =
    ⊎_elim (λ (e : y ≡ x). sym e)
    (λ (h : In x ys). ⊎_elim (λ (e : x ≡ y). e) (λ (k : In y xs). let a = first_least y ys x other h in let b = first_least x xs y one k in absurd (omega (arith, a, b))) (back y (inl refl)))
    (on x (inl refl)) in
    ap₂ (λ a b. a ∷ b) same
    (same_ascending xs ys (rest_ascends x xs one) (rest_ascends y ys other)
    (λ z has. ⊎_elim (λ (e : y ≡ z). let l = first_least x xs z one has in absurd (omega (arith, l, same, e))) (λ (h : In z ys). h) (on z (inr has)))
    (λ z has. ⊎_elim (λ (e : x ≡ z). let l = first_least y ys z other has in absurd (omega (arith, l, same, e))) (λ (h : In z xs). h) (back z (inr has))))

-- ---- the same references

mapped_twice : {A B C : Type 0} (g : B → C) (f : A → B) (h : A → C) (xs : List A) → ((x : A) → g (f x) ≡ h x) → map g (map f xs) ≡ map h xs
mapped_twice g f h [] each = refl
mapped_twice g f h (x ∷ xs) each = ap₂ (λ a b. a ∷ b) (each x) (mapped_twice g f h xs each)

bares_linked : (acts : List Act) → bares (map linked_act acts) ≡ bares acts
bares_linked acts = mapped_twice bares_in linked_act bares_in acts (λ x. mapped_twice bare without_values bare x.references (λ f. refl))

state_kind : (kind : ObjectKind) (output : Bool) (flow : Flow) → flow_of kind output ≡ Some flow → same_kind kind State ≡ is_state flow
state_kind Buffer true flow e = ap is_state (same_Some _ flow e)
state_kind Buffer false flow e = ap is_state (same_Some _ flow e)
state_kind Stream true flow e = ap is_state (same_Some _ flow e)
state_kind Stream false flow e = ap is_state (same_Some _ flow e)
state_kind State true flow e = ap is_state (same_Some _ flow e)
state_kind State false flow e = ap is_state (same_Some _ flow e)
state_kind Resource output flow e = absurd (none-some flow e)

refers_as : (s t : Scenario) (a pool : ℕ) (flow : Flow) (to : Link) → s.actions ≡ t.actions → Refers s a flow pool to → Refers t a flow pool to
refers_as s t a pool flow to same r = record {
  act = r.act;
  reference = r.reference;
  filled = r.filled;
  is_act = subst (λ acts. slice_get acts a ≡ Some r.act) same r.is_act;
  is = r.is;
  of_flow = r.of_flow;
  of_pool = r.of_pool;
  linked = r.linked;
}

uses_as : (s t : Scenario) (a pool : ℕ) → s.actions ≡ t.actions → Uses s a pool → Uses t a pool
uses_as s t a pool same (to, inl reads) = (to, inl (refers_as s t a pool _ to same reads))
uses_as s t a pool same (to, inr writes) = (to, inr (refers_as s t a pool _ to same writes))

pools_of : (pools : List ℕ) → map (λ (f : First). f.pool) (map empty_first pools) ≡ pools
pools_of [] = refl
pools_of (pool ∷ more) = ap (λ ps. pool ∷ ps) (pools_of more)

-- a first object without its values
abbrev pub bare_first : First → First
bare_first first = record first { values = [] }

module _ (m : ModelTree) (sound : IsSound m) (s : Scenario) (scenario : IsScenario s) (of : (a : ℕ) (act : Act) → slice_get s.actions a ≡ Some act → IsActOf m act) where
  pooled : ArePooled m (bares (map linked_act s.actions))
  pooled a r x is =
      let f = bare_of s.actions a r x (ap (λ rows. option_and_then (λ xs. slice_get xs r) (slice_get rows a)) (sym (bares_linked s.actions)) ∙ is) in
      option_and_then_some (λ (y : Act). slice_get y.references r) (slice_get s.actions a) f.0 f.1
      (λ act there has.
      let own = (of a act there).references r f.0 has in
      option_and_then_some (λ (object : ObjectTree). flow_of object.kind own.reference.output) (slice_get m.objects own.reference.object) f.0.flow own.flow
      (λ object at flow.
      ap (is_state_pool m) (sym (ap (λ (v : Bare). v.pool) f.2))
      ∙ ap (has_kind State) (object_of m sound act (of a act there) r f.0 has ∙ at)
      ∙ state_kind object.kind own.reference.output f.0.flow flow
      ∙ ap is_state (ap (λ (v : Bare). v.flow) f.2)))

  pub used_is : used_state_pools m (map linked_act s.actions) ≡ map (λ (f : First). f.pool) s.firsts
  used_is =
      let pools = used_state_pools m (map linked_act s.actions) in
      let t : Scenario = record { level = s.level; nodes = s.nodes; actions = s.actions; firsts = map empty_first pools } in
      let same : IsSameOrder (links_alone s) t = record {
        level = refl;
        nodes = refl;
        acts = sym (mapped_twice node_in linked_act node_in s.actions (λ x. refl));
        kinds = sym (mapped_twice kind_in linked_act kind_in s.actions (λ x. refl));
        references = sym (bares_linked s.actions);
      } in
      let own : HasFirsts t = has_firsts m (links_alone s) t (record { same = same; firsts = pools_of pools }) pooled in
      let listed : map (λ (f : First). f.pool) t.firsts ≡ pools = pools_of pools in
      let given = scenario.firsts in
      sym listed
      ∙ same_ascending (map (λ (f : First). f.pool) t.firsts) (map (λ (f : First). f.pool) s.firsts) own.ascending given.ascending
      (λ pool has. let u = (own.used pool).0 (to_contains (map (λ (f : First). f.pool) t.firsts) pool has) in in_contains (map (λ (f : First). f.pool) s.firsts) pool ((given.used pool).1 (u.0, uses_as t s u.0 pool refl u.1)))
      (λ pool has. let u = (given.used pool).0 (to_contains (map (λ (f : First). f.pool) s.firsts) pool has) in in_contains (map (λ (f : First). f.pool) t.firsts) pool ((own.used pool).1 (u.0, uses_as s t u.0 pool refl u.1)))

-- ---- the values of first objects

other_first : (pool : ℕ) (v : ℤ) (x : First) → x.pool ≢ pool → first_with_value pool v x ≡ x
other_first pool v x other = ap (λ b. if b then record x { values = more_values v x.values } else x) (false_from_ne_true (nat_eq x.pool pool) (λ e. other (eqb-true x.pool pool e)))

others_stay : (pool : ℕ) (v : ℤ) (xs : List First) → ((x : First) → In x xs → x.pool ≢ pool) → map (first_with_value pool v) xs ≡ xs
others_stay pool v [] each = refl
others_stay pool v (x ∷ xs) each = ap₂ (λ a b. a ∷ b) (other_first pool v x (each x (inl refl))) (others_stay pool v xs (λ y has. each y (inr has)))

first_at : (pool : ℕ) (v : ℤ) (known : List ℤ) (before after : List First) → ((x : First) → In x before → x.pool ≢ pool) → ((x : First) → In x after → x.pool ≢ pool)
    → map (first_with_value pool v) (before ++ record { pool = pool; values = known } ∷ after) ≡ before ++ record { pool = pool; values = more_values v known } ∷ after
first_at pool v known [] after early late =
    ap₂ (λ a b. a ∷ b) (ap (λ b. if b then record { pool = pool; values = more_values v known } else record { pool = pool; values = known }) (eq-eqb pool pool refl)) (others_stay pool v after late)
first_at pool v known (x ∷ before) after early late =
    ap₂ (λ a b. a ∷ b) (other_first pool v x (early x (inl refl))) (first_at pool v known before after (λ y has. early y (inr has)) late)

module _ (m : ModelTree) (t : Scenario) where
  abbrev having : List First → Scenario
  having firsts = record t { firsts = firsts }

  first_steps : (x : First) (before after : List First) → AreObjectValues (pool_object m x.pool) x.values → ((y : First) → In y before → y.pool ≢ x.pool) → ((y : First) → In y after → y.pool ≢ x.pool)
      → Steps m (first_blanks m x.pool) (having (before ++ bare_first x ∷ after)) (having (before ++ x ∷ after))
  first_steps x before after are early late =
      let object = object_values (pool_object m x.pool) x.values are in
      let there = λ (known : List ℤ). having (before ++ record { pool = x.pool; values = known } ∷ after) in
      subst (λ o. Steps m (map (OfFirst x.pool) (places (fields_of o))) (there []) (there x.values)) (sym object.1)
      (values_steps m (OfFirst x.pool) there object.0.fields
      (λ known field has. ap domain_in (pool_field_is m x.pool (length known) object.0 object.1 ∙ has))
      (λ known k. ap having (first_at x.pool (option_value m t.actions (OfFirst x.pool (length known)) k) known before after early late)) x.values object.2)

  pub firsts_steps : (before todo : List First) → ((y : First) → In y todo → AreObjectValues (pool_object m y.pool) y.values) → ((x y : First) → In x before → In y todo → x.pool < y.pool) → AllPairs ◌<◌ (map (λ (f : First). f.pool) todo)
      → Steps m (flat_map (first_blanks m) (map (λ (f : First). f.pool) todo)) (having (before ++ map bare_first todo)) (having (before ++ todo))
  firsts_steps before [] are below rising = refl
  firsts_steps before (x ∷ xs) are below rising =
      let late : (y : First) → In y (map bare_first xs) → y.pool ≢ x.pool = λ y has e.
      let i = in_map bare_first xs y has in
      let l = first_least x.pool (map (λ (f : First). f.pool) xs) i.0.pool rising (to_map (λ (f : First). f.pool) xs i.0 i.1) in
      let same : i.0.pool ≡ y.pool = ap (λ (f : First). f.pool) i.2 in
      omega (arith, l, same, e) in
      let one = first_steps x before (map bare_first xs) (are x (inl refl)) (λ y has e. let l = below y x has (inl refl) in omega (arith, l, e)) late in
      let next = before ++ x ∷ [] in
      let rest = firsts_steps next xs (λ y has. are y (inr has))
      (λ y z has at.
      ⊎_elim (λ (old : In y before). below y z old (inr at))
      (λ (new : In y (x ∷ [])).
      ⊎_elim (λ (e : x ≡ y). let l = first_least x.pool (map (λ (f : First). f.pool) xs) z.pool rising (to_map (λ (f : First). f.pool) xs z at) in let same : x.pool ≡ y.pool = ap (λ (f : First). f.pool) e in let r : y.pool < z.pool = omega (arith, l, same) in r) (λ none. absurd none) new)
      (in_append before (x ∷ []) y has))
      (rest_ascends x.pool (map (λ (f : First). f.pool) xs) rising) in
      let moved = subst (λ ys. Steps m (flat_map (first_blanks m) (map (λ (f : First). f.pool) xs)) (having ys) (having (next ++ xs))) (append_assoc before (x ∷ []) (map bare_first xs)) rest in
      let last = subst (λ ys. Steps m (flat_map (first_blanks m) (map (λ (f : First). f.pool) xs)) (having (before ++ x ∷ map bare_first xs)) (having ys)) (append_assoc before (x ∷ []) xs) moved in
      steps_join m (first_blanks m x.pool) (flat_map (first_blanks m) (map (λ (f : First). f.pool) xs)) (having (before ++ bare_first x ∷ map bare_first xs)) (having (before ++ x ∷ map bare_first xs)) (having (before ++ x ∷ xs)) one last
