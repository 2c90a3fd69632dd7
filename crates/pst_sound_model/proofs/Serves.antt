-- What pools serve is of their object types.
use Rattle.std.proofs.Common.{◌≡◌, ◌≢◌, ◌⊎◌, inl, inr, refl, sym, ap, subst, arith, ◌∙◌}
use Rattle.std.specs.Prelude.{ℕ, nat_eq, Bool, true, false, not, ◌&&◌, List, [], ◌∷◌, ◌++◌, map, length, slice_get, All, Option, Some, None, option_and_then, if◌then◌else◌}
use Rattle.std.specs.List.{filter, flat_map, enumerate_from, list_any}
use Rattle.std.specs.Option.{option_map, option_map_or}
use Rattle.std.specs.Option.{IsSomeAnd}
use Rattle.std.proofs.lemmas.Bool.{false≢true, eqb-true}
use Rattle.std.proofs.lemmas.List.{length-map, map-append}
use Rattle.std.proofs.lemmas.List.Elements.{All-map}
use Rattle.std.proofs.lemmas.Option.{none-some, same_Some, slice_get_within}
use Rattle.pst_base.specs.declared.position.Place.{Place}
use Rattle.pst_ast.specs.declared.leaf.Name.{Name}
use Rattle.pst_ast.specs.declared.instance.Instance.{Instance}
use Rattle.pst_ast.specs.DeclarationTree.{UnitTree}
use Rattle.pst_expr.specs.declared.ranges.Span.{Span}
use Rattle.pst_model.specs.declared.model.Pool.{Pool}
use Rattle.pst_model.specs.declared.action.Reference.{Reference}
use Rattle.pst_model.specs.declared.action.Claim.{Claim}
use Rattle.pst_model.specs.ModelTree.{ModelTree}
use Rattle.pst_model.specs.Served.{objects_of, IsSoundServe}
use Rattle.pst_ast.specs.Breaches.{IsNone}
use Rattle.pst_ast.specs.declared.scope_declaration.Declaration.{Declaration}
use Rattle.pst_ast.specs.declared.scope_declaration.Scope.TheVariants.{Files, Part}
use Rattle.pst_ast.specs.declared.scope_declaration.Sort.{Sort}
use Rattle.pst_ast.specs.declared.scope_declaration.Sort.TheVariants as sort
use Rattle.pst_ast.specs.declared.referent.Checked.{Checked}
use Rattle.pst_ast.specs.declared.referent.Checked.TheVariants.{Is, Breaks}
use Rattle.pst_ast.specs.declared.referent.Target.{Target}
use Rattle.pst_ast.specs.Declarations.{level_of, declarations}
use Rattle.pst_ast.specs.Lookups.{look_up, declared_at, if_sort, member_of, type_of}
use Rattle.pst_ast.specs.Paths.{and_then}
use Rattle.pst_ast.specs.NameRules.{NameBreach, found, named_in, named_within, or_breaks, along, target_of}
use Rattle.pst_ast.specs.Sorts.{is_action, is_object, is_pool, is_reference, is_claim, is_need, same_name, same_place}
use Rattle.pst_ast.specs.Uses.{Use, Judges, HasPlain, HasType, Uniques, Branches, Arms, Performs, Ties, Passes, Reads, Repeats, TakesItem, NamesType, NamesBase, Calls, Assigns, Traverses, Ends, Joins, Binds, Targets, uses}
use Rattle.pst_type_rules.specs.Members.{those_that}
use Rattle.pst_type_rules.specs.TypeRules.{first_name, TypeBreach, OfUse, OtherObject}
use Rattle.pst_type_rules.specs.declared.typed.ConstantValue.{ConstantValue}
use Rattle.pst_type_rules.specs.Typed.{AreConstants}
use Rattle.pst_tree.specs.Bases.{members, references_of, claims_of, needs_of, object_number}
use Rattle.pst_tree.specs.Instances.{AreInstances, part_of}
use Rattle.pst_pool_binds.specs.PoolBinds.{ExplicitBind, explicit_of, explicit_binds, default_binds}
use Rattle.pst_bind.specs.declared.pool_map.Served.{Served}
use Rattle.pst_bind.specs.Pools.{component_of, component_at, pools, pool_number}
use Rattle.pst_bind.specs.Serving.{with_those_above, led_to, stands_in, pool_bound, leads_to, names_just, explicit_in, is_same, is_of_type, default_in, first_filled, candidates, only_one, serving_pool}
use Rattle.pst_bind.specs.Needs.{Need, is_performed, numbered_actions, is_there, is_home, homes_of, needs_in, needs, served_by, serving, served}
use Rattle.pst_terms.specs.Sources.{Sources}
use Rattle.pst_elab_rules.specs.Model.{model_pool, serve_of, sources, model_by, IsModel}
use Rattle.pst_elab_rules.specs.Types.{object_of, reference, claim, model_action, model_actions}
use Rattle.pst_sound_model.specs.SoundExpressionsConditions.{HaveOwnPlaces}
use Rattle.pst_sound_model.proofs.Members.{In, in_get, in_filter, in_map, in_append, in_flat_map, in_numbered, to_contains}
use Rattle.pst_sound_model.proofs.Owned.{both_true, looked_up, those_declared, member_declared}
use Rattle.pst_sound_model.proofs.ActionRows.{type_declared, some_and, got_map}
use Rattle.pst_sound_model.proofs.ConstantsIn.{same_places}
use Rattle.pst_sound_model.proofs.Facts.{AreFacts}
use Rattle.pst_sound_model.proofs.FactsOf.{facts_of}
use Rattle.pst_sound_model.proofs.Plain.{in_filter_map}
use Rattle.pst_sound_model.proofs.NeedsSound.{all_in}
use Rattle.pst_sound_model.proofs.PoolsSound.{pool_is, pool_object}
use Rattle.pst_sound_model.proofs.Typed.{nothing_found, reference_typed, claim_typed}
use Rattle.pst_sound_model.proofs.Levels.{IsLevelled, Inner, OfFiles, AtLevel, levelled}
use Rattle.pst_sound_model.proofs.Named.{same_names, same_place_itself, action_outer, one_place, placed, member_named}
use Rattle.pst_sound_model.proofs.Leads.{at_position, and_then_gave, sort_gave, is_same as same_checked, checked_gave, or_gave, named_is, leads}

-- ---- the targets of binds

explicit_is : (u : Use) (b : ExplicitBind) → explicit_of u ≡ Some b → u ≡ Targets b.component b.pool b.instances b.action b.need
explicit_is (Judges at role expr) b e = absurd (none-some b e)
explicit_is (HasPlain at plain) b e = absurd (none-some b e)
explicit_is (HasType at type) b e = absurd (none-some b e)
explicit_is (Uniques items) b e = absurd (none-some b e)
explicit_is (Branches places) b e = absurd (none-some b e)
explicit_is (Arms at labels) b e = absurd (none-some b e)
explicit_is (Performs at place traversal) b e = absurd (none-some b e)
explicit_is (Ties at first others) b e = absurd (none-some b e)
explicit_is (Passes component name arguments needed) b e = absurd (none-some b e)
explicit_is (Reads at first rest) b e = absurd (none-some b e)
explicit_is (Repeats at first rest) b e = absurd (none-some b e)
explicit_is (TakesItem at component enum item) b e = absurd (none-some b e)
explicit_is (NamesType component wanted name) b e = absurd (none-some b e)
explicit_is (NamesBase action name) b e = absurd (none-some b e)
explicit_is (Calls component name) b e = absurd (none-some b e)
explicit_is (Assigns at name) b e = absurd (none-some b e)
explicit_is (Traverses at name) b e = absurd (none-some b e)
explicit_is (Ends at handle reference) b e = absurd (none-some b e)
explicit_is (Joins labels name) b e = absurd (none-some b e)
explicit_is (Binds component pool) b e = absurd (none-some b e)
explicit_is (Targets component pool instances action reference) b e =
    ap (λ (x : ExplicitBind). Targets x.component x.pool x.instances x.action x.need) (same_Some (record { component = component; pool = pool; instances = instances; action = action; need = reference }) b e)

found_is : {X : Type 0} (c : Checked X) → found c ≡ None → (x : X) × (c ≡ Is x)
found_is (Is x) e = (x, refl)
found_is (Breaks place rule) e = absurd (none-some (record { place = place; rule = rule }) (sym e))

-- ---- candidates

filled_in : (lists : List (List ℕ)) (p : ℕ) → In p (first_filled lists) → (list : List ℕ) × In list lists × In p list
filled_in [] p there = absurd there
filled_in ([] ∷ more) p there = let r = filled_in more p there in (r.0, inr r.1, r.2)
filled_in ((q ∷ qs) ∷ more) p there = (q ∷ qs, inl refl, there)

only_in : (list : List ℕ) (p : ℕ) → only_one list ≡ Some p → In p list
only_in [] p e = absurd (none-some p e)
only_in (q ∷ more) p e = by (list_any (λ r. not (nat_eq r q)) more) e
  where
    by : (b : Bool) → (if b then None else Some q) ≡ Some p → In p (q ∷ more)
    by true e = absurd (none-some p e)
    by false e = inl (same_Some q p e)

if_gave : {A : Type 0} (test : Bool) (o : Option A) (x : A) → (if test then o else None) ≡ Some x → (test ≡ true) × (o ≡ Some x)
if_gave true o x e = (refl, e)
if_gave false o x e = absurd (none-some x e)

led_true : (o : Option ℕ) (to : ℕ) → option_map_or (nat_eq to) o false ≡ true → o ≡ Some to
led_true None to e = absurd (false≢true e)
led_true (Some n) to e = ap (λ (k : ℕ). Some k) (sym (eqb-true to n e))

there_true : (inside : Option Place) (o : Option Declaration) → is_there inside o ≡ true → (c : Declaration) × (o ≡ Some c) × (inside ≡ Some c.name.place)
there_true None o e = absurd (false≢true e)
there_true (Some place) None e = absurd (false≢true e)
there_true (Some place) (Some c) e = (c, refl, ap (λ (p : Place). Some p) (sym (same_places c.name.place place e)))

same_true : (a b : Option Declaration) → is_same a b ≡ true → (x : Declaration) × (y : Declaration) × (a ≡ Some x) × (b ≡ Some y) × (same_place x.name.place y.name.place ≡ true)
same_true None b e = absurd (false≢true e)
same_true (Some x) None e = absurd (false≢true e)
same_true (Some x) (Some y) e = (x, y, refl, refl, e)

some_true : (o : Option Declaration) (p : Place) → option_map_or (λ c. same_place c.name.place p) o false ≡ true → (c : Declaration) × (o ≡ Some c) × (same_place c.name.place p ≡ true)
some_true None p e = absurd (false≢true e)
some_true (Some c) p e = (c, refl, e)

need_cases : (so : Sort) → is_need so ≡ true → (is_reference so ≡ true) ⊎ (is_claim so ≡ true)
need_cases sort.Component e = absurd (false≢true e)
need_cases (sort.Action base) e = absurd (false≢true e)
need_cases (sort.Object word) e = absurd (false≢true e)
need_cases sort.Enumeration e = absurd (false≢true e)
need_cases sort.Function e = absurd (false≢true e)
need_cases (sort.Instance of) e = absurd (false≢true e)
need_cases (sort.Pool of) e = absurd (false≢true e)
need_cases (sort.Item level) e = absurd (false≢true e)
need_cases (sort.Field array) e = absurd (false≢true e)
need_cases (sort.Reference of output) e = inl refl
need_cases (sort.Claim of) e = inr refl
need_cases (sort.Handle of) e = absurd (false≢true e)
need_cases sort.Constraint e = absurd (false≢true e)
need_cases sort.Parameter e = absurd (false≢true e)
need_cases sort.Local e = absurd (false≢true e)
need_cases sort.Index e = absurd (false≢true e)

module _ (units : List UnitTree) (names : List (List ℕ)) (constants : List ConstantValue) (constants_are : AreConstants units names constants) (own : HaveOwnPlaces (declarations units)) (right : IsNone (NameBreach units names)) (kept : IsNone (TypeBreach units names))
    (domains : List (List Span)) (instances : List Instance) (are : AreInstances units names instances) where
  abbrev s : Sources
  s = sources units names constants

  abbrev ds : List Declaration
  ds = declarations units

  facts : AreFacts s
  facts = facts_of units names constants constants_are kept own

  -- ---- references and claims that are served

  -- a reference or claim of an action in an instance of its component
  record IsRight (n : Need) : Type 0 where
    at : slice_get (those_that is_action ds) n.number ≡ Some n.action
    there : In n.action ds
    home : Instance
    here : slice_get instances n.instance ≡ Some home
    is_home_is : is_home ds n.action home ≡ true
    listed : slice_get (needs_of ds n.action) n.reference ≡ Some n.need

  need_right : (n : Need) → In n (needs units instances) → IsRight n
  need_right n there =
      let a = in_flat_map (λ (x : ℕ × Declaration). flat_map (needs_in ds x) (homes_of ds instances x.1)) (filter (λ (x : ℕ × Declaration). is_performed units x.1) (numbered_actions ds)) n there in
      let numbered = in_numbered (those_that is_action ds) a.0 (in_filter (λ (x : ℕ × Declaration). is_performed units x.1) (numbered_actions ds) a.0 a.1).0 in
      let i = in_flat_map (needs_in ds a.0) (homes_of ds instances a.0.1) n a.2 in
      let h = in_map (λ (x : ℕ × Instance). x.0) (filter (λ (x : ℕ × Instance). is_home ds a.0.1 x.1) (enumerate_from 0 instances)) i.0 i.1 in
      let f = in_filter (λ (x : ℕ × Instance). is_home ds a.0.1 x.1) (enumerate_from 0 instances) h.0 h.1 in
      let m = in_map (λ (y : ℕ × Declaration). record { number = a.0.0; action = a.0.1; instance = i.0; reference = y.0; need = y.1 }) (enumerate_from 0 (needs_of ds a.0.1)) n i.2 in
      subst IsRight m.2 (record {
        at = numbered;
        there = (those_declared is_action ds a.0.1 (in_get (those_that is_action ds) a.0.0 a.0.1 numbered)).0;
        home = h.0.1;
        here = subst (λ (k : ℕ). slice_get instances k ≡ Some h.0.1) h.2 (in_numbered instances h.0 f.0);
        is_home_is = f.1;
        listed = in_numbered (needs_of ds a.0.1) m.0 m.1;
      })

  module _ (n : Need) (r : IsRight n) where
    in_members : In n.need (members ds n.action) × (is_need n.need.sort ≡ true)
    in_members = by (in_append (references_of ds n.action) (claims_of ds n.action) n.need (in_get (needs_of ds n.action) n.reference n.need r.listed))
      where
        reference_need : (so : Sort) → is_reference so ≡ true → is_need so ≡ true
        reference_need (sort.Reference of output) e = refl
        reference_need (sort.Claim of) e = refl
        reference_need sort.Component e = absurd (false≢true e)
        reference_need (sort.Action base) e = absurd (false≢true e)
        reference_need (sort.Object word) e = absurd (false≢true e)
        reference_need sort.Enumeration e = absurd (false≢true e)
        reference_need sort.Function e = absurd (false≢true e)
        reference_need (sort.Instance of) e = absurd (false≢true e)
        reference_need (sort.Pool of) e = absurd (false≢true e)
        reference_need (sort.Item level) e = absurd (false≢true e)
        reference_need (sort.Field array) e = absurd (false≢true e)
        reference_need (sort.Handle of) e = absurd (false≢true e)
        reference_need sort.Constraint e = absurd (false≢true e)
        reference_need sort.Parameter e = absurd (false≢true e)
        reference_need sort.Local e = absurd (false≢true e)
        reference_need sort.Index e = absurd (false≢true e)

        claim_need : (so : Sort) → is_claim so ≡ true → is_need so ≡ true
        claim_need (sort.Reference of output) e = refl
        claim_need (sort.Claim of) e = refl
        claim_need sort.Component e = absurd (false≢true e)
        claim_need (sort.Action base) e = absurd (false≢true e)
        claim_need (sort.Object word) e = absurd (false≢true e)
        claim_need sort.Enumeration e = absurd (false≢true e)
        claim_need sort.Function e = absurd (false≢true e)
        claim_need (sort.Instance of) e = absurd (false≢true e)
        claim_need (sort.Pool of) e = absurd (false≢true e)
        claim_need (sort.Item level) e = absurd (false≢true e)
        claim_need (sort.Field array) e = absurd (false≢true e)
        claim_need (sort.Handle of) e = absurd (false≢true e)
        claim_need sort.Constraint e = absurd (false≢true e)
        claim_need sort.Parameter e = absurd (false≢true e)
        claim_need sort.Local e = absurd (false≢true e)
        claim_need sort.Index e = absurd (false≢true e)

        by : In n.need (references_of ds n.action) ⊎ In n.need (claims_of ds n.action) → In n.need (members ds n.action) × (is_need n.need.sort ≡ true)
        by (inl h) = let m = those_declared is_reference (members ds n.action) n.need h in (m.0, reference_need n.need.sort m.1)
        by (inr h) = let m = those_declared is_claim (members ds n.action) n.need h in (m.0, claim_need n.need.sort m.1)

    need_declared : In n.need ds
    need_declared = by (in_append (references_of ds n.action) (claims_of ds n.action) n.need (in_get (needs_of ds n.action) n.reference n.need r.listed))
      where
        by : In n.need (references_of ds n.action) ⊎ In n.need (claims_of ds n.action) → In n.need ds
        by (inl h) = (member_declared is_reference ds n.action n.need h).0
        by (inr h) = (member_declared is_claim ds n.action n.need h).0

    -- its object type
    need_typed : (t : Declaration) × (type_of ds n.need ≡ Some t) × (is_object t.sort ≡ true)
    need_typed = by (need_cases n.need.sort in_members.1)
      where
        by : (is_reference n.need.sort ≡ true) ⊎ (is_claim n.need.sort ≡ true) → (t : Declaration) × (type_of ds n.need ≡ Some t) × (is_object t.sort ≡ true)
        by (inl is) = reference_typed s facts right n.need need_declared is
        by (inr is) = claim_typed s facts right n.need need_declared is

    -- the component of the action is that of the instance
    action_scope : (c : Declaration) → component_at ds instances n.instance ≡ Some c → n.action.scope ≡ Part c.name.place
    action_scope c e =
        let h = there_true n.action.inside (component_of ds r.home) r.is_home_is in
        let one : h.0 ≡ c = same_Some h.0 c (sym h.1 ∙ (sym (ap (option_and_then (component_of ds)) r.here) ∙ e)) in
        let inside : n.action.inside ≡ Some c.name.place = h.2 ∙ ap (λ (x : Declaration). Some x.name.place) one in
        by (levelled units n.action r.there) inside
      where
        action_sort : is_action n.action.sort ≡ true
        action_sort = (those_declared is_action ds n.action (in_get (those_that is_action ds) n.number n.action r.at)).1

        by : IsLevelled n.action → n.action.inside ≡ Some c.name.place → n.action.scope ≡ Part c.name.place
        by (Inner is) inside = absurd (false≢true (sym (action_outer n.action.sort action_sort) ∙ is))
        by (OfFiles is files none) inside = absurd (none-some c.name.place (sym none ∙ inside))
        by (AtLevel is level) inside = level ∙ ap level_of inside

    -- ---- pools that are bound

    -- a pool of the object type
    record Fits (k : ℕ) : Type 0 where
      pool : Declaration
      from : ℕ
      number : pool_number ds instances from pool ≡ Some k
      there : In pool ds
      is_pool_is : is_pool pool.sort ≡ true
      typed : type_of ds pool ≡ type_of ds n.need

    pool_named : (component : Place) (name : Name) (p : Declaration) → named_in ds component is_pool name ≡ Some p → In p ds × (is_pool p.sort ≡ true)
    pool_named component name p e =
        let l = and_then_gave (if_sort is_pool) (look_up ds (Part component) name.id) p e in
        let so = sort_gave is_pool l.0 p l.2 in
        (subst (λ (x : Declaration). In x ds) so.0 (looked_up ds (Part component) name.id l.0 l.1).0, so.1)

    fits_by : (component : Place) (name : Name) (from k : ℕ) → pool_bound ds instances component name from ≡ Some k → ((p : Declaration) → named_in ds component is_pool name ≡ Some p → In p ds → is_pool p.sort ≡ true → type_of ds p ≡ type_of ds n.need) → Fits k
    fits_by component name from k e same =
        let p = and_then_gave (pool_number ds instances from) (named_in ds component is_pool name) k e in
        let is = pool_named component name p.0 p.1 in
        record { pool = p.0; from = from; number = p.2; there = is.0; is_pool_is = is.1; typed = same p.0 p.1 is.0 is.1 }

    -- by default
    by_default : (from k : ℕ) → In k (default_in units instances n.need from) → Fits k
    by_default from k there =
        let b = in_filter_map (λ b. if stands_in ds instances b.component from && is_of_type ds n.need b then pool_bound ds instances b.component b.pool from else None) (default_binds units) k there in
        let g = if_gave (stands_in ds instances b.0.component from && is_of_type ds n.need b.0) (pool_bound ds instances b.0.component b.0.pool from) k b.2 in
        let same = same_true (option_and_then (type_of ds) (named_in ds b.0.component is_pool b.0.pool)) (type_of ds n.need) (both_true (stands_in ds instances b.0.component from) (is_of_type ds n.need b.0) g.0).1 in
        fits_by b.0.component b.0.pool from k g.1 (λ p named there is. by p same.0 same.1 (sym (ap (option_and_then (type_of ds)) named) ∙ same.2) same.3 same.4)
      where
        by : (p : Declaration) (x y : Declaration) → type_of ds p ≡ Some x → type_of ds n.need ≡ Some y → same_place x.name.place y.name.place ≡ true → type_of ds p ≡ type_of ds n.need
        by p x y e f same = e ∙ (ap (λ (z : Declaration). Some z) (one_place units names own right y x (type_declared ds n.need y f) (type_declared ds p x e) same) ∙ sym f)

    -- by name
    target_need : (b : ExplicitBind) (from : ℕ) (target : Target) → stands_in ds instances b.component from ≡ true → names_just instances n.action n.need n.instance from b ≡ true → target_of ds b.component b.instances b.action b.need ≡ Is target → target.need ≡ n.need
    target_need b from target stands names_it e =
        let c = some_true (component_at ds instances from) b.component stands in
        let i = and_then_gave (component_of ds) (slice_get instances from) c.0 c.1 in
        let there : In c.0 ds = (looked_up ds Files i.0.component c.0 i.2).0 in
        let same : b.component ≡ c.0.name.place = sym (same_places c.0.name.place b.component c.2) in
        let declared : declared_at ds b.component ≡ Some c.0 = ap (declared_at ds) same ∙ placed units names own right c.0 there in
        let first = both_true (leads_to instances from b.instances n.instance) (same_name b.action.id n.action.name.id && same_name b.need.id n.need.name.id) names_it in
        let both = both_true (same_name b.action.id n.action.name.id) (same_name b.need.id n.need.name.id) first.1 in
        let reached = checked_gave {Y = Target} (along ds (declared_at ds b.component) b.instances) (λ reached. and_then (or_breaks (named_within ds reached is_action b.action) b.action.place 3) (λ a.
        and_then (or_breaks (option_and_then (if_sort is_need) (member_of ds a b.need.id)) b.need.place 3) (λ need. Is (record { action = a; need = need })))) target e in
        let end = leads units names own right instances are b.instances from n.instance c.0 reached.0 c.1 (led_true (led_to instances from b.instances) n.instance first.0) (sym (ap (λ (o : Option Declaration). along ds o b.instances) declared) ∙ reached.1) in
        let a = checked_gave {Y = Target} (or_breaks (named_within ds reached.0 is_action b.action) b.action.place 3) (λ a. and_then (or_breaks (option_and_then (if_sort is_need) (member_of ds a b.need.id)) b.need.place 3) (λ need. Is (record { action = a; need = need }))) target reached.2 in
        let named : named_in ds end.component.name.place is_action b.action ≡ Some a.0 = sym (ap (λ (o : Option Declaration). named_within ds o is_action b.action) end.is) ∙ or_gave (named_within ds reached.0 is_action b.action) b.action.place 3 a.0 a.1 in
        let action : a.0 ≡ n.action = named_is units names own right instances are end.component is_action b.action n.action a.0 r.there (action_scope end.component end.at) (sym (same_names b.action.id n.action.name.id both.0)) named in
        let need = checked_gave {Y = Target} (or_breaks (option_and_then (if_sort is_need) (member_of ds a.0 b.need.id)) b.need.place 3) (λ need. Is (record { action = a.0; need = need })) target a.2 in
        let found = and_then_gave (if_sort is_need) (member_of ds a.0 b.need.id) need.0 (or_gave (option_and_then (if_sort is_need) (member_of ds a.0 b.need.id)) b.need.place 3 need.0 need.1) in
        let member : member_of ds a.0 b.need.id ≡ Some n.need = (λ i. member_of ds (action i) (same_names b.need.id n.need.name.id both.1 i)) ∙ member_named units names own right n.action n.need r.there in_members.0 in
        let one : found.0 ≡ n.need = same_Some found.0 n.need (sym found.1 ∙ member) in
        sym (ap (λ (t : Target). t.need) (same_checked {X = Target} (record { action = a.0; need = need.0 }) target need.2)) ∙ (sym (sort_gave is_need found.0 need.0 found.2).0 ∙ one)

    by_explicit : (from k : ℕ) → In k (explicit_in units instances n.action n.need n.instance from) → Fits k
    by_explicit from k there =
        let b = in_filter_map (λ b. if stands_in ds instances b.component from && names_just instances n.action n.need n.instance from b then pool_bound ds instances b.component b.pool from else None) (explicit_binds units) k there in
        let g = if_gave (stands_in ds instances b.0.component from && names_just instances n.action n.need n.instance from b.0) (pool_bound ds instances b.0.component b.0.pool from) k b.2 in
        let both = both_true (stands_in ds instances b.0.component from) (names_just instances n.action n.need n.instance from b.0) g.0 in
        let u = in_filter_map explicit_of (uses units) b.0 b.1 in
        let used : In (Targets b.0.component b.0.pool b.0.instances b.0.action b.0.need) (uses units) = subst (λ (v : Use). In v (uses units)) (explicit_is u.0 b.0 u.2) u.1 in
        let target = found_is (target_of ds b.0.component b.0.instances b.0.action b.0.need) (nothing_found units names right (Targets b.0.component b.0.pool b.0.instances b.0.action b.0.need) used) in
        fits_by b.0.component b.0.pool from k g.1 (same_type b.0 used target.0 target.1 (target_need b.0 from target.0 both.0 both.1 target.1))
      where
        same_type : (b : ExplicitBind) → In (Targets b.component b.pool b.instances b.action b.need) (uses units) → (target : Target) → target_of ds b.component b.instances b.action b.need ≡ Is target → target.need ≡ n.need
            → (p : Declaration) → named_in ds b.component is_pool b.pool ≡ Some p → In p ds → is_pool p.sort ≡ true → type_of ds p ≡ type_of ds n.need
        same_type b used target is one p named there so =
            let x = pool_object units names constants constants_are facts right kept domains instances p there so in
            by x.0 need_typed.0 x.1 need_typed.1 (same_place x.0.name.place need_typed.0.name.place) refl
          where
            by : (x y : Declaration) → type_of ds p ≡ Some x → type_of ds n.need ≡ Some y → (t : Bool) → same_place x.name.place y.name.place ≡ t → type_of ds p ≡ type_of ds n.need
            by x y e f true same = e ∙ (ap (λ (z : Declaration). Some z) (one_place units names own right y x (type_declared ds n.need y f) (type_declared ds p x e) same) ∙ sym f)
            by x y e f false other =
                absurd (kept (first_name b.instances b.action).place 20 (OfUse (Targets b.component b.pool b.instances b.action b.need) (first_name b.instances b.action).place 20 (to_contains (uses units) (Targets b.component b.pool b.instances b.action b.need) used)
                (OtherObject b.component b.pool b.instances b.action b.need p x y target named is e (ap (type_of ds) one ∙ f)
                (λ z. false≢true (sym other ∙ (ap (λ (d : Declaration). same_place d.name.place y.name.place) z ∙ same_place_itself y.name.place))))))

    pool_fits : (k : ℕ) → serving_pool units instances n.action n.need n.instance ≡ Some k → Fits k
    pool_fits k e =
        let l = filled_in (map (explicit_in units instances n.action n.need n.instance) (with_those_above instances n.instance) ++ map (default_in units instances n.need) (with_those_above instances n.instance)) k
        (only_in (candidates units instances n.action n.need n.instance) k e) in
        by l.0 l.2 (in_append (map (explicit_in units instances n.action n.need n.instance) (with_those_above instances n.instance)) (map (default_in units instances n.need) (with_those_above instances n.instance)) l.0 l.1)
      where
        by : (list : List ℕ) → In k list → In list (map (explicit_in units instances n.action n.need n.instance) (with_those_above instances n.instance)) ⊎ In list (map (default_in units instances n.need) (with_those_above instances n.instance)) → Fits k
        by list there (inl h) = let m = in_map (explicit_in units instances n.action n.need n.instance) (with_those_above instances n.instance) list h in by_explicit m.0 k (subst (In k) (sym m.2) there)
        by list there (inr h) = let m = in_map (default_in units instances n.need) (with_those_above instances n.instance) list h in by_default m.0 k (subst (In k) (sym m.2) there)

    -- ---- in the model

    -- the numbers of the object types of an action's references, and then of its claims
    needs_objects : objects_of (model_action s domains n.action) ≡ map (object_of ds) (needs_of ds n.action)
    needs_objects = sym (map-append (object_of ds) (references_of ds n.action) (claims_of ds n.action) ∙ both_maps (references_of ds n.action) (claims_of ds n.action))
      where
        both_maps : (xs ys : List Declaration) → map (object_of ds) xs ++ map (object_of ds) ys ≡ map (λ (r : Reference). r.object) (map (reference ds) xs) ++ map (λ (c : Claim). c.object) (map (claim units ds) ys)
        both_maps [] [] = refl
        both_maps [] (y ∷ ys) = ap (λ (l : List ℕ). object_of ds y ∷ l) (both_maps [] ys)
        both_maps (x ∷ xs) ys = ap (λ (l : List ℕ). object_of ds x ∷ l) (both_maps xs ys)

    serve_sound : (k : ℕ) → serving_pool units instances n.action n.need n.instance ≡ Some k → IsSoundServe (model_by s domains instances) (serve_of (served_by n k))
    serve_sound k e =
        let f = pool_fits k e in
        let x = at_position (λ (x : ℕ × Declaration). nat_eq x.0 f.from && same_place x.1.name.place f.pool.name.place) (pools ds instances) k f.number in
        let p = pool_is units names constants constants_are facts right kept domains instances x.0 (in_get (pools ds instances) k x.0 x.1) in
        let one : x.0.1 ≡ f.pool = one_place units names own right f.pool x.0.1 f.there p.there (both_true (nat_eq x.0.0 f.from) (same_place x.0.1.name.place f.pool.name.place) x.2).1 in
        let object : object_of ds n.need ≡ object_of ds x.0.1 = sym (ap (object_of ds) one ∙ ap (λ (o : Option Declaration). option_map_or (object_number ds) o 0) f.typed) in
        let listed : slice_get (objects_of (model_action s domains n.action)) n.reference ≡ Some (object_of ds x.0.1) =
        ap (λ (l : List ℕ). slice_get l n.reference) needs_objects ∙ (got_map (object_of ds) (needs_of ds n.action) n.reference n.need r.listed ∙ ap (λ (o : ℕ). Some o) object) in
        record {
          instance = omega (arith, length-map instances part_of, slice_get_within instances n.instance r.home r.here);
          pool = some_and (slice_get (model_actions s domains) n.number) (model_action s domains n.action)
              (λ action. IsSomeAnd (slice_get (map (model_pool s) (pools ds instances)) k) (λ pool. slice_get (objects_of action) n.reference ≡ Some pool.object))
              (got_map (model_action s domains) (those_that is_action ds) n.number n.action r.at)
              (some_and (slice_get (map (model_pool s) (pools ds instances)) k) (model_pool s x.0) (λ pool. slice_get (objects_of (model_action s domains n.action)) n.reference ≡ Some pool.object)
              (got_map (model_pool s) (pools ds instances) k x.0 x.1) listed);
        }

  entry_sound : (x : Served) → In x (served units instances) → IsSoundServe (model_by s domains instances) (serve_of x)
  entry_sound x there =
      let n = in_filter_map (serving units instances) (needs units instances) x there in
      by n.0 (need_right n.0 n.1) (serving_pool units instances n.0.action n.0.need n.0.instance) refl n.2
    where
      by : (n : Need) → IsRight n → (o : Option ℕ) → serving_pool units instances n.action n.need n.instance ≡ o → option_map (served_by n) o ≡ Some x → IsSoundServe (model_by s domains instances) (serve_of x)
      by n r None e f = absurd (none-some x f)
      by n r (Some k) e f = subst (λ (y : Served). IsSoundServe (model_by s domains instances) (serve_of y)) (same_Some (served_by n k) x f) (serve_sound n r k e)

  pub all_serve : All (IsSoundServe (model_by s domains instances)) (map serve_of (served units instances))
  all_serve = All-map (IsSoundServe (model_by s domains instances)) serve_of (served units instances) (all_in (λ x. IsSoundServe (model_by s domains instances) (serve_of x)) (served units instances) entry_sound)

pub serves_sound : (units : List UnitTree) (names : List (List ℕ)) (model : ModelTree) → HaveOwnPlaces (declarations units) → IsNone (NameBreach units names) → IsNone (TypeBreach units names) → IsModel units names model
    → All (IsSoundServe model) model.served
serves_sound units names model own right kept is =
    subst (λ (m : ModelTree). All (IsSoundServe m) m.served) (sym is.is) (all_serve units names is.constants is.are_constants own right kept is.domains is.instances is.are_instances)
