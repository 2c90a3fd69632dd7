-- Pools serve each reference and claim of each atomic action that isn't abstract, in each instance of its component.
use Rattle.std.proofs.Common.{◌≡◌, ◌⊎◌, ◌<◌, inl, inr, refl, sym, ap, subst, arith, ◌∙◌}
use Rattle.std.specs.Prelude.{ℕ, zero, suc, ◌+◌, nat_eq, Bool, true, false, not, ◌&&◌, List, [], ◌∷◌, map, length, slice_get, get_or, Option, Some, None, IsSome, if◌then◌else◌, option_and_then}
use Rattle.std.specs.List.{filter, filter_map, flat_map, enumerate_from, cons_option}
use Rattle.std.specs.Option.{option_map, option_map_or}
use Rattle.std.proofs.lemmas.Bool.{false≢true, eq-eqb}
use Rattle.std.proofs.lemmas.List.{length-append, length-map}
use Rattle.std.proofs.lemmas.Option.{none-some, same_Some, slice_get-get_or}
use Rattle.pst_base.specs.declared.position.Place.{Place}
use Rattle.pst_ast.specs.declared.instance.Instance.{Instance}
use Rattle.pst_ast.specs.ActivityTree.{MakeActivity}
use Rattle.pst_ast.specs.DeclarationTree.{UnitTree}
use Rattle.pst_expr.specs.declared.ranges.Span.{Span}
use Rattle.pst_model.specs.declared.model.Part.{Part}
use Rattle.pst_model.specs.declared.model.Serve.{Serve}
use Rattle.pst_model.specs.ModelTree.{ActionTree, ModelTree}
use Rattle.pst_model.specs.Served.{objects_of, is_entry, pool_in, IsAtomic, IsServedWhole}
use Rattle.pst_ast.specs.Breaches.{IsNone}
use Rattle.pst_ast.specs.declared.scope_declaration.Declaration.{Declaration}
use Rattle.pst_ast.specs.declared.scope_declaration.Scope.TheVariants.{Files}
use Rattle.pst_ast.specs.Declarations.{declarations}
use Rattle.pst_ast.specs.Lookups.{look_up, declared_at}
use Rattle.pst_ast.specs.NameRules.{NameBreach, OfDeclaration, Twice}
use Rattle.pst_ast.specs.Sorts.{is_action, same_name, same_place, same_scope}
use Rattle.pst_type_rules.specs.Members.{those_that}
use Rattle.pst_type_rules.specs.Sites.{DeclaredAction}
use Rattle.pst_tree.specs.Bases.{references_of, claims_of, needs_of}
use Rattle.pst_tree.specs.Contents.{Content, Activity, Body, content_of, is_activity, is_compound}
use Rattle.pst_tree.specs.Instances.{part_of, parts_of}
use Rattle.pst_tree.specs.Laws.{InstancesAreOne}
use Rattle.pst_bind.specs.Laws.{NeedsAreServed}
use Rattle.pst_bind.specs.Needs.{Need, is_concrete, is_performed, numbered_actions, is_there, is_home, homes_of, needs_in, needs, served_by, serving, served}
use Rattle.pst_bind.specs.Pools.{component_of}
use Rattle.pst_bind.specs.PoolRules.{PoolBreach}
use Rattle.pst_terms.specs.Sources.{Sources, declared_in}
use Rattle.pst_elab_rules.specs.Ends.{OfPools, IsElaborated}
use Rattle.pst_elab_rules.specs.Model.{serve_of, sources, model_by}
use Rattle.pst_elab_rules.specs.Types.{reference, claim, content, name_at, is_abstract, model_action}
use Rattle.pst_sound_model.specs.SoundExpressionsConditions.{HaveOwnPlaces}
use Rattle.pst_sound_model.proofs.Members.{In, in_get, in_find, to_map, to_flat_map, to_filter, to_numbered, to_contains}
use Rattle.pst_sound_model.proofs.Owned.{those_declared, and_true, same_itself}
use Rattle.pst_sound_model.proofs.Facts.{AreFacts}
use Rattle.pst_sound_model.proofs.FactsOf.{facts_of}
use Rattle.pst_sound_model.proofs.Typed.{some_found, declared_action, at_place}

-- where an entry of a list of the model comes from
pub got_back : {A B : Type 0} (f : A → B) (xs : List A) (k : ℕ) (y : B) → slice_get (map f xs) k ≡ Some y → (x : A) × (slice_get xs k ≡ Some x) × (f x ≡ y)
got_back f [] k y e = absurd (none-some y e)
got_back f (x ∷ more) zero y e = (x, refl, same_Some (f x) y e)
got_back f (x ∷ more) (suc k) y e = got_back f more k y e

pub to_filter_map : {A B : Type 0} (h : A → Option B) (xs : List A) (x : A) (y : B) → In x xs → h x ≡ Some y → In y (filter_map h xs)
to_filter_map h [] x y there e = absurd there
to_filter_map h (z ∷ more) x y there e = by (h z) refl there (λ t. to_filter_map h more x y t e)
  where
    by : (o : Option _) → h z ≡ o → (z ≡ x) ⊎ In x more → (In x more → In y (filter_map h more)) → In y (cons_option o (filter_map h more))
    by None had (inl same) on = absurd (none-some y (sym had ∙ (ap h same ∙ e)))
    by None had (inr t) on = on t
    by (Some w) had (inl same) on = inl (same_Some w y (sym had ∙ (ap h same ∙ e)))
    by (Some w) had (inr t) on = inr (on t)

pool_found : (list : List Serve) (action instance reference : ℕ) (e : Serve) → In e list → is_entry action instance reference e ≡ true → IsSome (pool_in list action instance reference)
pool_found [] action instance reference e there is = absurd there
pool_found (x ∷ more) action instance reference e there is = by (is_entry action instance reference x) refl there (λ t. pool_found more action instance reference e t is)
  where
    by : (b : Bool) → is_entry action instance reference x ≡ b → (x ≡ e) ⊎ In e more → (In e more → IsSome (pool_in more action instance reference)) → IsSome (if b then Some x.pool else pool_in more action instance reference)
    by true had t on = refl
    by false had (inl same) on = absurd (false≢true (sym had ∙ (ap (is_entry action instance reference) same ∙ is)))
    by false had (inr t) on = on t

-- a name of the files stands for its declaration
pub file_named : (s : Sources) → AreFacts s → IsNone (NameBreach s.units s.names) → (c : Declaration) → In c (declared_in s) → c.scope ≡ Files → look_up (declared_in s) Files c.name.id ≡ Some c
unfolding look_up
file_named s facts right c there files =
    let ds = declared_in s in
    let same_files : same_scope c.scope Files ≡ true = ap (λ x. same_scope x Files) files in
    let f = some_found (λ d. same_scope d.scope Files && same_name d.name.id c.name.id) ds c there (and_true (same_scope c.scope Files) (same_name c.name.id c.name.id) same_files (eq-eqb c.name.id.0 c.name.id.0 refl)) in
    let found = in_find (λ d. same_scope d.scope Files && same_name d.name.id c.name.id) ds f.0 f.1 in
    f.1 ∙ ap (λ (x : Declaration). Some x) (facts.places c f.0 there found.0 (by f.0 f.1 (same_place f.0.name.place c.name.place) refl))
  where
    by : (x : Declaration) → look_up (declared_in s) Files c.name.id ≡ Some x → (b : Bool) → same_place x.name.place c.name.place ≡ b → b ≡ true
    by x e true is = refl
    by x e false is =
        absurd (right c.name.place 1 (OfDeclaration c 1 (to_contains (declared_in s) c there)
        (Twice (ap (λ (o : _). option_map_or (λ e. not (same_place e.name.place c.name.place)) (look_up (declared_in s) o c.name.id) false) files
        ∙ (ap (λ (o : Option Declaration). option_map_or (λ e. not (same_place e.name.place c.name.place)) o false) e ∙ ap not is)))))

module _ (s : Sources) (facts : AreFacts s) (right : IsNone (NameBreach s.units s.names)) (domains : List (List Span)) (instances : List Instance) (pools_right : IsNone (PoolBreach s.units instances)) (law : NeedsAreServed) where
  abbrev ds : List Declaration
  ds = declared_in s

  not_compound : (o : Option Content) (d : Declaration) → IsAtomic (content s d o) → is_activity o ≡ false
  not_compound None d a = refl
  not_compound (Some (Body action body)) d a = refl
  not_compound (Some (Activity action (MakeActivity word left statements close))) d a = absurd a

  module _ (d : Declaration) (there : In d ds) (is : is_action d.sort ≡ true) where
    performed : IsAtomic (content s d (content_of s.units d)) → is_abstract s.units d ≡ false → is_performed s.units d ≡ true
    performed atomic concrete =
        let a = declared_action s.units d there is in
        let not_abstract : a.action.is_abstract ≡ false = sym (ap (λ (o : Option DeclaredAction). option_map_or (λ a. a.is_abstract) o false) a.found) ∙ concrete in
        and_true (is_concrete s.units d) (not (is_compound s.units d)) (ap (λ (o : Option DeclaredAction). option_map_or (λ a. not a.is_abstract) o false) a.found ∙ ap not not_abstract) (ap not (not_compound (content_of s.units d) d atomic))

    home_there : (i : Instance) → i.component ≡ name_at ds d.inside d.name.id → is_home ds d i ≡ true
    home_there i e =
        let a = declared_action s.units d there is in
        let named : name_at ds d.inside d.name.id ≡ a.component.name.id =
        ap (λ (o : Option Place). option_map_or (λ d. d.name.id) (option_and_then (declared_at ds) o) d.name.id) a.inside ∙ ap (λ (o : Option Declaration). option_map_or (λ d. d.name.id) o d.name.id) (at_place s facts right a.component a.is_component.itself) in
        let found : component_of ds i ≡ Some a.component = ap (look_up ds Files) (e ∙ named) ∙ file_named s facts right a.component a.is_component.itself a.is_component.scope_is in
        ap (λ (o : Option Place). is_there o (component_of ds i)) a.inside ∙ (ap (is_there (Some a.component.name.place)) found ∙ same_itself a.component)

    as_many : length (objects_of (model_action s domains d)) ≡ length (needs_of ds d)
    as_many =
        length-append (map (λ r. r.object) (map (reference ds) (references_of ds d))) (map (λ c. c.object) (map (claim s.units ds) (claims_of ds d)))
        ∙ ((λ i. (length-map (map (reference ds) (references_of ds d)) (λ r. r.object) ∙ length-map (references_of ds d) (reference ds)) i + (length-map (map (claim s.units ds) (claims_of ds d)) (λ c. c.object) ∙ length-map (claims_of ds d) (claim s.units ds)) i)
        ∙ sym (length-append (references_of ds d) (claims_of ds d)))

    served_there : (number instance reference : ℕ) (i : Instance) → slice_get (those_that is_action ds) number ≡ Some d → is_performed s.units d ≡ true → slice_get instances instance ≡ Some i → is_home ds d i ≡ true → reference < length (needs_of ds d)
        → IsSome (pool_in (map serve_of (served s.units instances)) number instance reference)
    served_there number instance reference i at performs here home less =
        let need = get_or (needs_of ds d) reference d in
        let got : slice_get (needs_of ds d) reference ≡ Some need = slice_get-get_or (needs_of ds d) reference d less in
        let n : Need = record { number = number; action = d; instance = instance; reference = reference; need = need } in
        let x : ℕ × Declaration = (number, d) in
        let among : In x (filter (λ (x : ℕ × Declaration). is_performed s.units x.1) (numbered_actions ds)) = to_filter (λ (x : ℕ × Declaration). is_performed s.units x.1) (numbered_actions ds) x (to_numbered (those_that is_action ds) number d at) performs in
        let y : ℕ × Instance = (instance, i) in
        let homes : In instance (homes_of ds instances d) =
        to_map (λ (x : ℕ × Instance). x.0) (filter (λ (x : ℕ × Instance). is_home ds d x.1) (enumerate_from 0 instances)) y (to_filter (λ (x : ℕ × Instance). is_home ds d x.1) (enumerate_from 0 instances) y (to_numbered instances instance i here) home) in
        let z : ℕ × Declaration = (reference, need) in
        let in_row : In n (needs_in ds x instance) =
        to_map (λ (y : ℕ × Declaration). record { number = x.0; action = x.1; instance = instance; reference = y.0; need = y.1 }) (enumerate_from 0 (needs_of ds x.1)) z (to_numbered (needs_of ds d) reference need got) in
        let all : In n (needs s.units instances) =
        to_flat_map (λ (x : ℕ × Declaration). flat_map (needs_in ds x) (homes_of ds instances x.1)) (filter (λ (x : ℕ × Declaration). is_performed s.units x.1) (numbered_actions ds)) x n among (to_flat_map (needs_in ds x) (homes_of ds instances d) instance n homes in_row) in
        let p = law s.units instances n pools_right (to_contains (needs s.units instances) n all) in
        let listed : In (served_by n p.0) (served s.units instances) = to_filter_map (serving s.units instances) (needs s.units instances) n (served_by n p.0) all (ap (option_map (served_by n)) p.1) in
        pool_found (map serve_of (served s.units instances)) number instance reference (serve_of (served_by n p.0)) (to_map serve_of (served s.units instances) (served_by n p.0) listed)
        (and_true (nat_eq number number) (nat_eq instance instance && nat_eq reference reference) (eq-eqb number number refl) (and_true (nat_eq instance instance) (nat_eq reference reference) (eq-eqb instance instance refl) (eq-eqb reference reference refl)))

  abbrev IsServed' : ActionTree → ℕ → Type 0
  IsServed' x number = IsAtomic x.content → x.is_abstract ≡ false → (instance : ℕ) (part : Part) → slice_get (parts_of instances) instance ≡ Some part → part.component ≡ x.component → (reference : ℕ) → reference < length (objects_of x)
      → IsSome (pool_in (map serve_of (served s.units instances)) number instance reference)

  pub served_whole : IsServedWhole (model_by s domains instances)
  served_whole number action e =
      let a = got_back (model_action s domains) (those_that is_action ds) number action e in
      subst (λ (x : ActionTree). IsServed' x number) a.2 (of_declared a.0 number a.1)
    where
      of_declared : (d : Declaration) (number : ℕ) → slice_get (those_that is_action ds) number ≡ Some d → IsServed' (model_action s domains d) number
      of_declared d number at atomic concrete instance part got same reference less =
          let m = those_declared is_action ds d (in_get (those_that is_action ds) number d at) in
          let i = got_back part_of instances instance part got in
          let component : i.0.component ≡ name_at ds d.inside d.name.id = ap (λ (p : Part). p.component) i.2 ∙ same in
          let many = as_many d m.0 m.1 in
          let below : reference < length (needs_of ds d) = omega (arith, many, less) in
          served_there d m.0 m.1 number instance reference i.0 at (performed d m.0 m.1 atomic concrete) i.1 (home_there d m.0 m.1 i.0 component) below

pub needs_served : InstancesAreOne → NeedsAreServed → (units : List UnitTree) (names : List (List ℕ)) (component action : List ℕ) (model : ModelTree) (root : ℕ) → HaveOwnPlaces (declarations units) → IsElaborated units names component action model root
    → IsServedWhole model
needs_served one law units names component action model root own e =
    let is = e.is_model in
    let s = sources units names is.constants in
    let facts = facts_of units names is.constants is.are_constants e.typed.types_right own in
    let same : is.instances ≡ e.instances = one units names is.instances e.instances is.are_instances e.are in
    let pools_right : IsNone (PoolBreach units is.instances) = subst (λ (xs : List Instance). IsNone (PoolBreach units xs)) (sym same) (λ p r b. e.last p r (OfPools p r b)) in
    subst IsServedWhole (sym is.is) (served_whole s facts e.typed.names_right is.domains is.instances pools_right law)
