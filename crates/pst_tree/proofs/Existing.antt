-- Sources without loops of components have a list of instances.
use Rattle.std.proofs.Common.{◌≡◌, ◌<◌, ◌≤◌, refl, sym, subst, ap, arith, ◌∙◌, true≢false}
use Rattle.std.specs.Prelude.{ℕ, zero, suc, ◌+◌, nat_eq, Bool, true, false, ◌&&◌, ◌||◌, IsTrue, List, [], ◌∷◌, ◌++◌, length, slice_get, Option, Some, None, if◌then◌else◌}
use Rattle.std.specs.List.{filter, list_any, Contains, IsDistinct, AllByRecursion}
use Rattle.std.proofs.lemmas.Bool.{eqb-true, eq-eqb}
use Rattle.std.proofs.lemmas.Map.Steps.{length-le_from_distinct_below}
use Rattle.std.proofs.lemmas.Option.{slice_get_within, get_or_from_slice_get}
use Rattle.pst_base.specs.declared.position.Place.{Place}
use Rattle.pst_base.specs.declared.table.NameId.{NameId}
use Rattle.pst_ast.specs.declared.instance.Instance.{Instance}
use Rattle.pst_ast.specs.DeclarationTree.{UnitTree}
use Rattle.pst_ast.specs.declared.scope_declaration.Declaration.{Declaration}
use Rattle.pst_ast.specs.declared.scope_declaration.Scope.{Scope}
use Rattle.pst_ast.specs.declared.scope_declaration.Scope.TheVariants.{Files, Part}
use Rattle.pst_ast.specs.Declarations.{declarations}
use Rattle.pst_ast.specs.Sorts.{is_instance, same_place, same_scope}
use Rattle.pst_ast.specs.Lookups.{type_of}
use Rattle.pst_ast.specs.NameRules.{LeadsTo, ToInstance, Reaches, AtOnce, Through, is_root_component}
use Rattle.pst_tree.specs.Instances.{root_of, instances_in, instance, IsSubtree, Subtree, AreSubtrees, NoSubtree, MoreSubtrees, AreInstances}
use Rattle.pst_tree.specs.Laws.{AreComponentsRight}
use Rattle.pst_tree.proofs.Declared.{some_is, type_there, root_there}

-- ---- scopes

left_of : (a b : Bool) → (a && b) ≡ true → a ≡ true
left_of true b e = refl
left_of false b e = e

right_of : (a b : Bool) → (a && b) ≡ true → b ≡ true
right_of true b e = e
right_of false b e = absurd (true≢false (sym e))

same_places : (a b : Place) → same_place a b ≡ true → a ≡ b
same_places a b e =
    let lines = right_of (nat_eq a.file b.file) (nat_eq a.line b.line && nat_eq a.column b.column) e in
    let files = eqb-true a.file b.file (left_of (nat_eq a.file b.file) (nat_eq a.line b.line && nat_eq a.column b.column) e) in
    let line = eqb-true a.line b.line (left_of (nat_eq a.line b.line) (nat_eq a.column b.column) lines) in
    let column = eqb-true a.column b.column (right_of (nat_eq a.line b.line) (nat_eq a.column b.column) lines) in
    λ i. record { file = files i; line = line i; column = column i }

part_of : (s : Scope) (p : Place) → same_scope s (Part p) ≡ true → s ≡ Part p
part_of Files p e = absurd (true≢false (sym e))
part_of (Part a) p e = ap (λ (q : Place). Part q) (same_places a p e)

is_true : (b : Bool) → b ≡ true → IsTrue b
is_true b e = e

module _ (ds : List Declaration) (right : AreComponentsRight ds) where
  contains : (d : Declaration) (k : ℕ) → slice_get ds k ≡ Some d → Contains ds d
  contains d k e = (k, slice_get_within ds k d e, get_or_from_slice_get ds k d d e)

  reaches_on : (a d e : Declaration) → Reaches ds a d → LeadsTo ds d e → Reaches ds a e
  reaches_on a d e (AtOnce _ _ first) next = Through a d e first (AtOnce d e next)
  reaches_on a d e (Through _ b _ first rest) next = Through a b e first (reaches_on b d e rest next)

  -- ---- a component and those above it, by their numbers

  data Path : Declaration → List ℕ → Type 0 where
    Start : (d : Declaration) (k : ℕ) → slice_get ds k ≡ Some d → Path d (k ∷ [])
    Go : (d e : Declaration) (k : ℕ) (ks : List ℕ) → Path d ks → LeadsTo ds d e → slice_get ds k ≡ Some e → Path e (k ∷ ks)

  abbrev IsIn : ℕ → List ℕ → Type 0
  IsIn q ks = list_any (nat_eq q) ks ≡ true

  -- what stands at the number of one above leads on to what is led to
  leads_by : (d e a : Declaration) (k : ℕ) (more : List ℕ) (q : ℕ) → slice_get ds k ≡ Some d → LeadsTo ds d e → slice_get ds q ≡ Some a → (IsIn q more → Reaches ds a d) → (b : Bool) → nat_eq q k ≡ b
      → (b || list_any (nat_eq q) more) ≡ true → Reaches ds a e
  leads_by d e a k more q at next stands on true same any =
      let is : a ≡ d = some_is a d (sym stands ∙ (ap (slice_get ds) (eqb-true q k same) ∙ at)) in subst (λ (x : Declaration). Reaches ds x e) (sym is) (AtOnce d e next)
  leads_by d e a k more q at next stands on false other any = reaches_on a d e (on any) next

  leads : (d e a : Declaration) (ks : List ℕ) → Path d ks → LeadsTo ds d e → (q : ℕ) → slice_get ds q ≡ Some a → IsIn q ks → Reaches ds a e
  leads d e a ks (Start _ k at) next q stands any = leads_by d e a k [] q at next stands (λ none. absurd (true≢false (sym none))) (nat_eq q k) refl any
  leads d e a ks (Go c _ k more path last at) next q stands any =
      leads_by d e a k more q at next stands (λ further. leads c d a more path last q stands further) (nat_eq q k) refl any

  other_by : (p q : ℕ) → (p ≡ q → ⊥) → (b : Bool) → nat_eq p q ≡ b → nat_eq p q ≡ false
  other_by p q h true same = absurd (h (eqb-true p q same))
  other_by p q h false other = other

  or_left : (a b : Bool) → a ≡ true → (a || b) ≡ true
  or_left a b e = ap (λ (c : Bool). c || b) e

  or_right : (a b : Bool) → b ≡ true → (a || b) ≡ true
  or_right true b e = refl
  or_right false b e = e

  all_others : (p : ℕ) (xs : List ℕ) → ((q : ℕ) → IsIn q xs → p ≡ q → ⊥) → AllByRecursion (λ q. nat_eq p q ≡ false) xs
  all_others p [] h = tt
  all_others p (x ∷ xs) h =
      (other_by p x (h x (or_left (nat_eq x x) (list_any (nat_eq x) xs) (eq-eqb x x refl))) (nat_eq p x) refl, all_others p xs (λ q e. h q (or_right (nat_eq q x) (list_any (nat_eq q) xs) e)))

  distinct : (d : Declaration) (ks : List ℕ) → Path d ks → IsDistinct nat_eq ks
  unfolding IsDistinct
  distinct d ks (Start _ k at) = (tt, tt)
  distinct d ks (Go c _ k more path last at) =
      (all_others k more (λ q any e. right.no_loops d (contains d k at) (leads c d d more path last q (ap (slice_get ds) (sym e) ∙ at) any)), distinct c more path)

  below_by : (d : Declaration) (k : ℕ) (more : List ℕ) (q : ℕ) → slice_get ds k ≡ Some d → (IsIn q more → q < length ds) → (b : Bool) → nat_eq q k ≡ b → (b || list_any (nat_eq q) more) ≡ true → q < length ds
  below_by d k more q at on true same any = omega (arith, slice_get_within ds k d at, eqb-true q k same)
  below_by d k more q at on false other any = on any

  below : (d : Declaration) (ks : List ℕ) → Path d ks → (q : ℕ) → IsIn q ks → q < length ds
  below d ks (Start _ k at) q any = below_by d k [] q at (λ none. absurd (true≢false (sym none))) (nat_eq q k) refl any
  below d ks (Go c _ k more path last at) q any = below_by d k more q at (below c more path q) (nat_eq q k) refl any

  few : (d : Declaration) (ks : List ℕ) → Path d ks → length ks ≤ length ds
  few d ks path = length-le_from_distinct_below ks (length ds) (distinct d ks path) (below d ks path)

  -- ---- subtrees

  abbrev Has : Declaration → Type 0
  Has component = (number : ℕ) (name : NameId) (parent : Option ℕ) → (xs : List Instance) × IsSubtree ds number component name parent xs

  abbrev Holds : Declaration → Type 0
  Holds d = (component : Declaration) × (type_of ds d ≡ Some component) × Has component

  abbrev AllHold : List Declaration → Type 0
  AllHold [] = Unit {0}
  AllHold (d ∷ more) = Holds d × AllHold more

  row : (list : List Declaration) → AllHold list → (parent number : ℕ) → (xs : List Instance) × AreSubtrees ds parent number list xs
  row [] all parent number = ([], NoSubtree parent number)
  row (d ∷ more) all parent number =
      let first = all.0.2 number d.name.id (Some parent) in
      let rest = row more all.1 parent (number + length first.0) in
      (first.0 ++ rest.0, MoreSubtrees parent number d all.0.0 more first.0 rest.0 all.0.1 first.1 rest.1)

  -- what a component declares as an instance
  record IsDeclaredIn (component d : Declaration) : Type 0 where
    among : Contains ds d
    scope : d.scope ≡ Part component.name.place
    sort : IsTrue (is_instance d.sort)

  abbrev AllIn : Declaration → List Declaration → Type 0
  AllIn component [] = Unit {0}
  AllIn component (d ∷ more) = IsDeclaredIn component d × AllIn component more

  kept : (component d : Declaration) (list : List Declaration) → Contains ds d → AllIn component list → (b : Bool) → (is_instance d.sort && same_scope d.scope (Part component.name.place)) ≡ b → AllIn component (if b then d ∷ list else list)
  kept component d list among all true is = (
    record {
      among = among;
      scope = part_of d.scope component.name.place (right_of (is_instance d.sort) (same_scope d.scope (Part component.name.place)) is);
      sort = is_true (is_instance d.sort) (left_of (is_instance d.sort) (same_scope d.scope (Part component.name.place)) is);
    },
    all,
  )
  kept component d list among all false not = all

  all_in : (component : Declaration) (list : List Declaration) → ((d : Declaration) → Contains list d → Contains ds d) → AllIn component (filter (λ d. is_instance d.sort && same_scope d.scope (Part component.name.place)) list)
  all_in component [] among = tt
  all_in component (d ∷ more) among =
      kept component d (filter (λ d. is_instance d.sort && same_scope d.scope (Part component.name.place)) more) (among d (0, omega arith, refl))
      (all_in component more (λ x c. among x (suc c.0, omega (arith, c.1), c.2))) (is_instance d.sort && same_scope d.scope (Part component.name.place)) refl

  all_hold : (component : Declaration) (list : List Declaration) → AllIn component list → ((d : Declaration) → IsDeclaredIn component d → Holds d) → AllHold list
  all_hold component [] all f = tt
  all_hold component (d ∷ more) all f = (f d all.0, all_hold component more all.1 f)

  abbrev Trees : ℕ → Type 0
  Trees left = (d : Declaration) (ks : List ℕ) → Path d ks → length ks + left ≡ length ds + 1 → Has d

  held : (left : ℕ) → Trees left → (d : Declaration) (ks : List ℕ) → Path d ks → length ks + suc left ≡ length ds + 1 → (i : Declaration) → IsDeclaredIn d i → Holds i
  held left trees d ks path e i is =
      let c = right.typed i is.among is.sort in
      let k = type_there ds i c.0 c.1 in
      (c.0, c.1, trees c.0 (k.0 ∷ ks) (Go d c.0 k.0 ks path (ToInstance i c.0 is.among is.scope is.sort c.1) k.1) (omega (arith, e)))

  tree : (left : ℕ) → Trees left
  tree zero d ks path e number name parent = absurd (omega (arith, few d ks path, e))
  tree (suc left) d ks path e number name parent =
      let below = row (instances_in ds d) (all_hold d (instances_in ds d) (all_in d ds (λ x c. c)) (held left (tree left) d ks path e)) number (number + 1) in
      (instance name d parent (number + length below.0) ∷ below.0, Subtree number d name parent below.0 below.1)

pub instances_exist : (units : List UnitTree) (names : List (List ℕ)) (root : Declaration) → root_of names (declarations units) ≡ Some root → AreComponentsRight (declarations units)
    → (instances : List Instance) × AreInstances units names instances
instances_exist units names root is right =
    let ds = declarations units in
    let k = root_there ds (is_root_component names) root is in
    let found = tree ds right (length ds) root (k.0 ∷ []) (Start root k.0 k.1) (omega arith) 0 root.name.id None in
    (found.0, record { root = root; is_root = is; subtree = found.1 })
