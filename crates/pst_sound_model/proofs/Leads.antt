-- Instances lead where their declarations do.
use Rattle.std.proofs.Common.{◌≡◌, refl, sym, ap, subst, ◌∙◌}
use Rattle.std.specs.Prelude.{ℕ, Bool, true, false, ◌&&◌, List, [], ◌∷◌, position, slice_get, get_or, Option, Some, None, option_and_then, if◌then◌else◌}
use Rattle.std.proofs.lemmas.Bool.{false≢true, eqb-true}
use Rattle.std.proofs.lemmas.Option.{none-some, same_Some, slice_get-get_or}
use Rattle.std.proofs.lemmas.List.Quantifiers.{position-Some}
use Rattle.pst_base.specs.declared.position.Place.{Place}
use Rattle.pst_ast.specs.declared.leaf.Name.{Name}
use Rattle.pst_ast.specs.declared.instance.Instance.{Instance}
use Rattle.pst_ast.specs.DeclarationTree.{UnitTree}
use Rattle.pst_ast.specs.Breaches.{IsNone}
use Rattle.pst_ast.specs.declared.scope_declaration.Declaration.{Declaration}
use Rattle.pst_ast.specs.declared.scope_declaration.Scope.TheVariants.{Part}
use Rattle.pst_ast.specs.declared.scope_declaration.Sort.{Sort}
use Rattle.pst_ast.specs.declared.referent.Checked.{Checked}
use Rattle.pst_ast.specs.declared.referent.Checked.TheVariants.{Is, Breaks}
use Rattle.pst_ast.specs.Declarations.{declarations}
use Rattle.pst_ast.specs.Lookups.{look_up, if_sort, type_of}
use Rattle.pst_ast.specs.Paths.{and_then}
use Rattle.pst_ast.specs.NameRules.{NameBreach, named_in, or_breaks, named_within, along}
use Rattle.pst_ast.specs.Sorts.{is_instance, same_name, same_scope}
use Rattle.pst_tree.specs.Instances.{AreInstances}
use Rattle.pst_bind.specs.Pools.{component_of, component_at}
use Rattle.pst_bind.specs.Serving.{is_parent, child_named, led_to}
use Rattle.pst_sound_model.specs.SoundExpressionsConditions.{HaveOwnPlaces}
use Rattle.pst_sound_model.proofs.Members.{In, in_filter}
use Rattle.pst_sound_model.proofs.Owned.{both_true}
use Rattle.pst_sound_model.proofs.Named.{found_as, same_names, same_scopes}
use Rattle.pst_sound_model.proofs.Tree.{parent_is}

-- ---- positions

-- what stands at the first number at which a test passes
pub at_position : {A : Type 0} (test : A → Bool) (xs : List A) (i : ℕ) → position test xs ≡ Some i → (y : A) × (slice_get xs i ≡ Some y) × (test y ≡ true)
at_position test [] i e = absurd (cc)
at_position test (x ∷ more) i e = let at = position-Some test (x ∷ more) i x e in (get_or (x ∷ more) i x, slice_get-get_or (x ∷ more) i x at.0, at.1)

pub and_then_gave : {A B : Type 0} (f : A → Option B) (o : Option A) (y : B) → option_and_then f o ≡ Some y → (x : A) × (o ≡ Some x) × (f x ≡ Some y)
and_then_gave f None y e = absurd (none-some y e)
and_then_gave f (Some x) y e = (x, refl, e)

pub sort_gave : (test : Sort → Bool) (d b : Declaration) → if_sort test d ≡ Some b → (d ≡ b) × (test b.sort ≡ true)
sort_gave test d b e = by (test d.sort) refl e
  where
    by : (t : Bool) → test d.sort ≡ t → (if t then Some d else None) ≡ Some b → (d ≡ b) × (test b.sort ≡ true)
    by true is e = let same = same_Some d b e in (same, subst (λ (x : Declaration). test x.sort ≡ true) same is)
    by false is e = absurd (none-some b e)

pub is_same : {X : Type 0} (x y : X) → ◌≡◌ {A = Checked X} (Is x) (Is y) → x ≡ y
is_same x y e = cc

pub no_break : {X : Type 0} (x : X) (place : Place) (rule : ℕ) → ◌≡◌ {A = Checked X} (Breaks place rule) (Is x) → ⊥
no_break x place rule e = cc

pub checked_gave : {X Y : Type 0} (c : Checked X) (f : X → Checked Y) (y : Y) → and_then c f ≡ Is y → (x : X) × (c ≡ Is x) × (f x ≡ Is y)
checked_gave (Is x) f y e = (x, refl, e)
checked_gave (Breaks place rule) f y e = absurd (no_break y place rule e)

pub or_gave : {X : Type 0} (o : Option X) (place : Place) (rule : ℕ) (x : X) → or_breaks o place rule ≡ Is x → o ≡ Some x
or_gave None place rule x e = absurd (no_break x place rule e)
or_gave (Some y) place rule x e = ap (λ (z : _). Some z) (is_same y x e)

is_parent_true : (n : ℕ) (o : Option ℕ) → is_parent n o ≡ true → o ≡ Some n
is_parent_true n None e = absurd (false≢true e)
is_parent_true n (Some p) e = ap (λ (k : ℕ). Some k) (eqb-true p n e)

module _ (units : List UnitTree) (names : List (List ℕ)) (own : HaveOwnPlaces (declarations units)) (right : IsNone (NameBreach units names)) (instances : List Instance) (are : AreInstances units names instances) where
  abbrev ds : List Declaration
  ds = declarations units

  -- a name in a component stands for what is declared there by it
  pub named_is : (c : Declaration) (test : Sort → Bool) (name : Name) (d x : Declaration) → In d ds → d.scope ≡ Part c.name.place → d.name.id ≡ name.id → named_in ds c.name.place test name ≡ Some x → x ≡ d
  named_is c test name d x there at same e =
      let r = and_then_gave (if_sort test) (look_up ds (Part c.name.place) name.id) x e in
      let one : r.0 ≡ d = same_Some r.0 d (sym r.1 ∙ found_as units names own right (Part c.name.place) name.id d there at same) in
      sym (sort_gave test r.0 x r.2).0 ∙ one

  -- the component that is reached is that of the instance
  pub record IsReached (reached : Option Declaration) (to : ℕ) : Type 0 where
    pub component : Declaration
    pub is : reached ≡ Some component
    pub at : component_at ds instances to ≡ Some component

  pub leads : (path : List Name) (from to : ℕ) (c : Declaration) (reached : Option Declaration) → component_at ds instances from ≡ Some c → led_to instances from path ≡ Some to → along ds (Some c) path ≡ Is reached → IsReached reached to
  leads [] from to c reached at led e =
      record { component = c; is = sym (is_same (Some c) reached e); at = subst (λ (n : ℕ). component_at ds instances n ≡ Some c) (same_Some from to led) at }
  leads (name ∷ more) from to c reached at led e =
      let child = and_then_gave (λ child. led_to instances child more) (child_named instances from name.id) to led in
      let entry = at_position (λ i. is_parent from i.parent && same_name i.name name.id) instances child.0 child.1 in
      let both = both_true (is_parent from entry.0.parent) (same_name entry.0.name name.id) entry.2 in
      let up = parent_is units names own right instances are child.0 entry.0 from entry.1 (is_parent_true from entry.0.parent both.0) in
      let one : up.upper ≡ c = same_Some up.upper c (sym up.upper_is ∙ at) in
      let there = in_filter (λ d. is_instance d.sort && same_scope d.scope (Part up.upper.name.place)) ds up.declared.declaration up.declared.among in
      let scope : up.declared.declaration.scope ≡ Part c.name.place =
      same_scopes up.declared.declaration.scope (Part up.upper.name.place) (both_true (is_instance up.declared.declaration.sort) (same_scope up.declared.declaration.scope (Part up.upper.name.place)) there.1).1 ∙ ap (λ (x : Declaration). Part x.name.place) one in
      let step = checked_gave (or_breaks (named_within ds (Some c) is_instance name) name.place 3) (λ instance. along ds (type_of ds instance) more) reached e in
      let same : step.0 ≡ up.declared.declaration = named_is c is_instance name up.declared.declaration step.0 there.0 scope (up.declared.name ∙ same_names entry.0.name name.id both.1) (or_gave (named_within ds (Some c) is_instance name) name.place 3 step.0 step.1) in
      let typed : type_of ds step.0 ≡ Some up.declared.component = ap (type_of ds) same ∙ up.declared.typed in
      leads more child.0 to up.declared.component reached (ap (option_and_then (component_of ds)) entry.1 ∙ up.its_component) child.2 (sym (ap (λ (o : Option Declaration). along ds o more) typed) ∙ step.2)
