-- Each instance is of a declared component, and stands where its parent's component declares it.
use Rattle.std.proofs.Common.{◌≡◌, ◌⊎◌, inl, inr, refl, sym, ap, subst, arith, ◌∙◌}
use Rattle.std.specs.Prelude.{ℕ, ◌+◌, true, ◌&&◌, List, ◌∷◌, ◌++◌, length, slice_get, codes, Option, Some, None, option_and_then}
use Rattle.std.proofs.lemmas.Bool.{false≢true}
use Rattle.std.proofs.lemmas.Option.{none-some, same_Some}
use Rattle.pst_base.specs.declared.table.NameId.{NameId}
use Rattle.pst_ast.specs.declared.instance.Instance.{Instance}
use Rattle.pst_ast.specs.DeclarationTree.{UnitTree}
use Rattle.pst_ast.specs.Breaches.{IsNone}
use Rattle.pst_ast.specs.declared.scope_declaration.Declaration.{Declaration}
use Rattle.pst_ast.specs.declared.scope_declaration.Scope.TheVariants.{Files, Part}
use Rattle.pst_ast.specs.declared.scope_declaration.Sort.{Sort}
use Rattle.pst_ast.specs.declared.scope_declaration.Sort.TheVariants as sort
use Rattle.pst_ast.specs.Declarations.{declarations}
use Rattle.pst_ast.specs.Lookups.{is_type_for, type_of, is_text}
use Rattle.pst_ast.specs.NameRules.{NameBreach, is_root_component}
use Rattle.pst_ast.specs.Sorts.{is_component, is_instance, same_scope}
use Rattle.pst_tree.specs.Instances.{instances_in, instance, IsSubtree, Subtree, AreSubtrees, NoSubtree, MoreSubtrees, AreInstances}
use Rattle.pst_tree.proofs.LaidOut.{Stands, in_front, behind_it, one_of_both, from_get, to_get}
use Rattle.pst_bind.specs.Pools.{component_of, component_at}
use Rattle.pst_terms.specs.Readings.{is_inner_sort}
use Rattle.pst_sound_model.specs.SoundExpressionsConditions.{HaveOwnPlaces}
use Rattle.pst_sound_model.proofs.Members.{In, in_find, in_filter}
use Rattle.pst_sound_model.proofs.Owned.{both_true}
use Rattle.pst_sound_model.proofs.ActionRows.{type_is_for, type_declared}
use Rattle.pst_sound_model.proofs.Levels.{IsLevelled, Inner, OfFiles, AtLevel, levelled}
use Rattle.pst_sound_model.proofs.Named.{found_as}

instance_to : (so other : Sort) → is_instance so ≡ true → is_type_for so other ≡ is_component other
instance_to sort.Component other e = absurd (false≢true e)
instance_to (sort.Action base) other e = absurd (false≢true e)
instance_to (sort.Object word) other e = absurd (false≢true e)
instance_to sort.Enumeration other e = absurd (false≢true e)
instance_to sort.Function other e = absurd (false≢true e)
instance_to (sort.Instance of) other e = refl
instance_to (sort.Pool of) other e = absurd (false≢true e)
instance_to (sort.Item level) other e = absurd (false≢true e)
instance_to (sort.Field array) other e = absurd (false≢true e)
instance_to (sort.Reference of output) other e = absurd (false≢true e)
instance_to (sort.Claim of) other e = absurd (false≢true e)
instance_to (sort.Handle of) other e = absurd (false≢true e)
instance_to sort.Constraint other e = absurd (false≢true e)
instance_to sort.Parameter other e = absurd (false≢true e)
instance_to sort.Local other e = absurd (false≢true e)
instance_to sort.Index other e = absurd (false≢true e)

-- an index or a local is no component
inner_no_component : (so : Sort) → is_component so ≡ true → so ≡ sort.Component
inner_no_component sort.Component e = refl
inner_no_component (sort.Action base) e = absurd (false≢true e)
inner_no_component (sort.Object word) e = absurd (false≢true e)
inner_no_component sort.Enumeration e = absurd (false≢true e)
inner_no_component sort.Function e = absurd (false≢true e)
inner_no_component (sort.Instance of) e = absurd (false≢true e)
inner_no_component (sort.Pool of) e = absurd (false≢true e)
inner_no_component (sort.Item level) e = absurd (false≢true e)
inner_no_component (sort.Field array) e = absurd (false≢true e)
inner_no_component (sort.Reference of output) e = absurd (false≢true e)
inner_no_component (sort.Claim of) e = absurd (false≢true e)
inner_no_component (sort.Handle of) e = absurd (false≢true e)
inner_no_component sort.Constraint e = absurd (false≢true e)
inner_no_component sort.Parameter e = absurd (false≢true e)
inner_no_component sort.Local e = absurd (false≢true e)
inner_no_component sort.Index e = absurd (false≢true e)

-- ---- instances and what declares them

module _ (ds : List Declaration) where
  -- a component, by whose name the instance is
  pub record IsOf (y : Instance) : Type 0 where
    pub component : Declaration
    pub there : In component ds
    pub is_component_is : is_component component.sort ≡ true
    pub named : y.component ≡ component.name.id

  -- what is declared as the instance in a component
  pub record IsDeclared (list : List Declaration) (y : Instance) : Type 0 where
    pub declaration : Declaration
    pub among : In declaration list
    pub name : declaration.name.id ≡ y.name
    pub component : Declaration
    pub typed : type_of ds declaration ≡ Some component
    pub is_component_is : is_component component.sort ≡ true
    pub named : y.component ≡ component.name.id

  -- the parent stands in the list, and its component declares the instance
  pub record IsLower (n : ℕ) (xs : List Instance) (y : Instance) : Type 0 where
    pub number : ℕ
    pub upper : Instance
    pub stands : Stands n xs number upper
    pub parent : y.parent ≡ Some number
    pub of : IsOf upper
    pub declared : IsDeclared (instances_in ds of.component) y

  -- the first of a subtree
  pub record IsTop (component : Declaration) (name : NameId) (parent : Option ℕ) (y : Instance) : Type 0 where
    pub above : y.parent ≡ parent
    pub name_is : y.name ≡ name
    pub named : y.component ≡ component.name.id

  lower_front : (n : ℕ) (xs ys : List Instance) (y : Instance) → IsLower n xs y → IsLower n (xs ++ ys) y
  lower_front n xs ys y l = record { number = l.number; upper = l.upper; stands = in_front n xs ys l.number l.upper l.stands; parent = l.parent; of = l.of; declared = l.declared }

  lower_behind : (n : ℕ) (xs ys : List Instance) (y : Instance) → IsLower (n + length xs) ys y → IsLower n (xs ++ ys) y
  lower_behind n xs ys y l = record { number = l.number; upper = l.upper; stands = behind_it n xs ys l.number l.upper l.stands; parent = l.parent; of = l.of; declared = l.declared }

  lower_more : (n : ℕ) (x : Instance) (xs : List Instance) (y : Instance) → IsLower (n + 1) xs y → IsLower n (x ∷ xs) y
  lower_more n x xs y l = record { number = l.number; upper = l.upper; stands = inr l.stands; parent = l.parent; of = l.of; declared = l.declared }

  -- an instance that the parent's component declares
  record IsUpper (parent : ℕ) (list : List Declaration) (y : Instance) : Type 0 where
    above : y.parent ≡ Some parent
    declared : IsDeclared list y

  upper_more : (parent : ℕ) (d : Declaration) (list : List Declaration) (y : Instance) → IsUpper parent list y → IsUpper parent (d ∷ list) y
  upper_more parent d list y u = record {
    above = u.above;
    declared = record {
      declaration = u.declared.declaration;
      among = inr u.declared.among;
      name = u.declared.name;
      component = u.declared.component;
      typed = u.declared.typed;
      is_component_is = u.declared.is_component_is;
      named = u.declared.named;
    };
  }

  upper_first : (parent : ℕ) (d component : Declaration) (list : List Declaration) (y : Instance) → is_component component.sort ≡ true → type_of ds d ≡ Some component → IsTop component d.name.id (Some parent) y → IsUpper parent (d ∷ list) y
  upper_first parent d component list y is typed top = record {
    above = top.above;
    declared = record { declaration = d; among = inl refl; name = sym top.name_is; component = component; typed = typed; is_component_is = is; named = top.named };
  }

  abbrev AreInstancesOf : List Declaration → Type 0
  AreInstancesOf list = (d : Declaration) → In d list → is_instance d.sort ≡ true

  declared_instances : (component : Declaration) → AreInstancesOf (instances_in ds component)
  declared_instances component d there = (both_true (is_instance d.sort) (same_scope d.scope (Part component.name.place)) (in_filter (λ d. is_instance d.sort && same_scope d.scope (Part component.name.place)) ds d there).1).0

  typed_component : (d component : Declaration) → is_instance d.sort ≡ true → type_of ds d ≡ Some component → is_component component.sort ≡ true
  typed_component d component is typed = sym (instance_to d.sort component.sort is) ∙ type_is_for ds d component typed

  mutual
    pub of_subtree : (number : ℕ) (component : Declaration) (name : NameId) (parent : Option ℕ) (xs : List Instance) → IsSubtree ds number component name parent xs → In component ds → is_component component.sort ≡ true
        → (m : ℕ) (y : Instance) → Stands number xs m y → IsTop component name parent y ⊎ IsLower number xs y
    of_subtree _ _ _ _ _ (Subtree number component name parent below rest) there is m y (inl e) =
        inl (record {
          above = sym (ap (λ (z : Instance). z.parent) e.1);
          name_is = sym (ap (λ (z : Instance). z.name) e.1);
          named = sym (ap (λ (z : Instance). z.component) e.1);
        })
    of_subtree _ _ _ _ _ (Subtree number component name parent below rest) there is m y (inr s) =
        by (of_subtrees number (number + 1) (instances_in ds component) below rest (declared_instances component) m y s)
      where
        by : IsUpper number (instances_in ds component) y ⊎ IsLower (number + 1) below y → IsTop component name parent y ⊎ IsLower number (instance name component parent (number + length below) ∷ below) y
        by (inl u) =
            inr (record {
              number = number;
              upper = instance name component parent (number + length below);
              stands = inl (refl, refl);
              parent = u.above;
              of = record { component = component; there = there; is_component_is = is; named = refl };
              declared = u.declared;
            })
        by (inr l) = inr (lower_more number (instance name component parent (number + length below)) below y l)

    of_subtrees : (parent number : ℕ) (list : List Declaration) (xs : List Instance) → AreSubtrees ds parent number list xs → AreInstancesOf list
        → (m : ℕ) (y : Instance) → Stands number xs m y → IsUpper parent list y ⊎ IsLower number xs y
    of_subtrees _ _ _ _ (NoSubtree parent number) are m y s = absurd s
    of_subtrees _ _ _ _ (MoreSubtrees parent number d component more first rest typed tree trees) are m y s =
        let is = typed_component d component (are d (inl refl)) typed in
        by (one_of_both number first rest m y s) (of_subtree number component d.name.id (Some parent) first tree (type_declared ds d component typed) is m y)
        (of_subtrees parent (number + length first) more rest trees (λ x h. are x (inr h)) m y)
      where
        in_first : IsTop component d.name.id (Some parent) y ⊎ IsLower number first y → IsUpper parent (d ∷ more) y ⊎ IsLower number (first ++ rest) y
        in_first (inl t) = inl (upper_first parent d component more y (typed_component d component (are d (inl refl)) typed) typed t)
        in_first (inr l) = inr (lower_front number first rest y l)

        in_rest : IsUpper parent more y ⊎ IsLower (number + length first) rest y → IsUpper parent (d ∷ more) y ⊎ IsLower number (first ++ rest) y
        in_rest (inl u) = inl (upper_more parent d more y u)
        in_rest (inr l) = inr (lower_behind number first rest y l)

        by : Stands number first m y ⊎ Stands (number + length first) rest m y → (Stands number first m y → IsTop component d.name.id (Some parent) y ⊎ IsLower number first y)
            → (Stands (number + length first) rest m y → IsUpper parent more y ⊎ IsLower (number + length first) rest y) → IsUpper parent (d ∷ more) y ⊎ IsLower number (first ++ rest) y
        by (inl h) one two = in_first (one h)
        by (inr h) one two = in_rest (two h)

-- ---- all instances

module _ (units : List UnitTree) (names : List (List ℕ)) (own : HaveOwnPlaces (declarations units)) (right : IsNone (NameBreach units names)) (instances : List Instance) (are : AreInstances units names instances) where
  abbrev ds : List Declaration
  ds = declarations units

  component_files : (c : Declaration) → In c ds → is_component c.sort ≡ true → c.scope ≡ Files
  component_files c there is = by (levelled units c there) (inner_no_component c.sort is)
    where
      by : IsLevelled c → c.sort ≡ sort.Component → c.scope ≡ Files
      by (Inner inner) so = absurd (false≢true (ap (λ (x : Sort). is_inner_sort x) (sym so) ∙ inner))
      by (OfFiles so files none) same = files
      by (AtLevel never level) so = absurd (false≢true (sym never ∙ is))

  -- the component of an instance
  pub component_is : (y : Instance) (c : Declaration) → In c ds → is_component c.sort ≡ true → y.component ≡ c.name.id → component_of ds y ≡ Some c
  component_is y c there is named = found_as units names own right Files y.component c there (component_files c there is) (sym named)

  root_right : In are.root ds × (is_component are.root.sort ≡ true)
  root_right =
      let found = in_find (is_root_component names) ds are.root are.is_root in
      (found.0, (both_true (is_component are.root.sort) (same_scope are.root.scope Files && is_text names (codes "pss_top") are.root.name.id) found.1).0)

  -- where an instance has a parent, this one's component declares it
  pub record HasParent (y : Instance) (number : ℕ) : Type 0 where
    pub upper : Declaration
    pub upper_is : component_at ds instances number ≡ Some upper
    pub declared : IsDeclared ds (instances_in ds upper) y
    pub its_component : component_of ds y ≡ Some declared.component

  pub parent_is : (k : ℕ) (y : Instance) (number : ℕ) → slice_get instances k ≡ Some y → y.parent ≡ Some number → HasParent y number
  parent_is k y number got up =
      by (of_subtree ds 0 are.root are.root.name.id None instances are.subtree root_right.0 root_right.1 (0 + k) y (from_get 0 instances k y got))
    where
      by : IsTop ds are.root are.root.name.id None y ⊎ IsLower ds 0 instances y → HasParent y number
      by (inl t) = absurd (none-some number (sym t.above ∙ up))
      by (inr l) =
          let same : l.number ≡ number = same_Some l.number number (sym l.parent ∙ up) in
          let at = to_get 0 instances l.number l.upper l.stands in
          let got : slice_get instances number ≡ Some l.upper = subst (λ (n : ℕ). slice_get instances n ≡ Some l.upper) (omega (arith, same, at.1)) at.2 in
          record {
            upper = l.of.component;
            upper_is = ap (option_and_then (component_of ds)) got ∙ component_is l.upper l.of.component l.of.there l.of.is_component_is l.of.named;
            declared = l.declared;
            its_component = component_is y l.declared.component (type_declared ds l.declared.declaration l.declared.component l.declared.typed) l.declared.is_component_is l.declared.named;
          }

  -- each instance is of a component
  pub of_component : (k : ℕ) (y : Instance) → slice_get instances k ≡ Some y → (c : Declaration) × In c ds × (component_of ds y ≡ Some c)
  of_component k y got =
      by (of_subtree ds 0 are.root are.root.name.id None instances are.subtree root_right.0 root_right.1 (0 + k) y (from_get 0 instances k y got))
    where
      by : IsTop ds are.root are.root.name.id None y ⊎ IsLower ds 0 instances y → (c : Declaration) × In c ds × (component_of ds y ≡ Some c)
      by (inl t) = (are.root, root_right.0, component_is y are.root root_right.0 root_right.1 t.named)
      by (inr l) =
          let there = type_declared ds l.declared.declaration l.declared.component l.declared.typed in
          (l.declared.component, there, component_is y l.declared.component there l.declared.is_component_is l.declared.named)
