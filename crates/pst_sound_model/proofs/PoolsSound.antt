-- Pools stand in instances, are of object types, and have a size within their limits.
use Rattle.std.proofs.Common.{◌≡◌, ◌<◌, ◌≤◌, inl, inr, refl, sym, ap, subst, arith, ◌∙◌}
use Rattle.std.specs.Prelude.{ℕ, true, ◌&&◌, List, [], ◌∷◌, map, length, slice_get, All, Option, Some, None, if◌then◌else◌, option_and_then}
use Rattle.std.specs.List.{flat_map, enumerate_from}
use Rattle.std.specs.Option.{option_map_or}
use Rattle.std.proofs.lemmas.Bool.{false≢true}
use Rattle.std.proofs.lemmas.List.{length-map}
use Rattle.std.proofs.lemmas.List.Elements.{All-map}
use Rattle.std.proofs.lemmas.Option.{slice_get_within}
use Rattle.pst_base.specs.declared.position.Place.{Place}
use Rattle.pst_ast.specs.declared.instance.Instance.{Instance}
use Rattle.pst_ast.specs.declared.shared.TypeName.{TypeName}
use Rattle.pst_ast.specs.ExpressionTree.{ExprTree}
use Rattle.pst_ast.specs.DeclarationTree.{UnitTree, ItemTree, ItemComponent, ItemObject, ItemEnum, ItemFunction, ItemEmpty, MakeComponent, ComponentPartTree, ComponentPartAction, ComponentPartObject, ComponentPartEnum, ComponentPartFunction, ComponentPartPool, ComponentPartPoolBind, ComponentPartMembers, ComponentPartEmpty, MakePool, SizeTree, MakeSize}
use Rattle.pst_expr.specs.declared.ranges.Span.{Span}
use Rattle.pst_model.specs.Limits.{most_size}
use Rattle.pst_model.specs.ModelTree.{ModelTree}
use Rattle.pst_model.specs.Sound.{IsSoundPool}
use Rattle.pst_ast.specs.Breaches.{IsNone}
use Rattle.pst_ast.specs.declared.scope_declaration.Declaration.{Declaration}
use Rattle.pst_ast.specs.declared.scope_declaration.Scope.TheVariants.{Part}
use Rattle.pst_ast.specs.declared.scope_declaration.Sort.{Sort}
use Rattle.pst_ast.specs.declared.scope_declaration.Sort.TheVariants as sort
use Rattle.pst_ast.specs.declared.environment.Environment.{Environment}
use Rattle.pst_ast.specs.declared.referent.Owner.TheVariants.{Nobody}
use Rattle.pst_ast.specs.Declarations.{member, declarations}
use Rattle.pst_ast.specs.Lookups.{declared_at, component_of as text_of, home, type_of}
use Rattle.pst_ast.specs.NameRules.{NameBreach}
use Rattle.pst_ast.specs.Sorts.{is_component, is_object, is_pool, same_place, same_scope}
use Rattle.pst_ast.specs.Uses.{Use, Judges, NamesType, AnObject, PoolSize, option_uses, size_uses, component_part_uses, uses, environment}
use Rattle.pst_type_rules.specs.declared.typed.ConstantValue.{ConstantValue}
use Rattle.pst_type_rules.specs.Sites.{items_of}
use Rattle.pst_type_rules.specs.TypeRules.{TypeBreach}
use Rattle.pst_type_rules.specs.Typed.{AreConstants}
use Rattle.pst_tree.specs.Instances.{part_of}
use Rattle.pst_bind.specs.Pools.{component_of, pools_in, pools_at, pools}
use Rattle.pst_terms.specs.Sources.{Sources}
use Rattle.pst_elab_rules.specs.Model.{DeclaredPool, pools_in_part, pools_in_item, pool_at, amount_in, size_of_pool, model_pool, sources, model_by, IsModel}
use Rattle.pst_elab_rules.specs.Types.{object_of, model_object, model_objects}
use Rattle.pst_sound_model.specs.SoundExpressionsConditions.{HaveOwnPlaces}
use Rattle.pst_sound_model.proofs.Members.{In, in_find, in_filter, in_map, in_flat_map, in_numbered, to_flat_map, to_left}
use Rattle.pst_sound_model.proofs.Owned.{both_true}
use Rattle.pst_sound_model.proofs.Facts.{AreFacts}
use Rattle.pst_sound_model.proofs.FactsOf.{facts_of}
use Rattle.pst_sound_model.proofs.Walks.{item_used}
use Rattle.pst_sound_model.proofs.ConstantsIn.{within_limits}
use Rattle.pst_sound_model.proofs.ActionRows.{object_numbered, object_of_typed, type_declared}
use Rattle.pst_sound_model.proofs.Standing.{IsComponentAt, IsStanding, AsAction, AsPool, InAction, InObject, Otherwise, standing}
use Rattle.pst_sound_model.proofs.Typed.{PartDeclares, AField, AReference, AClaim, AHandle, AnOther, part_declares, object_part_none, pool_apart, action_is_no, field_is_field, at_place, typed_by}
use Rattle.pst_sound_model.proofs.NeedsSound.{all_in}

-- ---- pools with a size

module _ (units : List UnitTree) where
  -- where the size of a pool is judged
  pub record IsJudged (expr : ExprTree) : Type 0 where
    pub at : Environment
    pub object : TypeName
    pub judged : In (Judges at (PoolSize object) expr) (uses units)

  abbrev IsSizedPool : DeclaredPool → Type 0
  IsSizedPool p = (left right : Place) (expr : ExprTree) → p.size ≡ Some (MakeSize left expr right) → IsJudged expr

  pool_in_part : (component : Place) (part : ComponentPartTree) → ((u : Use) → In u (component_part_uses component part) → In u (uses units)) → (p : DeclaredPool) → In p (pools_in_part part) → IsSizedPool p
  pool_in_part component (ComponentPartAction action) used p there left right expr e = absurd there
  pool_in_part component (ComponentPartObject object) used p there left right expr e = absurd there
  pool_in_part component (ComponentPartEnum enum) used p there left right expr e = absurd there
  pool_in_part component (ComponentPartFunction function) used p there left right expr e = absurd there
  pool_in_part component (ComponentPartPool (MakePool word size object name semicolon)) used p (inl same) left right expr e =
      let is : size ≡ Some (MakeSize left expr right) = ap (λ (x : DeclaredPool). x.size) same ∙ e in
      record {
        at = environment (Some component) Nobody;
        object = object;
        judged = used (Judges (environment (Some component) Nobody) (PoolSize object) expr) (to_left (option_uses (size_uses (Some component) object) size) (NamesType (Some component) AnObject object ∷ []) (Judges (environment (Some component) Nobody) (PoolSize object) expr)
            (subst (λ (z : Option SizeTree). In (Judges (environment (Some component) Nobody) (PoolSize object) expr) (option_uses (size_uses (Some component) object) z)) (sym is) (inl refl)));
      }
  pool_in_part component (ComponentPartPool (MakePool word size object name semicolon)) used p (inr there) left right expr e = absurd there
  pool_in_part component (ComponentPartPoolBind bind) used p there left right expr e = absurd there
  pool_in_part component (ComponentPartMembers members) used p there left right expr e = absurd there
  pool_in_part component (ComponentPartEmpty place) used p there left right expr e = absurd there

  pool_in_item : (item : ItemTree) → In item (flat_map items_of units) → (p : DeclaredPool) → In p (pools_in_item item) → IsSizedPool p
  pool_in_item (ItemComponent (MakeComponent word name left parts right)) item p there =
      let r = in_flat_map pools_in_part parts p there in
      pool_in_part name.place r.0 (λ u has. item_used units (ItemComponent (MakeComponent word name left parts right)) item u (to_flat_map (component_part_uses name.place) parts r.0 u r.1 has)) p r.2
  pool_in_item (ItemObject object) item p there = absurd there
  pool_in_item (ItemEnum enum) item p there = absurd there
  pool_in_item (ItemFunction function) item p there = absurd there
  pool_in_item (ItemEmpty place) item p there = absurd there

  pub pool_sized : (p : DeclaredPool) → In p (flat_map pools_in_item (flat_map items_of units)) → IsSizedPool p
  pool_sized p there = let r = in_flat_map pools_in_item (flat_map items_of units) p there in pool_in_item r.0 r.1 p r.2

module _ (units : List UnitTree) (names : List (List ℕ)) (constants : List ConstantValue) (are : AreConstants units names constants) (facts : AreFacts (sources units names constants)) (right : IsNone (NameBreach units names)) (kept : IsNone (TypeBreach units names)) (domains : List (List Span)) (instances : List Instance) where
  abbrev s : Sources
  s = sources units names constants

  abbrev ds : List Declaration
  ds = declarations units

  abbrev HasObject : Declaration → Type 0
  HasObject d = (t : Declaration) × (type_of ds d ≡ Some t) × (is_object t.sort ≡ true)

  pub pool_typed : (d : Declaration) → In d ds → is_pool d.sort ≡ true → HasObject d
  pool_typed d there is = by (standing units d there)
    where
      in_part : (type : Place) (part : _) → PartDeclares type d part → ⊥
      in_part type _ (AField field p at e) = (pool_apart d.sort is).1 (field_is_field type p d e)
      in_part type _ (AReference word place object names semicolon name e) = absurd (false≢true (sym (ap (λ (x : Declaration). is_pool x.sort) e) ∙ is))
      in_part type _ (AClaim word place object names semicolon name e) = absurd (false≢true (sym (ap (λ (x : Declaration). is_pool x.sort) e) ∙ is))
      in_part type _ (AHandle of names semicolon name e) = absurd (false≢true (sym (ap (λ (x : Declaration). is_pool x.sort) e) ∙ is))
      in_part type part (AnOther _ other) = (pool_apart d.sort is).0 other

      home_is : (component : Declaration) → IsComponentAt units component → (m : Declaration) → m.inside ≡ Some component.name.place → home ds m ≡ Some component.name.place
      home_is component at m e =
          ap (λ (o : Option Place). option_and_then text_of (option_and_then (declared_at ds) o)) e
          ∙ (ap (option_and_then text_of) (at_place s facts right component at.itself) ∙ ap (λ (so : Sort). if is_component so then Some component.name.place else component.inside) at.sort_is)

      by : IsStanding units d → HasObject d
      by (AsAction component a at among same inside action) = absurd (action_is_no is_pool (λ base. refl) d.sort action is)
      by (AsPool component p object at among same e used sized) =
          subst HasObject (sym e) (typed_by s facts right (Some component.name.place) AnObject object (member component.name.place (sort.Pool object) p.name) used
          (home_is component at (member component.name.place (sort.Pool object) p.name) refl) refl (λ so. refl))
      by (InAction a part among at has) = absurd (in_part a.name.place part (part_declares a.name.place part d has))
      by (InObject o part among at has) = absurd (object_part_none is_pool pool_apart o.name.place part d has is)
      by (Otherwise other) = absurd ((pool_apart d.sort is).0 other)

  abbrev Within : ℕ → Type 0
  Within n = (1 ≤ n) × (n ≤ most_size)

  size_within : (d : Declaration) → Within (size_of_pool s d)
  size_within d = by (pool_at units d.name.place) refl
    where
      sized : (p : DeclaredPool) → In p (flat_map pools_in_item (flat_map items_of units)) → (o : Option SizeTree) → p.size ≡ o → Within (option_map_or (amount_in s) o 1)
      sized p there None e = (omega arith, omega arith)
      sized p there (Some (MakeSize left expr close)) e =
          let j = pool_sized units p there left close expr e in within_limits units names constants are kept j.at (PoolSize j.object) expr 1 most_size j.judged refl refl

      by : (o : Option DeclaredPool) → pool_at units d.name.place ≡ o → Within (option_map_or (amount_in s) (option_and_then (λ p. p.size) o) 1)
      by None e = (omega arith, omega arith)
      by (Some p) e = sized p (in_find (λ p. same_place p.name.place d.name.place) (flat_map pools_in_item (flat_map items_of units)) p e).0 p.size refl

  -- a pool of an instance
  pub record IsPoolOf (x : ℕ × Declaration) : Type 0 where
    pub instance : x.0 < length instances
    pub there : In x.1 ds
    pub is_pool_is : is_pool x.1.sort ≡ true

  pub pool_is : (x : ℕ × Declaration) → In x (pools ds instances) → IsPoolOf x
  pool_is x there = let r = in_flat_map (pools_at ds) (enumerate_from 0 instances) x there in by r.0 r.1 (component_of ds r.0.1) r.2
    where
      by : (y : ℕ × Instance) → In y (enumerate_from 0 instances) → (o : Option Declaration) → In x (option_map_or (λ c. map (λ d. (y.0, d)) (pools_in ds c)) o []) → IsPoolOf x
      by y at None has = absurd has
      by y at (Some c) has =
          let m = in_map (λ (d : Declaration). (y.0, d)) (pools_in ds c) x has in
          let f = in_filter (λ d. is_pool d.sort && same_scope d.scope (Part c.name.place)) ds m.0 m.1 in
          let both = both_true (is_pool m.0.sort) (same_scope m.0.scope (Part c.name.place)) f.1 in
          let within : y.0 < length instances = slice_get_within instances y.0 y.1 (in_numbered instances y at) in
          subst IsPoolOf m.2 (record { instance = within; there = f.0; is_pool_is = both.0 })

  pub pool_object : (d : Declaration) → In d ds → is_pool d.sort ≡ true → (t : Declaration) × (type_of ds d ≡ Some t) × (slice_get (model_objects s domains) (object_of ds d) ≡ Some (model_object s domains t))
  pool_object d there is =
      let t = pool_typed d there is in
      (t.0, t.1, ap (slice_get (model_objects s domains)) (object_of_typed s facts domains d t.0 t.1) ∙ object_numbered s facts domains t.0 (type_declared ds d t.0 t.1) t.2)

  pool_sound : (x : ℕ × Declaration) → In x (pools ds instances) → IsSoundPool (model_by s domains instances) (model_pool s x)
  pool_sound x there =
      let p = pool_is x there in
      let object = pool_object x.1 p.there p.is_pool_is in
      let size = size_within x.1 in
      record {
        instance = omega (arith, p.instance, length-map instances part_of);
        object = slice_get_within (model_objects s domains) (object_of ds x.1) (model_object s domains object.0) object.2;
        least = size.0;
        most = size.1;
      }

  pub pools_are_sound : All (IsSoundPool (model_by s domains instances)) (map (model_pool s) (pools ds instances))
  pools_are_sound = All-map (IsSoundPool (model_by s domains instances)) (model_pool s) (pools ds instances) (all_in (λ x. IsSoundPool (model_by s domains instances) (model_pool s x)) (pools ds instances) pool_sound)

pub pools_sound : (units : List UnitTree) (names : List (List ℕ)) (model : ModelTree) → HaveOwnPlaces (declarations units) → IsNone (NameBreach units names) → IsNone (TypeBreach units names) → IsModel units names model
    → All (IsSoundPool model) model.pools
pools_sound units names model own right kept is =
    let facts = facts_of units names is.constants is.are_constants kept own in
    subst (λ (m : ModelTree). All (IsSoundPool m) m.pools) (sym is.is) (pools_are_sound units names is.constants is.are_constants facts right kept is.domains is.instances)
