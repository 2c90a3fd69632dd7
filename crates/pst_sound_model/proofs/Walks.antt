-- Where the parts of types stand: what they use and declare, the sources use and declare.
use Rattle.std.proofs.Common.{◌≡◌, inl, inr, refl, ap, subst}
use Rattle.std.specs.Prelude.{List, [], ◌∷◌, map, Option, Some, None}
use Rattle.std.specs.List.{flat_map}
use Rattle.std.proofs.lemmas.Option.{none-some, same_Some}
use Rattle.pst_base.specs.declared.position.Place.{Place}
use Rattle.pst_ast.specs.declared.leaf.Name.{Name}
use Rattle.pst_ast.specs.declared.declaration.ObjectWord.{ObjectWord}
use Rattle.pst_ast.specs.declared.declaration.BaseNode.{BaseNode}
use Rattle.pst_ast.specs.ExpressionTree.{ExprTree, PartTree, MakePart, NoIndex, SomeIndex, MakeIndex}
use Rattle.pst_ast.specs.SharedTree.{TypeTree}
use Rattle.pst_ast.specs.DeclarationTree.{UnitTree, MakeUnit, ItemTree, ItemComponent, ItemObject, ItemEnum, ItemFunction, ItemEmpty, MakeComponent, ComponentPartTree, ComponentPartAction, ComponentPartObject, ComponentPartEnum, ComponentPartFunction, ComponentPartPool, ComponentPartPoolBind, ComponentPartMembers, ComponentPartEmpty, ObjectTree, MakeObject, ObjectPartTree, ObjectPartField, ObjectPartConstraint, ObjectPartEmpty, ActionTree, MakeAction, ActionPartTree, ActionPartField, ActionPartReference, ActionPartClaim, ActionPartMembers, ActionPartConstraint, ActionPartActivity, ActionPartBody, ActionPartEmpty, FieldTree, MakeField}
use Rattle.pst_ast.specs.declared.scope_declaration.Declaration.{Declaration}
use Rattle.pst_ast.specs.declared.scope_declaration.Sort.TheVariants as sort
use Rattle.pst_ast.specs.declared.environment.Environment.{Environment}
use Rattle.pst_ast.specs.declared.referent.Owner.TheVariants.{OfAction, OfObject}
use Rattle.pst_ast.specs.Declarations.{type_declared, action_declared, base_name, next_field_part, in_action_part, in_object_part, in_action, in_object, in_component_part, in_item_of_unit, in_unit, declarations}
use Rattle.pst_ast.specs.Uses.{Use, Judges, ArraySize, NamesBase, option_uses, type_uses, size_of_part, field_uses, action_part_uses, object_part_uses, action_uses, object_uses, component_part_uses, unit_item_uses, unit_uses, uses, environment}
use Rattle.pst_type_rules.specs.Sites.{DeclaredAction, action_of, actions_in_part, actions_in_item, actions, items_of, DeclaredField, field_of_part, fields_of, fields_in_action_part, fields_in_object_part, fields_in_action, fields_in_object, fields_in_part, fields_in_item, fields}
use Rattle.pst_elab_rules.specs.Types.{DeclaredObject, object_of_tree, objects_in_part, objects_in_item}
use Rattle.pst_sound_model.proofs.Members.{In, in_flat_map, to_flat_map, in_map, to_right}

module _ (units : List UnitTree) where
  pub item_used : (item : ItemTree) → In item (flat_map items_of units) → (u : Use) → In u (unit_item_uses item) → In u (uses units)
  item_used item there u has = let r = in_flat_map items_of units item there in to_flat_map unit_uses units r.0 u r.1 (by r.0 r.2)
    where
      by : (unit : UnitTree) → In item (items_of unit) → In u (unit_uses unit)
      by (MakeUnit items finish) h = to_flat_map unit_item_uses items item u h has

  pub item_declared : (item : ItemTree) → In item (flat_map items_of units) → (d : Declaration) → In d (in_item_of_unit item) → In d (declarations units)
  item_declared item there d has = let r = in_flat_map items_of units item there in to_flat_map in_unit units r.0 d r.1 (by r.0 r.2)
    where
      by : (unit : UnitTree) → In item (items_of unit) → In d (in_unit unit)
      by (MakeUnit items finish) h = to_flat_map in_item_of_unit items item d h has

  -- ---- objects

  pub record IsObjectAt (o : DeclaredObject) : Type 0 where
    pub component : Option Place
    pub word : ObjectWord
    pub itself : In (type_declared component (sort.Object word) o.name) (declarations units)
    pub used : (part : ObjectPartTree) → In part o.parts → (u : Use) → In u (object_part_uses (environment component (OfObject (type_declared component (sort.Object word) o.name))) part) → In u (uses units)
    pub declared : (part : ObjectPartTree) → In part o.parts → (d : Declaration) → In d (in_object_part o.name.place part) → In d (declarations units)

  in_component : (word : Place) (name : Name) (left : Place) (parts : List ComponentPartTree) (right : Place) → In (ItemComponent (MakeComponent word name left parts right)) (flat_map items_of units) → (part : ComponentPartTree) → In part parts
      → ((u : Use) → In u (component_part_uses name.place part) → In u (uses units)) × ((d : Declaration) → In d (in_component_part name.place part) → In d (declarations units))
  in_component word name left parts right item part there = (
    λ u has. item_used (ItemComponent (MakeComponent word name left parts right)) item u (to_flat_map (component_part_uses name.place) parts part u there has),
    λ d has. item_declared (ItemComponent (MakeComponent word name left parts right)) item d (inr (to_flat_map (in_component_part name.place) parts part d there has)),
  )

  object_is : (component : Option Place) (object : ObjectTree) → ((u : Use) → In u (object_uses component object) → In u (uses units)) → ((d : Declaration) → In d (in_object component object) → In d (declarations units)) → IsObjectAt (object_of_tree object)
  object_is component (MakeObject word place name left parts right) used declared = record {
    component = component;
    word = word;
    itself = declared (type_declared component (sort.Object word) name) (inl refl);
    used = λ part there u has. used u (to_flat_map (object_part_uses (environment component (OfObject (type_declared component (sort.Object word) name)))) parts part u there has);
    declared = λ part there d has. declared d (inr (to_flat_map (in_object_part name.place) parts part d there has));
  }

  object_in_part : (component : Place) (part : ComponentPartTree) → ((u : Use) → In u (component_part_uses component part) → In u (uses units)) × ((d : Declaration) → In d (in_component_part component part) → In d (declarations units))
      → (o : DeclaredObject) → In o (objects_in_part part) → IsObjectAt o
  object_in_part component (ComponentPartAction action) both o there = absurd there
  object_in_part component (ComponentPartObject object) both o (inl e) = subst IsObjectAt e (object_is (Some component) object both.0 both.1)
  object_in_part component (ComponentPartObject object) both o (inr there) = absurd there
  object_in_part component (ComponentPartEnum enum) both o there = absurd there
  object_in_part component (ComponentPartFunction function) both o there = absurd there
  object_in_part component (ComponentPartPool pool) both o there = absurd there
  object_in_part component (ComponentPartPoolBind bind) both o there = absurd there
  object_in_part component (ComponentPartMembers members) both o there = absurd there
  object_in_part component (ComponentPartEmpty place) both o there = absurd there

  object_in_item : (item : ItemTree) → In item (flat_map items_of units) → (o : DeclaredObject) → In o (objects_in_item item) → IsObjectAt o
  object_in_item (ItemComponent (MakeComponent word name left parts right)) item o there =
      let r = in_flat_map objects_in_part parts o there in object_in_part name.place r.0 (in_component word name left parts right item r.0 r.1) o r.2
  object_in_item (ItemObject object) item o (inl e) = subst IsObjectAt e (object_is None object (item_used (ItemObject object) item) (item_declared (ItemObject object) item))
  object_in_item (ItemObject object) item o (inr there) = absurd there
  object_in_item (ItemEnum enum) item o there = absurd there
  object_in_item (ItemFunction function) item o there = absurd there
  object_in_item (ItemEmpty place) item o there = absurd there

  pub object_stands : (o : DeclaredObject) → In o (flat_map objects_in_item (flat_map items_of units)) → IsObjectAt o
  object_stands o there = let r = in_flat_map objects_in_item (flat_map items_of units) o there in object_in_item r.0 r.1 o r.2

  -- ---- actions

  pub record IsActionAt (a : DeclaredAction) : Type 0 where
    pub component : Place
    pub base : Option BaseNode
    pub itself : In (action_declared component base a.name) (declarations units)
    pub used : (part : ActionPartTree) → In part a.parts → (u : Use) → In u (action_part_uses (environment (Some component) (OfAction (action_declared component base a.name))) part) → In u (uses units)
    pub declared : (part : ActionPartTree) → In part a.parts → (d : Declaration) → In d (in_action_part a.name.place part) → In d (declarations units)

  action_is : (component : Place) (action : ActionTree) → ((u : Use) → In u (action_uses component action) → In u (uses units)) → ((d : Declaration) → In d (in_action component action) → In d (declarations units)) → IsActionAt (action_of action)
  action_is component (MakeAction abstract_place word name base left parts right) used declared = record {
    component = component;
    base = base;
    itself = declared (action_declared component base name) (inl refl);
    used = λ part there u has. used u (to_right (option_uses (λ b. NamesBase (action_declared component base name) (base_name b) ∷ []) base)
        (flat_map (action_part_uses (environment (Some component) (OfAction (action_declared component base name)))) parts) u
        (to_flat_map (action_part_uses (environment (Some component) (OfAction (action_declared component base name)))) parts part u there has));
    declared = λ part there d has. declared d (inr (to_flat_map (in_action_part name.place) parts part d there has));
  }

  action_in_part : (component : Place) (part : ComponentPartTree) → ((u : Use) → In u (component_part_uses component part) → In u (uses units)) × ((d : Declaration) → In d (in_component_part component part) → In d (declarations units))
      → (a : DeclaredAction) → In a (actions_in_part part) → IsActionAt a
  action_in_part component (ComponentPartAction action) both a (inl e) = subst IsActionAt e (action_is component action both.0 both.1)
  action_in_part component (ComponentPartAction action) both a (inr there) = absurd there
  action_in_part component (ComponentPartObject object) both a there = absurd there
  action_in_part component (ComponentPartEnum enum) both a there = absurd there
  action_in_part component (ComponentPartFunction function) both a there = absurd there
  action_in_part component (ComponentPartPool pool) both a there = absurd there
  action_in_part component (ComponentPartPoolBind bind) both a there = absurd there
  action_in_part component (ComponentPartMembers members) both a there = absurd there
  action_in_part component (ComponentPartEmpty place) both a there = absurd there

  action_in_item : (item : ItemTree) → In item (flat_map items_of units) → (a : DeclaredAction) → In a (actions_in_item item) → IsActionAt a
  action_in_item (ItemComponent (MakeComponent word name left parts right)) item a there =
      let r = in_flat_map actions_in_part parts a there in action_in_part name.place r.0 (in_component word name left parts right item r.0 r.1) a r.2
  action_in_item (ItemObject object) item a there = absurd there
  action_in_item (ItemEnum enum) item a there = absurd there
  action_in_item (ItemFunction function) item a there = absurd there
  action_in_item (ItemEmpty place) item a there = absurd there

  pub action_stands : (a : DeclaredAction) → In a (actions units) → IsActionAt a
  action_stands a there = let r = in_flat_map actions_in_item (flat_map items_of units) a there in action_in_item r.0 r.1 a r.2

  -- ---- fields with a size

  abbrev pub IsSized : DeclaredField → Type 0
  IsSized f = (expr : ExprTree) → f.size ≡ Some expr → In (Judges f.at ArraySize expr) (uses units)

  part_sized : (at : Environment) (type : TypeTree) (part : PartTree) (expr : ExprTree) → (field_of_part at type part).size ≡ Some expr → In (Judges (field_of_part at type part).at ArraySize expr) (size_of_part at part)
  part_sized at type (MakePart name NoIndex) expr e = none-some expr e
  part_sized at type (MakePart name (SomeIndex (MakeIndex left inner right))) expr e = inl (ap (λ (x : ExprTree). Judges at ArraySize x) (same_Some inner expr e))

  field_sized : (at : Environment) (field : FieldTree) → ((u : Use) → In u (field_uses at field) → In u (uses units)) → (f : DeclaredField) → In f (fields_of at field) → IsSized f
  field_sized at (MakeField rand_place type first rest semicolon) used f there = by (in_map (field_of_part at type) (first ∷ map next_field_part rest) f there)
    where
      by : (part : PartTree) × In part (first ∷ map next_field_part rest) × (field_of_part at type part ≡ f) → IsSized f
      by r = subst IsSized r.2 (λ expr e. used (Judges (field_of_part at type r.0).at ArraySize expr)
          (to_right (type_uses at type) (flat_map (size_of_part at) (first ∷ map next_field_part rest)) (Judges (field_of_part at type r.0).at ArraySize expr)
          (to_flat_map (size_of_part at) (first ∷ map next_field_part rest) r.0 (Judges (field_of_part at type r.0).at ArraySize expr) r.1 (part_sized at type r.0 expr e))))

  action_part_sized : (at : Environment) (part : ActionPartTree) → ((u : Use) → In u (action_part_uses at part) → In u (uses units)) → (f : DeclaredField) → In f (fields_in_action_part at part) → IsSized f
  action_part_sized at (ActionPartField field) used f there = field_sized at field used f there
  action_part_sized at (ActionPartReference reference) used f there = absurd there
  action_part_sized at (ActionPartClaim claim) used f there = absurd there
  action_part_sized at (ActionPartMembers members) used f there = absurd there
  action_part_sized at (ActionPartConstraint constraint) used f there = absurd there
  action_part_sized at (ActionPartActivity activity) used f there = absurd there
  action_part_sized at (ActionPartBody body) used f there = absurd there
  action_part_sized at (ActionPartEmpty place) used f there = absurd there

  object_part_sized : (at : Environment) (part : ObjectPartTree) → ((u : Use) → In u (object_part_uses at part) → In u (uses units)) → (f : DeclaredField) → In f (fields_in_object_part at part) → IsSized f
  object_part_sized at (ObjectPartField field) used f there = field_sized at field used f there
  object_part_sized at (ObjectPartConstraint constraint) used f there = absurd there
  object_part_sized at (ObjectPartEmpty place) used f there = absurd there

  action_sized : (component : Place) (action : ActionTree) → ((u : Use) → In u (action_uses component action) → In u (uses units)) → (f : DeclaredField) → In f (fields_in_action component action) → IsSized f
  action_sized component (MakeAction abstract_place word name base left parts right) used f there =
      let at = environment (Some component) (OfAction (action_declared component base name)) in
      let r = in_flat_map (fields_in_action_part at) parts f there in
      action_part_sized at r.0 (λ u has. used u (to_right (option_uses (λ b. NamesBase (action_declared component base name) (base_name b) ∷ []) base) (flat_map (action_part_uses at) parts) u (to_flat_map (action_part_uses at) parts r.0 u r.1 has))) f r.2

  object_sized : (component : Option Place) (object : ObjectTree) → ((u : Use) → In u (object_uses component object) → In u (uses units)) → (f : DeclaredField) → In f (fields_in_object component object) → IsSized f
  object_sized component (MakeObject word place name left parts right) used f there =
      let at = environment component (OfObject (type_declared component (sort.Object word) name)) in
      let r = in_flat_map (fields_in_object_part at) parts f there in
      object_part_sized at r.0 (λ u has. used u (to_flat_map (object_part_uses at) parts r.0 u r.1 has)) f r.2

  component_part_sized : (component : Place) (part : ComponentPartTree) → ((u : Use) → In u (component_part_uses component part) → In u (uses units)) → (f : DeclaredField) → In f (fields_in_part component part) → IsSized f
  component_part_sized component (ComponentPartAction action) used f there = action_sized component action used f there
  component_part_sized component (ComponentPartObject object) used f there = object_sized (Some component) object used f there
  component_part_sized component (ComponentPartEnum enum) used f there = absurd there
  component_part_sized component (ComponentPartFunction function) used f there = absurd there
  component_part_sized component (ComponentPartPool pool) used f there = absurd there
  component_part_sized component (ComponentPartPoolBind bind) used f there = absurd there
  component_part_sized component (ComponentPartMembers members) used f there = absurd there
  component_part_sized component (ComponentPartEmpty place) used f there = absurd there

  item_sized : (item : ItemTree) → In item (flat_map items_of units) → (f : DeclaredField) → In f (fields_in_item item) → IsSized f
  item_sized (ItemComponent (MakeComponent word name left parts right)) item f there =
      let r = in_flat_map (fields_in_part name.place) parts f there in component_part_sized name.place r.0 (in_component word name left parts right item r.0 r.1).0 f r.2
  item_sized (ItemObject object) item f there = object_sized None object (item_used (ItemObject object) item) f there
  item_sized (ItemEnum enum) item f there = absurd there
  item_sized (ItemFunction function) item f there = absurd there
  item_sized (ItemEmpty place) item f there = absurd there

  pub sized : (f : DeclaredField) → In f (fields units) → IsSized f
  sized f there = let r = in_flat_map fields_in_item (flat_map items_of units) f there in item_sized r.0 r.1 f r.2
