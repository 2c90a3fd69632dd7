-- Where declarations stand in the sources.
use Rattle.std.proofs.Common.{◌≡◌, inl, inr, refl, subst}
use Rattle.std.specs.Prelude.{true, List, [], ◌∷◌, map, Option, Some, None}
use Rattle.std.specs.List.{flat_map}
use Rattle.pst_base.specs.declared.position.Place.{Place}
use Rattle.pst_ast.specs.declared.shared.TypeName.{TypeName}
use Rattle.pst_ast.specs.DeclarationTree.{UnitTree, MakeUnit, ItemTree, ItemComponent, ItemObject, ItemEnum, ItemFunction, ItemEmpty, MakeComponent, ComponentPartTree, ComponentPartAction, ComponentPartObject, ComponentPartEnum, ComponentPartFunction, ComponentPartPool, ComponentPartPoolBind, ComponentPartMembers, ComponentPartEmpty, ObjectTree, MakeObject, ObjectPartTree, EnumTree, MakeEnum, FunctionTree, MakeFunction, MakePool, MembersTree, MakeMembers, ActionTree, MakeAction, ActionPartTree}
use Rattle.pst_ast.specs.declared.scope_declaration.Declaration.{Declaration}
use Rattle.pst_ast.specs.declared.scope_declaration.Scope.TheVariants.{Files}
use Rattle.pst_ast.specs.declared.scope_declaration.Sort.TheVariants as sort
use Rattle.pst_ast.specs.Declarations.{member, type_declared, level_of, item_name, next_item, parameter_name, parameters_of, names_of, in_action_part, in_object_part, in_action, in_object, in_enum, in_function, in_members, in_component_part, in_item_of_unit, in_unit, declarations}
use Rattle.pst_ast.specs.Sorts.{is_action}
use Rattle.pst_ast.specs.Uses.{Use, NamesType, AnObject, option_uses, size_uses, component_part_uses, uses}
use Rattle.pst_type_rules.specs.Sites.{DeclaredAction, action_of, actions_in_part, actions_in_item, actions, items_of}
use Rattle.pst_elab_rules.specs.Types.{DeclaredObject, object_of_tree, objects_in_part, objects_in_item}
use Rattle.pst_elab_rules.specs.Model.{DeclaredPool, pools_in_part, pools_in_item}
use Rattle.pst_sound_model.proofs.Members.{In, in_map, in_flat_map, to_flat_map, to_left, to_right}
use Rattle.pst_sound_model.proofs.Walks.{item_used, item_declared}
use Rattle.pst_sound_model.proofs.SoundTypesInside.{is_other}

module _ (units : List UnitTree) where
  -- a component in which something stands
  pub record IsComponentAt (component : Declaration) : Type 0 where
    pub itself : In component (declarations units)
    pub sort_is : component.sort ≡ sort.Component
    pub scope_is : component.scope ≡ Files

  pub data IsStanding (d : Declaration) : Type 0 where
    AsAction : (component : Declaration) (a : DeclaredAction) → IsComponentAt component → In a (actions units) → a.name ≡ d.name → d.inside ≡ Some component.name.place → is_action d.sort ≡ true → IsStanding d
    AsPool : (component : Declaration) (p : DeclaredPool) (object : TypeName) → IsComponentAt component → In p (flat_map pools_in_item (flat_map items_of units)) → p.name ≡ d.name → d ≡ member component.name.place (sort.Pool object) p.name
        → In (NamesType (Some component.name.place) AnObject object) (uses units) → ((u : Use) → In u (option_uses (size_uses (Some component.name.place) object) p.size) → In u (uses units)) → IsStanding d
    InAction : (a : DeclaredAction) (part : ActionPartTree) → In a (actions units) → In part a.parts → In d (in_action_part a.name.place part) → IsStanding d
    InObject : (o : DeclaredObject) (part : ObjectPartTree) → In o (flat_map objects_in_item (flat_map items_of units)) → In part o.parts → In d (in_object_part o.name.place part) → IsStanding d
    Otherwise : is_other d.sort ≡ true → IsStanding d

  other : (d e : Declaration) → d ≡ e → is_other d.sort ≡ true → IsStanding e
  other d e same is = subst IsStanding same (Otherwise is)

  -- ---- types in a component or at file level

  object_standing : (component : Option Place) (object : ObjectTree) → In (object_of_tree object) (flat_map objects_in_item (flat_map items_of units)) → (d : Declaration) → In d (in_object component object) → IsStanding d
  object_standing component (MakeObject word place name left parts right) there d (inl e) = other (type_declared component (sort.Object word) name) d e refl
  object_standing component (MakeObject word place name left parts right) there d (inr has) =
      let r = in_flat_map (in_object_part name.place) parts d has in InObject (object_of_tree (MakeObject word place name left parts right)) r.0 there r.1 r.2

  enum_standing : (component : Option Place) (enum : EnumTree) (d : Declaration) → In d (in_enum component enum) → IsStanding d
  enum_standing component (MakeEnum word name left first rest right) d (inl e) = other (type_declared component sort.Enumeration name) d e refl
  enum_standing component (MakeEnum word name left first rest right) d (inr has) =
      let r = in_map (λ i. member name.place (sort.Item (level_of component)) (item_name i)) (first ∷ map next_item rest) d has in other (member name.place (sort.Item (level_of component)) (item_name r.0)) d r.2 refl

  function_standing : (component : Option Place) (function : FunctionTree) (d : Declaration) → In d (in_function component function) → IsStanding d
  function_standing component (MakeFunction import_place target_place word answer name left parameters right semicolon) d (inl e) = other (type_declared component sort.Function name) d e refl
  function_standing component (MakeFunction import_place target_place word answer name left parameters right semicolon) d (inr has) =
      let r = in_map (λ p. member name.place sort.Parameter (parameter_name p)) (parameters_of parameters) d has in other (member name.place sort.Parameter (parameter_name r.0)) d r.2 refl

  members_standing : (component : Place) (members : MembersTree) (d : Declaration) → In d (in_members component (λ of. sort.Instance of) members) → IsStanding d
  members_standing component (MakeMembers of names semicolon) d has =
      let r = in_map (member component (sort.Instance of)) (names_of names) d has in other (member component (sort.Instance of) r.0) d r.2 refl

  -- ---- parts of a component

  module _ (component : Declaration) (is : IsComponentAt component) where
    action_standing : (action : ActionTree) → In (action_of action) (actions units) → (d : Declaration) → In d (in_action component.name.place action) → IsStanding d
    action_standing (MakeAction abstract_place word name base left parts right) there d (inl e) =
        subst IsStanding e (AsAction component (action_of (MakeAction abstract_place word name base left parts right)) is there refl refl refl)
    action_standing (MakeAction abstract_place word name base left parts right) there d (inr has) =
        let r = in_flat_map (in_action_part name.place) parts d has in InAction (action_of (MakeAction abstract_place word name base left parts right)) r.0 there r.1 r.2

    part_standing : (part : ComponentPartTree) → ((a : DeclaredAction) → In a (actions_in_part part) → In a (actions units)) → ((o : DeclaredObject) → In o (objects_in_part part) → In o (flat_map objects_in_item (flat_map items_of units)))
        → ((p : DeclaredPool) → In p (pools_in_part part) → In p (flat_map pools_in_item (flat_map items_of units))) → ((u : Use) → In u (component_part_uses component.name.place part) → In u (uses units))
        → (d : Declaration) → In d (in_component_part component.name.place part) → IsStanding d
    part_standing (ComponentPartAction action) a o p u d has = action_standing action (a (action_of action) (inl refl)) d has
    part_standing (ComponentPartObject object) a o p u d has = object_standing (Some component.name.place) object (o (object_of_tree object) (inl refl)) d has
    part_standing (ComponentPartEnum enum) a o p u d has = enum_standing (Some component.name.place) enum d has
    part_standing (ComponentPartFunction function) a o p u d has = function_standing (Some component.name.place) function d has
    part_standing (ComponentPartPool (MakePool word size object name semicolon)) a o p u d (inl e) =
        subst IsStanding e (AsPool component (record { name = name; size = size }) object is (p (record { name = name; size = size }) (inl refl)) refl refl
        (u (NamesType (Some component.name.place) AnObject object) (to_right (option_uses (size_uses (Some component.name.place) object) size) (NamesType (Some component.name.place) AnObject object ∷ []) (NamesType (Some component.name.place) AnObject object) (inl refl)))
        (λ v there. u v (to_left (option_uses (size_uses (Some component.name.place) object) size) (NamesType (Some component.name.place) AnObject object ∷ []) v there)))
    part_standing (ComponentPartPool (MakePool word size object name semicolon)) a o p u d (inr has) = absurd has
    part_standing (ComponentPartPoolBind bind) a o p u d has = absurd has
    part_standing (ComponentPartMembers members) a o p u d has = members_standing component.name.place members d has
    part_standing (ComponentPartEmpty place) a o p u d has = absurd has

  -- ---- items

  in_items : (item : ItemTree) → In item (flat_map items_of units) → (d : Declaration) → In d (in_item_of_unit item) → IsStanding d
  in_items (ItemComponent (MakeComponent word name left parts right)) item d (inl e) = other (type_declared None sort.Component name) d e refl
  in_items (ItemComponent (MakeComponent word name left parts right)) item d (inr has) =
      let r = in_flat_map (in_component_part name.place) parts d has in
      part_standing (type_declared None sort.Component name)
      (record { itself = item_declared units (ItemComponent (MakeComponent word name left parts right)) item (type_declared None sort.Component name) (inl refl); sort_is = refl; scope_is = refl }) r.0
      (λ a there. to_flat_map actions_in_item (flat_map items_of units) (ItemComponent (MakeComponent word name left parts right)) a item (to_flat_map actions_in_part parts r.0 a r.1 there))
      (λ o there. to_flat_map objects_in_item (flat_map items_of units) (ItemComponent (MakeComponent word name left parts right)) o item (to_flat_map objects_in_part parts r.0 o r.1 there))
      (λ p there. to_flat_map pools_in_item (flat_map items_of units) (ItemComponent (MakeComponent word name left parts right)) p item (to_flat_map pools_in_part parts r.0 p r.1 there))
      (λ u there. item_used units (ItemComponent (MakeComponent word name left parts right)) item u (to_flat_map (component_part_uses name.place) parts r.0 u r.1 there)) d r.2
  in_items (ItemObject object) item d has = object_standing None object (to_flat_map objects_in_item (flat_map items_of units) (ItemObject object) (object_of_tree object) item (inl refl)) d has
  in_items (ItemEnum enum) item d has = enum_standing None enum d has
  in_items (ItemFunction function) item d has = function_standing None function d has
  in_items (ItemEmpty place) item d has = absurd has

  pub standing : (d : Declaration) → In d (declarations units) → IsStanding d
  standing d there = let r = in_flat_map in_unit units d there in by r.0 r.1 r.2
    where
      by : (unit : UnitTree) → In unit units → In d (in_unit unit) → IsStanding d
      by (MakeUnit items finish) at has =
          let r = in_flat_map in_item_of_unit items d has in in_items r.0 (to_flat_map items_of units (MakeUnit items finish) r.0 at r.1) d r.2
