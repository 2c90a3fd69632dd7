-- A declared action is found by the place of its name.
use Rattle.std.proofs.Common.{◌≡◌, inl, inr, refl, ap, sym, subst, ◌∙◌}
use Rattle.std.specs.Prelude.{true, false, ◌&&◌, List, [], ◌∷◌, map, Option, Some, None}
use Rattle.std.specs.List.{flat_map}
use Rattle.std.proofs.lemmas.Bool.{false≢true, eq-eqb}
use Rattle.pst_base.specs.declared.position.Place.{Place}
use Rattle.pst_ast.specs.declared.leaf.Name.{Name}
use Rattle.pst_ast.specs.ExpressionTree.{PartTree, MakePart}
use Rattle.pst_ast.specs.DeclarationTree.{UnitTree, MakeUnit, ItemTree, ItemComponent, ItemObject, ItemEnum, ItemFunction, ItemEmpty, MakeComponent, ComponentPartTree, ComponentPartAction, ComponentPartObject, ComponentPartEnum, ComponentPartFunction, ComponentPartPool, ComponentPartPoolBind, ComponentPartMembers, ComponentPartEmpty, ObjectTree, MakeObject, ObjectPartTree, ObjectPartField, ObjectPartConstraint, ObjectPartEmpty, EnumTree, MakeEnum, FunctionTree, MakeFunction, MakePool, MembersTree, MakeMembers, ActionTree, MakeAction, ActionPartTree, ActionPartField, ActionPartReference, ActionPartClaim, ActionPartMembers, ActionPartConstraint, ActionPartActivity, ActionPartBody, ActionPartEmpty, FieldTree, MakeReference, MakeClaim}
use Rattle.pst_ast.specs.declared.scope_declaration.Declaration.{Declaration}
use Rattle.pst_ast.specs.declared.scope_declaration.Sort.TheVariants as sort
use Rattle.pst_ast.specs.Declarations.{member, level_of, item_name, next_item, parameter_name, parameters_of, names_of, field_part, field_parts, is_output, in_field, in_action_part, in_object_part, in_action, in_object, in_enum, in_function, in_members, in_component_part, in_item_of_unit, in_unit, declarations}
use Rattle.pst_ast.specs.Sorts.{is_action, same_place}
use Rattle.pst_type_rules.specs.Sites.{DeclaredAction, action_of, actions_in_part, actions_in_item, actions, items_of, action_at}
use Rattle.pst_front_laws.proofs.Elements.{In, in_map, in_flat_map, to_flat_map, some_found}
use Rattle.pst_front_laws.proofs.Others.{is_other, no_action, AreOthers, others_none, others_more, constraint_others, activity_others, body_others}

-- ---- what declares neither actions nor enum items

pub map_others : {A : Type 0} (f : A → Declaration) → ((x : A) → is_other (f x).sort ≡ true) → (xs : List A) → AreOthers (map f xs)
map_others f other xs d has = let r = in_map f xs d has in subst (λ (e : Declaration). is_other e.sort ≡ true) r.2 (other r.0)

pub flat_others : {A : Type 0} (f : A → List Declaration) → ((x : A) → AreOthers (f x)) → (xs : List A) → AreOthers (flat_map f xs)
flat_others f other xs d has = let r = in_flat_map f xs d has in other r.0 d r.2

field_other : (type : Place) (p : PartTree) → is_other (field_part type p).sort ≡ true
field_other type (MakePart name index) = refl

field_others : (type : Place) (field : FieldTree) → AreOthers (in_field type field)
field_others type field = map_others (field_part type) (field_other type) (field_parts field)

pub part_others : (type : Place) (part : ActionPartTree) → AreOthers (in_action_part type part)
part_others type (ActionPartField field) = field_others type field
part_others type (ActionPartReference (MakeReference word place object names semicolon)) = map_others (member type (sort.Reference object (is_output word))) (λ n. refl) (names_of names)
part_others type (ActionPartClaim (MakeClaim word place object names semicolon)) = map_others (member type (sort.Claim object)) (λ n. refl) (names_of names)
part_others type (ActionPartMembers (MakeMembers of names semicolon)) = map_others (member type (sort.Handle of)) (λ n. refl) (names_of names)
part_others type (ActionPartConstraint constraint) = constraint_others type constraint
part_others type (ActionPartActivity activity) = activity_others type activity
part_others type (ActionPartBody body) = body_others type body
part_others type (ActionPartEmpty place) = others_none

object_part_others : (type : Place) (part : ObjectPartTree) → AreOthers (in_object_part type part)
object_part_others type (ObjectPartField field) = field_others type field
object_part_others type (ObjectPartConstraint constraint) = constraint_others type constraint
object_part_others type (ObjectPartEmpty place) = others_none

pub object_others : (component : Option Place) (object : ObjectTree) → AreOthers (in_object component object)
object_others component (MakeObject word place name left parts right) =
    others_more _ (flat_map (in_object_part name.place) parts) refl (flat_others (in_object_part name.place) (object_part_others name.place) parts)

pub function_others : (component : Option Place) (function : FunctionTree) → AreOthers (in_function component function)
function_others component (MakeFunction import_place target_place word answer name left parameters right semicolon) =
    others_more _ (map (λ p. member name.place sort.Parameter (parameter_name p)) (parameters_of parameters)) refl
    (map_others (λ p. member name.place sort.Parameter (parameter_name p)) (λ p. refl) (parameters_of parameters))

pub members_others : (component : Place) (members : MembersTree) → AreOthers (in_members component (λ of. sort.Instance of) members)
members_others component (MakeMembers of names semicolon) = map_others (member component (sort.Instance of)) (λ n. refl) (names_of names)

-- ---- actions

-- an action in the sources with that name
abbrev HasAction : List DeclaredAction → Declaration → Type 0
HasAction all d = (a : DeclaredAction) × In a all × (a.name ≡ d.name)

never_both : {A : Type 0} (d : Declaration) → is_action d.sort ≡ true → is_action d.sort ≡ false → A
never_both d is no_such = absurd (false≢true (sym no_such ∙ is))

never_other : {A : Type 0} (xs : List Declaration) (d : Declaration) → is_action d.sort ≡ true → AreOthers xs → In d xs → A
never_other xs d is others has = never_both d is (no_action d.sort (others d has))

in_the_enum : (component : Option Place) (enum : EnumTree) (d : Declaration) → In d (in_enum component enum) → is_action d.sort ≡ false
in_the_enum component (MakeEnum word name left first rest right) d (inl e) = ap (λ (x : Declaration). is_action x.sort) (sym e)
in_the_enum component (MakeEnum word name left first rest right) d (inr has) =
    let r = in_map (λ i. member name.place (sort.Item (level_of component)) (item_name i)) (first ∷ map next_item rest) d has in ap (λ (x : Declaration). is_action x.sort) (sym r.2)

in_the_action : (component : Place) (action : ActionTree) (d : Declaration) → is_action d.sort ≡ true → In d (in_action component action) → (action_of action).name ≡ d.name
in_the_action component (MakeAction abstract_place word name base left parts right) d is (inl e) = ap (λ (x : Declaration). x.name) e
in_the_action component (MakeAction abstract_place word name base left parts right) d is (inr has) =
    never_other (flat_map (in_action_part name.place) parts) d is (flat_others (in_action_part name.place) (part_others name.place) parts) has

in_the_part : (component : Place) (part : ComponentPartTree) (d : Declaration) → is_action d.sort ≡ true → In d (in_component_part component part) → HasAction (actions_in_part part) d
in_the_part component (ComponentPartAction action) d is has = (action_of action, inl refl, in_the_action component action d is has)
in_the_part component (ComponentPartObject object) d is has = never_other (in_object (Some component) object) d is (object_others (Some component) object) has
in_the_part component (ComponentPartEnum enum) d is has = never_both d is (in_the_enum (Some component) enum d has)
in_the_part component (ComponentPartFunction function) d is has = never_other (in_function (Some component) function) d is (function_others (Some component) function) has
in_the_part component (ComponentPartPool (MakePool word size object name semicolon)) d is has =
    never_other (member component (sort.Pool object) name ∷ []) d is (others_more (member component (sort.Pool object) name) [] refl others_none) has
in_the_part component (ComponentPartPoolBind bind) d is has = absurd has
in_the_part component (ComponentPartMembers members) d is has = never_other (in_members component (λ of. sort.Instance of) members) d is (members_others component members) has
in_the_part component (ComponentPartEmpty place) d is has = absurd has

in_the_item : (item : ItemTree) (d : Declaration) → is_action d.sort ≡ true → In d (in_item_of_unit item) → HasAction (actions_in_item item) d
in_the_item (ItemComponent (MakeComponent word name left parts right)) d is (inl e) = never_both d is (ap (λ (x : Declaration). is_action x.sort) (sym e))
in_the_item (ItemComponent (MakeComponent word name left parts right)) d is (inr has) =
    let r = in_flat_map (in_component_part name.place) parts d has in
    let a = in_the_part name.place r.0 d is r.2 in
    (a.0, to_flat_map actions_in_part parts r.0 a.0 r.1 a.1, a.2)
in_the_item (ItemObject object) d is has = never_other (in_object None object) d is (object_others None object) has
in_the_item (ItemEnum enum) d is has = never_both d is (in_the_enum None enum d has)
in_the_item (ItemFunction function) d is has = never_other (in_function None function) d is (function_others None function) has
in_the_item (ItemEmpty place) d is has = absurd has

in_the_unit : (unit : UnitTree) (d : Declaration) → In d (in_unit unit) → (item : ItemTree) × In item (items_of unit) × In d (in_item_of_unit item)
in_the_unit (MakeUnit items finish) d has = in_flat_map in_item_of_unit items d has

has_action : (units : List UnitTree) (d : Declaration) → In d (declarations units) → is_action d.sort ≡ true → HasAction (actions units) d
has_action units d there is =
    let u = in_flat_map in_unit units d there in
    let i = in_the_unit u.0 d u.2 in
    let a = in_the_item i.0 d is i.2 in
    (a.0, to_flat_map actions_in_item (flat_map items_of units) i.0 a.0 (to_flat_map items_of units u.0 i.0 u.1 i.1) a.1, a.2)

-- a place is itself
pub same_itself : (p : Place) → same_place p p ≡ true
same_itself p = λ i. eq-eqb p.file p.file refl i && (eq-eqb p.line p.line refl i && eq-eqb p.column p.column refl i)

pub declared_action : (units : List UnitTree) (d : Declaration) → In d (declarations units) → is_action d.sort ≡ true → (a : DeclaredAction) × (action_at units d.name.place ≡ Some a)
unfolding action_at
declared_action units d there is =
    let a = has_action units d there is in
    some_found (λ a. same_place a.name.place d.name.place) (actions units) a.0 a.1 (ap (λ (n : Name). same_place n.place d.name.place) a.2 ∙ same_itself d.name.place)
