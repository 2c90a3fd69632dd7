-- The functions that are called, by their numbers.
use Rattle.std.proofs.Common.{◌≡◌, ◌⊎◌, inl, inr, refl, sym, ap, subst, arith, ◌∙◌}
use Rattle.std.specs.Prelude.{ℕ, suc, ◌+◌, Bool, true, false, not, List, [], ◌∷◌, ◌++◌, map, length, slice_get, Option, Some, None, cond}
use Rattle.std.specs.List.{find, flat_map, Contains}
use Rattle.std.specs.Option.{option_or}
use Rattle.std.proofs.lemmas.Bool.{false≢true, cases_eq}
use Rattle.std.proofs.lemmas.Grind.{flat_map-append}
use Rattle.std.proofs.lemmas.List.{map-append}
use Rattle.std.proofs.lemmas.List.Elements.{filter-append}
use Rattle.std.proofs.lemmas.Option.{none-some}
use Rattle.pst_base.specs.declared.position.Place.{Place}
use Rattle.pst_ast.specs.declared.leaf.Name.{Name}
use Rattle.pst_ast.specs.ExpressionTree.{PartTree, MakePart}
use Rattle.pst_ast.specs.DeclarationTree.{UnitTree, MakeUnit, ItemTree, ItemComponent, ItemObject, ItemEnum, ItemFunction, ItemEmpty, MakeComponent, ComponentPartTree, ComponentPartAction, ComponentPartObject, ComponentPartEnum, ComponentPartFunction, ComponentPartPool, ComponentPartPoolBind, ComponentPartMembers, ComponentPartEmpty, MakeAction, ActionPartTree, ActionPartField, ActionPartReference, ActionPartClaim, ActionPartMembers, ActionPartConstraint, ActionPartActivity, ActionPartBody, ActionPartEmpty, ObjectTree, MakeObject, ObjectPartTree, ObjectPartField, ObjectPartConstraint, ObjectPartEmpty, EnumTree, MakeEnum, MakeFunction, MakePool, MakeMembers, MakeReference, MakeClaim, AnswerVoid}
use Rattle.pst_ast.specs.Breaches.{IsNone}
use Rattle.pst_ast.specs.declared.scope_declaration.Declaration.{Declaration}
use Rattle.pst_ast.specs.declared.scope_declaration.Scope.TheVariants.{Files, Part}
use Rattle.pst_ast.specs.declared.scope_declaration.Sort.TheVariants as sort
use Rattle.pst_ast.specs.Declarations.{member, level_of, item_name, next_item, parameter_name, parameters_of, names_of, field_part, field_parts, is_output, in_action_part, in_object_part, in_object, in_enum, in_component_part, in_item_of_unit, in_unit, declarations}
use Rattle.pst_ast.specs.NameRules.{NameBreach, is_so, unless}
use Rattle.pst_ast.specs.Sorts.{is_function, same_place}
use Rattle.pst_ast.specs.Lookups.{look_up, type_here}
use Rattle.pst_ast.specs.Uses.{Calls, Passes, uses}
use Rattle.pst_type_rules.specs.Members.{those_that}
use Rattle.pst_type_rules.specs.Sites.{DeclaredFunction, functions_in_part, functions_in_item, items_of, functions, function_at}
use Rattle.pst_type_rules.specs.TypeRules.{TypeBreach, OfUse, WrongArguments, NoAnswer}
use Rattle.pst_tree.specs.Bases.{number_in, function_number}
use Rattle.pst_sound_model.proofs.Members.{In, in_flat_map, in_map, to_map, to_filter, to_contains}
use Rattle.pst_sound_model.proofs.Owned.{looked_up, same_itself}
use Rattle.pst_sound_model.proofs.Typed.{some_found, nothing_found}
use Rattle.pst_sound_model.proofs.NoFunctions.{AreNone, constraint_none, activity_none, body_none}

abbrev names_in : List Declaration → List Name
names_in xs = map (λ (d : Declaration). d.name) (those_that is_function xs)

abbrev named : List DeclaredFunction → List Name
named fs = map (λ (f : DeclaredFunction). f.name) fs

-- ---- what declares no function

none_those : (xs : List Declaration) → AreNone xs → those_that is_function xs ≡ []
none_those [] none = refl
none_those (x ∷ xs) none = ap (λ (b : Bool). cond b (x ∷ those_that is_function xs) (those_that is_function xs)) (none x (inl refl)) ∙ none_those xs (λ d there. none d (inr there))

none_named : (xs : List Declaration) → AreNone xs → names_in xs ≡ []
none_named xs none = ap (map (λ (d : Declaration). d.name)) (none_those xs none)

none_map : {X : Type 0} (f : X → Declaration) → ((x : X) → is_function (f x).sort ≡ false) → (xs : List X) → AreNone (map f xs)
none_map f none xs d there = let r = in_map f xs d there in subst (λ (y : Declaration). is_function y.sort ≡ false) r.2 (none r.0)

none_flat : {X : Type 0} (f : X → List Declaration) → ((x : X) → AreNone (f x)) → (xs : List X) → AreNone (flat_map f xs)
none_flat f none xs d there = let r = in_flat_map f xs d there in none r.0 d r.2

no_field : (type : Place) (part : PartTree) → is_function (field_part type part).sort ≡ false
no_field type (MakePart name index) = refl

action_part_none : (type : Place) (part : ActionPartTree) → AreNone (in_action_part type part)
action_part_none type (ActionPartField field) = none_map (field_part type) (no_field type) (field_parts field)
action_part_none type (ActionPartReference (MakeReference word place object names semicolon)) = none_map (member type (sort.Reference object (is_output word))) (λ x. refl) (names_of names)
action_part_none type (ActionPartClaim (MakeClaim word place object names semicolon)) = none_map (member type (sort.Claim object)) (λ x. refl) (names_of names)
action_part_none type (ActionPartMembers (MakeMembers of names semicolon)) = none_map (member type (sort.Handle of)) (λ x. refl) (names_of names)
action_part_none type (ActionPartConstraint constraint) = constraint_none type constraint
action_part_none type (ActionPartActivity activity) = activity_none type activity
action_part_none type (ActionPartBody body) = body_none type body
action_part_none type (ActionPartEmpty place) = λ d there. absurd there

object_part_none : (type : Place) (part : ObjectPartTree) → AreNone (in_object_part type part)
object_part_none type (ObjectPartField field) = none_map (field_part type) (no_field type) (field_parts field)
object_part_none type (ObjectPartConstraint constraint) = constraint_none type constraint
object_part_none type (ObjectPartEmpty place) = λ d there. absurd there

-- ---- the functions that are declared are those of the sources, in the same order

object_names : (component : Option Place) (object : ObjectTree) → names_in (in_object component object) ≡ []
object_names component (MakeObject word place name left parts right) = none_named (flat_map (in_object_part name.place) parts) (none_flat (in_object_part name.place) (object_part_none name.place) parts)

enum_names : (component : Option Place) (enum : EnumTree) → names_in (in_enum component enum) ≡ []
enum_names component (MakeEnum word name left first rest right) =
    none_named (map (λ i. member name.place (sort.Item (level_of component)) (item_name i)) (first ∷ map next_item rest)) (none_map (λ i. member name.place (sort.Item (level_of component)) (item_name i)) (λ x. refl) (first ∷ map next_item rest))

part_names : (component : Place) (part : ComponentPartTree) → names_in (in_component_part component part) ≡ named (functions_in_part part)
part_names component (ComponentPartAction (MakeAction abstract_place word name base left parts right)) = none_named (flat_map (in_action_part name.place) parts) (none_flat (in_action_part name.place) (action_part_none name.place) parts)
part_names component (ComponentPartObject object) = object_names (Some component) object
part_names component (ComponentPartEnum enum) = enum_names (Some component) enum
part_names component (ComponentPartFunction (MakeFunction import_place target_place word answer name left parameters right semicolon)) =
    ap (λ (ns : List Name). name ∷ ns)
    (none_named (map (λ p. member name.place sort.Parameter (parameter_name p)) (parameters_of parameters)) (none_map (λ p. member name.place sort.Parameter (parameter_name p)) (λ x. refl) (parameters_of parameters)))
part_names component (ComponentPartPool (MakePool word size object name semicolon)) = refl
part_names component (ComponentPartPoolBind bind) = refl
part_names component (ComponentPartMembers (MakeMembers of names semicolon)) = none_named (map (member component (sort.Instance of)) (names_of names)) (none_map (member component (sort.Instance of)) (λ x. refl) (names_of names))
part_names component (ComponentPartEmpty place) = refl

names_both : (xs ys : List Declaration) → names_in (xs ++ ys) ≡ names_in xs ++ names_in ys
names_both xs ys =
    ap (map (λ (d : Declaration). d.name)) (filter-append (λ (d : Declaration). is_function d.sort) xs ys) ∙ map-append (λ (d : Declaration). d.name) (those_that is_function xs) (those_that is_function ys)

named_both : (fs gs : List DeclaredFunction) → named (fs ++ gs) ≡ named fs ++ named gs
named_both fs gs = map-append (λ (f : DeclaredFunction). f.name) fs gs

names_flat : {X : Type 0} (f : X → List Declaration) (g : X → List DeclaredFunction) → ((x : X) → names_in (f x) ≡ named (g x)) → (xs : List X) → names_in (flat_map f xs) ≡ named (flat_map g xs)
names_flat f g same [] = refl
names_flat f g same (x ∷ xs) =
    let one = same x in
    let two = names_flat f g same xs in
    names_both (f x) (flat_map f xs) ∙ ((λ i. one i ++ two i) ∙ sym (named_both (g x) (flat_map g xs)))

item_names : (item : ItemTree) → names_in (in_item_of_unit item) ≡ named (functions_in_item item)
item_names (ItemComponent (MakeComponent word name left parts right)) = names_flat (in_component_part name.place) functions_in_part (part_names name.place) parts
item_names (ItemObject object) = object_names None object
item_names (ItemEnum enum) = enum_names None enum
item_names (ItemFunction (MakeFunction import_place target_place word answer name left parameters right semicolon)) =
    ap (λ (ns : List Name). name ∷ ns)
    (none_named (map (λ p. member name.place sort.Parameter (parameter_name p)) (parameters_of parameters)) (none_map (λ p. member name.place sort.Parameter (parameter_name p)) (λ x. refl) (parameters_of parameters)))
item_names (ItemEmpty place) = refl

pub function_names : (units : List UnitTree) → names_in (declarations units) ≡ named (functions units)
function_names [] = refl
function_names (MakeUnit items finish ∷ more) =
    let one = names_flat in_item_of_unit functions_in_item item_names items in
    let two = function_names more in
    names_both (flat_map in_item_of_unit items) (flat_map in_unit more)
    ∙ ((λ i. one i ++ two i)
    ∙ (sym (named_both (flat_map functions_in_item items) (flat_map functions_in_item (flat_map items_of more))) ∙ ap named (sym (flat_map-append functions_in_item items (flat_map items_of more)))))

-- ---- functions by number

by_place : (b : Bool) (place : Place) (f : DeclaredFunction) (fs : List DeclaredFunction) (n : ℕ) → same_place f.name.place place ≡ b → slice_get fs n ≡ find (λ (g : DeclaredFunction). same_place g.name.place place) fs
    → slice_get (f ∷ fs) (cond (not b) (1 + n) 0) ≡ find (λ (g : DeclaredFunction). same_place g.name.place place) (f ∷ fs)
by_place true place f fs n e on = sym (ap (λ (b : Bool). cond b (Some f) (find (λ (g : DeclaredFunction). same_place g.name.place place) fs)) e)
by_place false place f fs n e on =
    let next : suc n ≡ 1 + n = omega arith in
    subst (λ (k : ℕ). slice_get (f ∷ fs) k ≡ find (λ (g : DeclaredFunction). same_place g.name.place place) (f ∷ fs)) next
    (on ∙ sym (ap (λ (b : Bool). cond b (Some f) (find (λ (g : DeclaredFunction). same_place g.name.place place) fs)) e))

found_by_number : (xs : List Declaration) (fs : List DeclaredFunction) → map (λ (d : Declaration). d.name) xs ≡ named fs → (d : Declaration) → slice_get fs (number_in xs d) ≡ find (λ (f : DeclaredFunction). same_place f.name.place d.name.place) fs
found_by_number [] [] e d = refl
found_by_number [] (f ∷ fs) e d = absurd (cc)
found_by_number (x ∷ xs) [] e d = absurd (cc)
found_by_number (x ∷ xs) (f ∷ fs) e d =
    let head : x.name ≡ f.name = cc in
    let tail : map (λ (d : Declaration). d.name) xs ≡ named fs = cc in
    by_place (same_place x.name.place d.name.place) d.name.place f fs (number_in xs d) (ap (λ (n : Name). same_place n.place d.name.place) (sym head)) (found_by_number xs fs tail d)

module _ (units : List UnitTree) where
  numbered_at : (d : Declaration) → slice_get (functions units) (function_number (declarations units) d) ≡ function_at units d.name.place
  unfolding function_at
  numbered_at d = found_by_number (those_that is_function (declarations units)) (functions units) (function_names units) d

  at_its_place : (d : Declaration) → In d (declarations units) → is_function d.sort ≡ true → (f : DeclaredFunction) × (function_at units d.name.place ≡ Some f)
  unfolding function_at
  at_its_place d there is =
      let n = subst (In d.name) (function_names units) (to_map (λ (x : Declaration). x.name) (those_that is_function (declarations units)) d (to_filter (λ (x : Declaration). is_function x.sort) (declarations units) d there is)) in
      let g = in_map (λ (f : DeclaredFunction). f.name) (functions units) d.name n in
      some_found (λ (f : DeclaredFunction). same_place f.name.place d.name.place) (functions units) g.0 g.1 (ap (λ (n : Name). same_place n.place d.name.place) g.2 ∙ same_itself d)

  -- ---- calls by the rules

  -- the function of a call
  pub record IsCalled (component : Option Place) (name : Name) (arguments : ℕ) (needed : Bool) : Type 0 where
    pub declaration : Declaration
    pub here : type_here (declarations units) component name.id ≡ Some declaration
    pub function : DeclaredFunction
    pub number : slice_get (functions units) (function_number (declarations units) declaration) ≡ Some function
    pub arguments_are : arguments ≡ length function.parameters
    pub answers : needed ≡ true → (void : Place) → function.answer ≡ AnswerVoid void → ⊥

  module _ (names : List (List ℕ)) (right : IsNone (NameBreach units names)) (kept : IsNone (TypeBreach units names)) where
    good_by : (good : Bool) (place : Place) (rule : ℕ) → unless good place rule ≡ None → good ≡ true
    good_by true place rule e = refl
    good_by false place rule e = absurd (none-some (record { place = place; rule = rule }) (sym e))

    so_by : (o : Option Declaration) → is_so is_function o ≡ true → (d : Declaration) × (o ≡ Some d) × (is_function d.sort ≡ true)
    so_by None e = absurd (false≢true e)
    so_by (Some d) e = (d, refl, e)

    declared_here : (component : Option Place) (name : Name) (d : Declaration) → type_here (declarations units) component name.id ≡ Some d → In d (declarations units)
    declared_here None name d e = (looked_up (declarations units) Files name.id d e).0
    declared_here (Some c) name d e = by (look_up (declarations units) (Part c) name.id) refl e
      where
        by : (o : Option Declaration) → look_up (declarations units) (Part c) name.id ≡ o → option_or o (look_up (declarations units) Files name.id) ≡ Some d → In d (declarations units)
        by (Some x) had e = (looked_up (declarations units) (Part c) name.id d (had ∙ e)).0
        by None had e = (looked_up (declarations units) Files name.id d e).0

    pub called : (component : Option Place) (name : Name) (arguments : ℕ) (needed : Bool) → In (Calls component name) (uses units) → In (Passes component name arguments needed) (uses units) → IsCalled component name arguments needed
    called component name arguments needed calls passes =
        let so = so_by (type_here (declarations units) component name.id) (good_by (is_so is_function (type_here (declarations units) component name.id)) name.place 3 (nothing_found units names right (Calls component name) calls)) in
        let at = at_its_place so.0 (declared_here component name so.0 so.1) so.2 in
        let among = to_contains (uses units) (Passes component name arguments needed) passes in
        record {
          declaration = so.0;
          here = so.1;
          function = at.0;
          number = numbered_at so.0 ∙ at.1;
          arguments_are = as_many so.0 at.0 so.1 at.1 among (cases_eq arguments (length at.0.parameters));
          answers = λ is void e.
              kept name.place 21
              (OfUse (Passes component name arguments true) name.place 21 (subst (λ (b : Bool). Contains (uses units) (Passes component name arguments b)) is among) (NoAnswer component name arguments so.0 at.0 void so.1 at.1 e));
        }
      where
        as_many : (d : Declaration) (f : DeclaredFunction) → type_here (declarations units) component name.id ≡ Some d → function_at units d.name.place ≡ Some f → Contains (uses units) (Passes component name arguments needed)
            → (arguments ≡ length f.parameters) ⊎ (arguments ≡ length f.parameters → ⊥) → arguments ≡ length f.parameters
        as_many d f here at among (inl e) = e
        as_many d f here at among (inr other) = absurd (kept name.place 21 (OfUse (Passes component name arguments needed) name.place 21 among (WrongArguments component name arguments needed d f here at other)))
