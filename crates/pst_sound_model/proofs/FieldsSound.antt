-- Fields have domains.
use Rattle.std.proofs.Common.{◌≡◌, ◌⊎◌, ◌≤◌, inl, inr, refl, sym, ap, subst, arith, ◌∙◌}
use Rattle.std.specs.Prelude.{ℕ, zero, suc, ◌+◌, Bool, true, false, List, [], ◌∷◌, map, All, Option, Some, None, if◌then◌else◌}
use Rattle.std.specs.List.{flat_map}
use Rattle.std.proofs.lemmas.Bool.{false≢true}
use Rattle.std.proofs.lemmas.List.Elements.{All-map, All-cons, All-nil, All-append}
use Rattle.pst_base.specs.declared.position.Place.{Place}
use Rattle.pst_ast.specs.declared.leaf.Name.{Name}
use Rattle.pst_ast.specs.ExpressionTree.{PartTree, MakePart}
use Rattle.pst_ast.specs.SharedTree.{TypeTree}
use Rattle.pst_ast.specs.DeclarationTree.{UnitTree, MakeUnit, ItemTree, ItemComponent, ItemObject, ItemEnum, ItemFunction, ItemEmpty, MakeComponent, ComponentPartTree, ComponentPartAction, ComponentPartObject, ComponentPartEnum, ComponentPartFunction, ComponentPartPool, ComponentPartPoolBind, ComponentPartMembers, ComponentPartEmpty, ObjectTree, MakeObject, ObjectPartTree, ObjectPartField, ObjectPartConstraint, ObjectPartEmpty, EnumTree, MakeEnum, FunctionTree, MakeFunction, MakePool, MembersTree, MakeMembers, ActionTree, MakeAction, ActionPartTree, FieldTree}
use Rattle.pst_expr.specs.declared.ranges.Span.{Span}
use Rattle.pst_expr.specs.Spans.{IsDomain}
use Rattle.pst_model.specs.Limits.{most_elements}
use Rattle.pst_model.specs.ModelTree.{ModelTree}
use Rattle.pst_model.specs.Sound.{IsSoundField}
use Rattle.pst_ast.specs.Breaches.{IsNone}
use Rattle.pst_ast.specs.declared.scope_declaration.Declaration.{Declaration}
use Rattle.pst_ast.specs.declared.scope_declaration.Sort.{Sort}
use Rattle.pst_ast.specs.declared.scope_declaration.Sort.TheVariants as sort
use Rattle.pst_ast.specs.declared.environment.Environment.{Environment}
use Rattle.pst_ast.specs.declared.referent.Owner.TheVariants.{OfAction, OfObject}
use Rattle.pst_ast.specs.Declarations.{member, type_declared, action_declared, level_of, item_name, next_item, parameter_name, parameters_of, names_of, field_part, field_parts, in_action_part, in_object_part, in_action, in_object, in_enum, in_function, in_members, in_component_part, in_item_of_unit, in_unit, declarations}
use Rattle.pst_ast.specs.Sorts.{is_action, is_object, is_field, same_place}
use Rattle.pst_ast.specs.Uses.{environment}
use Rattle.pst_type_rules.specs.Members.{those_that}
use Rattle.pst_type_rules.specs.Sites.{DeclaredField, field_of_part, type_of_field, fields_of as fields_in, fields_in_action_part, fields_in_object_part, fields_in_action, fields_in_object, fields_in_part, fields_in_item, items_of, fields}
use Rattle.pst_type_rules.specs.TypeRules.{TypeBreach}
use Rattle.pst_tree.specs.Bases.{fields_of}
use Rattle.pst_terms.specs.Sources.{Sources}
use Rattle.pst_terms.specs.Fields.{counted, size_of, elements_in}
use Rattle.pst_elab_rules.specs.Spans.{AreDomains, NoDomain, MoreDomains, domain_at}
use Rattle.pst_elab_rules.specs.Model.{sources, IsModel}
use Rattle.pst_elab_rules.specs.Types.{field, elements_of, model_fields, model_action, model_object}
use Rattle.pst_sound_model.proofs.Members.{In, in_map, to_map, in_flat_map, to_flat_map}
use Rattle.pst_sound_model.proofs.Owned.{member_declared, same_itself}
use Rattle.pst_sound_model.proofs.FactsOf.{few_elements}
use Rattle.pst_sound_model.proofs.SoundTypesInside.{is_other, constraint_others}
use Rattle.pst_sound_model.proofs.Typed.{PartDeclares, AField, AReference, AClaim, AHandle, AnOther, part_declares}
use Rattle.pst_sound_model.proofs.NeedsSound.{all_in}

-- ---- the field that is declared

-- a field among some, at the place of a declaration
abbrev IsFieldIn : List DeclaredField → Declaration → Type 0
IsFieldIn fs d = (f : DeclaredField) × In f fs × (f.name ≡ d.name)

other_field : (so : Sort) → is_other so ≡ true → is_field so ≡ true → ⊥
other_field sort.Component o f = false≢true f
other_field (sort.Action base) o f = false≢true f
other_field (sort.Object word) o f = false≢true f
other_field sort.Enumeration o f = false≢true f
other_field sort.Function o f = false≢true f
other_field (sort.Instance of) o f = false≢true f
other_field (sort.Pool of) o f = false≢true f
other_field (sort.Item level) o f = false≢true f
other_field (sort.Field array) o f = false≢true o
other_field (sort.Reference of output) o f = false≢true f
other_field (sort.Claim of) o f = false≢true f
other_field (sort.Handle of) o f = false≢true f
other_field sort.Constraint o f = false≢true f
other_field sort.Parameter o f = false≢true f
other_field sort.Local o f = false≢true f
other_field sort.Index o f = false≢true f

no_field : (d e : Declaration) → e ≡ d → is_field e.sort ≡ false → is_field d.sort ≡ true → ⊥
no_field d e same never is = false≢true (sym never ∙ (ap (λ (x : Declaration). is_field x.sort) same ∙ is))

part_name : (at : Environment) (tree : TypeTree) (type : Place) (p : PartTree) → (field_of_part at tree p).name ≡ (field_part type p).name
part_name at tree type (MakePart name index) = refl

in_fields : (at : Environment) (type : Place) (f : FieldTree) (p : PartTree) (d : Declaration) → In p (field_parts f) → d ≡ field_part type p → IsFieldIn (fields_in at f) d
in_fields at type f p d there e =
    (field_of_part at (type_of_field f) p, to_map (field_of_part at (type_of_field f)) (field_parts f) p there, part_name at (type_of_field f) type p ∙ ap (λ (x : Declaration). x.name) (sym e))

in_action_parts : (at : Environment) (type : Place) (part : ActionPartTree) (d : Declaration) → PartDeclares type d part → is_field d.sort ≡ true → IsFieldIn (fields_in_action_part at part) d
in_action_parts at type _ d (AField f p there e) is = in_fields at type f p d there e
in_action_parts at type _ d (AReference word place object names semicolon name e) is = absurd (no_field d _ (sym e) refl is)
in_action_parts at type _ d (AClaim word place object names semicolon name e) is = absurd (no_field d _ (sym e) refl is)
in_action_parts at type _ d (AHandle of names semicolon name e) is = absurd (no_field d _ (sym e) refl is)
in_action_parts at type part d (AnOther _ other) is = absurd (other_field d.sort other is)

in_object_parts : (at : Environment) (type : Place) (part : ObjectPartTree) (d : Declaration) → In d (in_object_part type part) → is_field d.sort ≡ true → IsFieldIn (fields_in_object_part at part) d
in_object_parts at type (ObjectPartField f) d there is = let r = in_map (field_part type) (field_parts f) d there in in_fields at type f r.0 d r.1 (sym r.2)
in_object_parts at type (ObjectPartConstraint constraint) d there is = absurd (other_field d.sort (constraint_others type constraint d there) is)
in_object_parts at type (ObjectPartEmpty place) d there is = absurd there

field_in_action : (component : Place) (action : ActionTree) (d : Declaration) → In d (in_action component action) → is_field d.sort ≡ true → IsFieldIn (fields_in_action component action) d
field_in_action component (MakeAction abstract_place word name base left parts right) d (inl e) is = absurd (no_field d _ e refl is)
field_in_action component (MakeAction abstract_place word name base left parts right) d (inr has) is =
    let at = environment (Some component) (OfAction (action_declared component base name)) in
    let r = in_flat_map (in_action_part name.place) parts d has in
    let f = in_action_parts at name.place r.0 d (part_declares name.place r.0 d r.2) is in (f.0, to_flat_map (fields_in_action_part at) parts r.0 f.0 r.1 f.1, f.2)

field_in_object : (component : Option Place) (object : ObjectTree) (d : Declaration) → In d (in_object component object) → is_field d.sort ≡ true → IsFieldIn (fields_in_object component object) d
field_in_object component (MakeObject word place name left parts right) d (inl e) is = absurd (no_field d _ e refl is)
field_in_object component (MakeObject word place name left parts right) d (inr has) is =
    let at = environment component (OfObject (type_declared component (sort.Object word) name)) in
    let r = in_flat_map (in_object_part name.place) parts d has in
    let f = in_object_parts at name.place r.0 d r.2 is in (f.0, to_flat_map (fields_in_object_part at) parts r.0 f.0 r.1 f.1, f.2)

no_field_in_enum : (component : Option Place) (enum : EnumTree) (d : Declaration) → In d (in_enum component enum) → is_field d.sort ≡ true → ⊥
no_field_in_enum component (MakeEnum word name left first rest right) d (inl e) is = no_field d _ e refl is
no_field_in_enum component (MakeEnum word name left first rest right) d (inr has) is =
    let r = in_map (λ i. member name.place (sort.Item (level_of component)) (item_name i)) (first ∷ map next_item rest) d has in no_field d _ r.2 refl is

no_field_in_function : (component : Option Place) (function : FunctionTree) (d : Declaration) → In d (in_function component function) → is_field d.sort ≡ true → ⊥
no_field_in_function component (MakeFunction import_place target_place word answer name left parameters right semicolon) d (inl e) is = no_field d _ e refl is
no_field_in_function component (MakeFunction import_place target_place word answer name left parameters right semicolon) d (inr has) is =
    let r = in_map (λ p. member name.place sort.Parameter (parameter_name p)) (parameters_of parameters) d has in no_field d _ r.2 refl is

no_field_in_members : (component : Place) (members : MembersTree) (d : Declaration) → In d (in_members component (λ of. sort.Instance of) members) → is_field d.sort ≡ true → ⊥
no_field_in_members component (MakeMembers of names semicolon) d has is = let r = in_map (member component (sort.Instance of)) (names_of names) d has in no_field d _ r.2 refl is

field_in_part : (component : Place) (part : ComponentPartTree) (d : Declaration) → In d (in_component_part component part) → is_field d.sort ≡ true → IsFieldIn (fields_in_part component part) d
field_in_part component (ComponentPartAction action) d has is = field_in_action component action d has is
field_in_part component (ComponentPartObject object) d has is = field_in_object (Some component) object d has is
field_in_part component (ComponentPartEnum enum) d has is = absurd (no_field_in_enum (Some component) enum d has is)
field_in_part component (ComponentPartFunction function) d has is = absurd (no_field_in_function (Some component) function d has is)
field_in_part component (ComponentPartPool (MakePool word size object name semicolon)) d (inl e) is = absurd (no_field d _ e refl is)
field_in_part component (ComponentPartPool (MakePool word size object name semicolon)) d (inr has) is = absurd has
field_in_part component (ComponentPartPoolBind bind) d has is = absurd has
field_in_part component (ComponentPartMembers members) d has is = absurd (no_field_in_members component members d has is)
field_in_part component (ComponentPartEmpty place) d has is = absurd has

field_in_item : (item : ItemTree) (d : Declaration) → In d (in_item_of_unit item) → is_field d.sort ≡ true → IsFieldIn (fields_in_item item) d
field_in_item (ItemComponent (MakeComponent word name left parts right)) d (inl e) is = absurd (no_field d _ e refl is)
field_in_item (ItemComponent (MakeComponent word name left parts right)) d (inr has) is =
    let r = in_flat_map (in_component_part name.place) parts d has in
    let f = field_in_part name.place r.0 d r.2 is in (f.0, to_flat_map (fields_in_part name.place) parts r.0 f.0 r.1 f.1, f.2)
field_in_item (ItemObject object) d has is = field_in_object None object d has is
field_in_item (ItemEnum enum) d has is = absurd (no_field_in_enum None enum d has is)
field_in_item (ItemFunction function) d has is = absurd (no_field_in_function None function d has is)
field_in_item (ItemEmpty place) d has is = absurd has

pub field_declared : (units : List UnitTree) (d : Declaration) → In d (declarations units) → is_field d.sort ≡ true → IsFieldIn (fields units) d
field_declared units d there is = let r = in_flat_map in_unit units d there in by r.0 r.1 r.2
  where
    by : (unit : UnitTree) → In unit units → In d (in_unit unit) → IsFieldIn (fields units) d
    by (MakeUnit items finish) at has =
        let r = in_flat_map in_item_of_unit items d has in
        let f = field_in_item r.0 d r.2 is in (f.0, to_flat_map fields_in_item (flat_map items_of units) r.0 f.0 (to_flat_map items_of units (MakeUnit items finish) r.0 at r.1) f.1, f.2)

-- ---- domains

domain_by : (b : Bool) (domain other : List Span) → (b ≡ true → IsDomain domain) → (b ≡ false → IsDomain other) → IsDomain (if b then domain else other)
domain_by true domain other one two = one refl
domain_by false domain other one two = two refl

domain_found : (units : List UnitTree) (names : List (List ℕ)) (fs : List DeclaredField) (domains : List (List Span)) → AreDomains units names fs domains → (f : DeclaredField) (place : Place) → In f fs → same_place f.name.place place ≡ true → IsDomain (domain_at fs domains place)
domain_found units names _ _ NoDomain f place there same = absurd there
domain_found units names _ _ (MoreDomains g gs domain domains is rest) f place there same =
    domain_by (same_place g.name.place place) domain (domain_at gs domains place) (λ e. is.domain) (λ e. domain_found units names gs domains rest f place (further there e) same)
  where
    further : (g ≡ f) ⊎ In f gs → same_place g.name.place place ≡ false → In f gs
    further (inl at) e = absurd (false≢true (sym e ∙ (ap (λ (x : DeclaredField). same_place x.name.place place) at ∙ same)))
    further (inr there) e = there

-- ---- in the model

elements_sound : (name : Name) (domain : List Span) → IsDomain domain → (first n : ℕ) → first + n ≤ most_elements → All IsSoundField (map (λ i. field name domain (Some i)) (counted first n))
elements_sound name domain is first zero less = All-nil IsSoundField
elements_sound name domain is first (suc n) less =
    All-cons IsSoundField (field name domain (Some first)) (map (λ i. field name domain (Some i)) (counted (first + 1) n)) (record { domain = is; element = omega (arith, less) }) (elements_sound name domain is (first + 1) n (omega (arith, less)))

field_sound : (name : Name) (domain : List Span) (size : Option ℕ) → IsDomain domain → elements_in size ≤ most_elements → All IsSoundField (elements_of name domain size)
field_sound name domain None is few = All-cons IsSoundField (field name domain None) [] (record { domain = is; element = tt }) (All-nil IsSoundField)
field_sound name domain (Some n) is few = elements_sound name domain is 0 n (omega (arith, few))

all_flat : {X Y : Type 0} (P : Y → Type 0) (f : X → List Y) (xs : List X) → ((x : X) → In x xs → All P (f x)) → All P (flat_map f xs)
all_flat P f [] h = All-nil P
all_flat P f (x ∷ more) h = All-append P (f x) (flat_map f more) (h x (inl refl)) (all_flat P f more (λ y there. h y (inr there)))

module _ (units : List UnitTree) (names : List (List ℕ)) (model : ModelTree) (kept : IsNone (TypeBreach units names)) (is : IsModel units names model) where
  abbrev s : Sources
  s = sources units names is.constants

  type_sound : (type : Declaration) → All IsSoundField (model_fields s is.domains type)
  type_sound type = all_flat IsSoundField (λ d. elements_of d.name (domain_at (fields units) is.domains d.name.place) (size_of s d)) (fields_of (declarations units) type)
      (λ d there.
      let m = member_declared is_field (declarations units) type d there in
      let f = field_declared units d m.0 m.1 in
      let few = few_elements units names is.constants is.are_constants kept d in
      field_sound d.name (domain_at (fields units) is.domains d.name.place) (size_of s d)
      (domain_found units names (fields units) is.domains is.are_domains f.0 d.name.place f.1 (ap (λ (n : Name). same_place n.place d.name.place) f.2 ∙ same_itself d)) few.1)

  pub fields_sound : All (λ action. All IsSoundField action.fields) model.actions × All (λ object. All IsSoundField object.fields) model.objects
  fields_sound =
      subst (λ (m : ModelTree). All (λ action. All IsSoundField action.fields) m.actions × All (λ object. All IsSoundField object.fields) m.objects) (sym is.is) (
        All-map (λ action. All IsSoundField action.fields) (model_action s is.domains) (those_that is_action (declarations units)) (all_in (λ d. All IsSoundField (model_fields s is.domains d)) (those_that is_action (declarations units)) (λ d there. type_sound d)),
        All-map (λ object. All IsSoundField object.fields) (model_object s is.domains) (those_that is_object (declarations units)) (all_in (λ d. All IsSoundField (model_fields s is.domains d)) (those_that is_object (declarations units)) (λ d there. type_sound d)),
      )
