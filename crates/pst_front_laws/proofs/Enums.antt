-- Where the items of enums stand in the sources: each at a place of its own, and with its expression among the uses.
use Rattle.std.proofs.Common.{◌≡◌, ℕ, zero, suc, inl, inr, refl, sym, ap, subst, ◌∙◌, arith, cond, append_assoc}
use Rattle.std.specs.Prelude.{Bool, true, false, List, [], ◌∷◌, ◌++◌, map, slice_get, Option, Some, None}
use Rattle.std.specs.List.{find, flat_map}
use Rattle.std.proofs.lemmas.List.{append-nil}
use Rattle.pst_base.specs.declared.position.Place.{Place}
use Rattle.pst_ast.specs.declared.leaf.Name.{Name}
use Rattle.pst_ast.specs.DeclarationTree.{UnitTree, MakeUnit, ItemTree, ItemComponent, ItemObject, ItemEnum, ItemFunction, ItemEmpty, MakeComponent, ComponentPartTree, ComponentPartAction, ComponentPartObject, ComponentPartEnum, ComponentPartFunction, ComponentPartPool, ComponentPartPoolBind, ComponentPartMembers, ComponentPartEmpty, EnumTree, MakeEnum, EnumItemTree, MakeEnumItem, MakePool, ActionTree, MakeAction}
use Rattle.pst_ast.specs.declared.scope_declaration.Declaration.{Declaration}
use Rattle.pst_ast.specs.declared.scope_declaration.Sort.TheVariants as sort
use Rattle.pst_ast.specs.Declarations.{member, level_of, item_name, next_item, in_action_part, in_action, in_object, in_enum, in_function, in_members, in_component_part, in_item_of_unit, in_unit, declarations}
use Rattle.pst_ast.specs.Sorts.{is_item, same_place}
use Rattle.pst_ast.specs.Uses.{Use, enum_value_uses, enum_uses, component_part_uses, unit_item_uses, unit_uses, uses}
use Rattle.pst_type_rules.specs.Enums.{DeclaredItem, DeclaredEnum, items_behind, enum_of, enums_in_part, enums_in_item, enums_in_unit, enums}
use Rattle.pst_front_laws.specs.ValueLaws.{StandApart}
use Rattle.pst_front_laws.proofs.Elements.{In, in_flat_map, to_flat_map}
use Rattle.pst_front_laws.proofs.Others.{AreOthers, no_item}
use Rattle.pst_front_laws.proofs.Actions.{flat_others, part_others, object_others, function_others, members_others, same_itself}
use Rattle.pst_front_laws.proofs.Settled.{same_places}

-- ---- the places of the items that are declared

abbrev place_if : Bool → Place → List Place → List Place
place_if true p ps = p ∷ ps
place_if false p ps = ps

abbrev item_places : List Declaration → List Place
item_places [] = []
item_places (d ∷ more) = place_if (is_item d.sort) d.name.place (item_places more)

placed_both : (b : Bool) (p : Place) (ps qs rs : List Place) → rs ≡ ps ++ qs → place_if b p rs ≡ place_if b p ps ++ qs
placed_both true p ps qs rs e = ap (λ (xs : List Place). p ∷ xs) e
placed_both false p ps qs rs e = e

both_places : (xs ys : List Declaration) → item_places (xs ++ ys) ≡ item_places xs ++ item_places ys
both_places [] ys = refl
both_places (x ∷ xs) ys = placed_both (is_item x.sort) x.name.place (item_places xs) (item_places ys) (item_places (xs ++ ys)) (both_places xs ys)

others_places : (xs : List Declaration) → AreOthers xs → item_places xs ≡ []
others_places [] others = refl
others_places (x ∷ xs) others =
    ap (λ (b : Bool). place_if b x.name.place (item_places xs)) (no_item x.sort (others x (inl refl))) ∙ others_places xs (λ d there. others d (inr there))

-- ---- the places of the items of enums

abbrev pub item_place : DeclaredItem → Place
item_place i = i.name.place

abbrev pub places : List DeclaredEnum → List Place
places es = map item_place (flat_map (λ e. e.items) es)

pub map_both : {A : Type 0} (f : A → Place) (xs ys : List A) → map f (xs ++ ys) ≡ map f xs ++ map f ys
map_both f [] ys = refl
map_both f (x ∷ xs) ys = ap (λ (ps : List Place). f x ∷ ps) (map_both f xs ys)

both_enums : (xs ys : List DeclaredEnum) → places (xs ++ ys) ≡ places xs ++ places ys
both_enums [] ys = refl
both_enums (e ∷ xs) ys =
    map_both item_place e.items (flat_map (λ e. e.items) (xs ++ ys))
    ∙ (ap (λ (ps : List Place). map item_place e.items ++ ps) (both_enums xs ys)
    ∙ (sym (append_assoc (map item_place e.items) (places xs) (places ys))
    ∙ ap (λ (ps : List Place). ps ++ places ys) (sym (map_both item_place e.items (flat_map (λ e. e.items) xs)))))

one_enum : (e : DeclaredEnum) → places (e ∷ []) ≡ map item_place e.items
one_enum e = ap (map item_place) (append-nil e.items)

trees_places : (component : Option Place) (before : Option Name) (type : Place) (trees : List EnumItemTree)
    → item_places (map (λ i. member type (sort.Item (level_of component)) (item_name i)) trees) ≡ map item_place (items_behind component before trees)
trees_places component before type [] = refl
trees_places component before type (MakeEnumItem name value ∷ more) = ap (λ (ps : List Place). name.place ∷ ps) (trees_places component (Some name) type more)

enum_places : (component : Option Place) (enum : EnumTree) → item_places (in_enum component enum) ≡ places (enum_of component enum ∷ [])
enum_places component (MakeEnum word name left first rest right) =
    trees_places component None name.place (first ∷ map next_item rest) ∙ sym (one_enum (enum_of component (MakeEnum word name left first rest right)))

action_places : (component : Place) (action : ActionTree) → item_places (in_action component action) ≡ []
action_places component (MakeAction abstract_place word name base left parts right) =
    others_places (flat_map (in_action_part name.place) parts) (flat_others (in_action_part name.place) (part_others name.place) parts)

part_places : (component : Place) (part : ComponentPartTree) → item_places (in_component_part component part) ≡ places (enums_in_part component part)
part_places component (ComponentPartAction action) = action_places component action
part_places component (ComponentPartObject object) = others_places (in_object (Some component) object) (object_others (Some component) object)
part_places component (ComponentPartEnum enum) = enum_places (Some component) enum
part_places component (ComponentPartFunction function) = others_places (in_function (Some component) function) (function_others (Some component) function)
part_places component (ComponentPartPool (MakePool word size object name semicolon)) = refl
part_places component (ComponentPartPoolBind bind) = refl
part_places component (ComponentPartMembers members) = others_places (in_members component (λ of. sort.Instance of) members) (members_others component members)
part_places component (ComponentPartEmpty place) = refl

-- what holds of each of several parts holds of all together
flat_places : {A : Type 0} (f : A → List Declaration) (g : A → List DeclaredEnum) → ((x : A) → item_places (f x) ≡ places (g x)) → (xs : List A) → item_places (flat_map f xs) ≡ places (flat_map g xs)
flat_places f g same [] = refl
flat_places f g same (x ∷ xs) =
    both_places (f x) (flat_map f xs) ∙ ((λ i. same x i ++ flat_places f g same xs i) ∙ sym (both_enums (g x) (flat_map g xs)))

unit_item_places : (item : ItemTree) → item_places (in_item_of_unit item) ≡ places (enums_in_item item)
unit_item_places (ItemComponent (MakeComponent word name left parts right)) = flat_places (in_component_part name.place) (enums_in_part name.place) (part_places name.place) parts
unit_item_places (ItemObject object) = others_places (in_object None object) (object_others None object)
unit_item_places (ItemEnum enum) = enum_places None enum
unit_item_places (ItemFunction function) = others_places (in_function None function) (function_others None function)
unit_item_places (ItemEmpty place) = refl

unit_places : (unit : UnitTree) → item_places (in_unit unit) ≡ places (enums_in_unit unit)
unit_places (MakeUnit items finish) = flat_places in_item_of_unit enums_in_item unit_item_places items

all_places : (units : List UnitTree) → item_places (declarations units) ≡ places (enums units)
all_places units = flat_places in_unit enums_in_unit unit_places units

-- ---- each at a place of its own

abbrev pub AreApart : List Place → Type 0
AreApart [] = Unit {0}
AreApart (p ∷ ps) = (In p ps → ⊥) × AreApart ps

placed_at : (ds : List Declaration) (p : Place) → In p (item_places ds) → (k : ℕ) × (d : Declaration) × (slice_get ds k ≡ Some d) × (d.name.place ≡ p)
placed_at [] p there = absurd there
placed_at (d ∷ more) p there = by (is_item d.sort) there (placed_at more p)
  where
    by : (b : Bool) → In p (place_if b d.name.place (item_places more)) → (In p (item_places more) → (k : ℕ) × (e : Declaration) × (slice_get more k ≡ Some e) × (e.name.place ≡ p))
        → (k : ℕ) × (e : Declaration) × (slice_get (d ∷ more) k ≡ Some e) × (e.name.place ≡ p)
    by true (inl e) on = (zero, d, refl, e)
    by true (inr has) on = let r = on has in (suc r.0, r.1, r.2, r.3)
    by false has on = let r = on has in (suc r.0, r.1, r.2, r.3)

declared_apart : (ds : List Declaration) → StandApart ds → AreApart (item_places ds)
declared_apart [] apart = tt
declared_apart (d ∷ more) apart =
    by (is_item d.sort) (declared_apart more (λ j k x y a b same. let e : suc j ≡ suc k = apart (suc j) (suc k) x y a b same in omega (arith, e)))
  where
    by : (b : Bool) → AreApart (item_places more) → AreApart (place_if b d.name.place (item_places more))
    by true rest = (λ there. let r = placed_at more d.name.place there in let e : 0 ≡ suc r.0 = apart 0 (suc r.0) d r.1 refl r.2 (sym r.3) in omega (arith, e), rest)
    by false rest = rest

pub items_apart : (units : List UnitTree) → StandApart (declarations units) → AreApart (places (enums units))
items_apart units apart = subst AreApart (all_places units) (declared_apart (declarations units) apart)

-- of elements at places of their own each is the one that is found
apart_by : {A : Type 0} (place : A → Place) (y : A) (ys : List A) (x : A) → (In (place y) (map place ys) → ⊥) → In x ys → (b : Bool) → same_place (place y) (place x) ≡ b → b ≡ false
apart_by place y ys x apart there false e = refl
apart_by place y ys x apart there true e = absurd (apart (to_place ys there))
  where
    to_place : (zs : List _) → In x zs → In (place y) (map place zs)
    to_place [] has = absurd has
    to_place (z ∷ zs) (inl same) = inl (ap place same ∙ sym (same_places (place y) (place x) e))
    to_place (z ∷ zs) (inr has) = inr (to_place zs has)

pub find_apart : {A : Type 0} (place : A → Place) (xs : List A) → AreApart (map place xs) → (x : A) → In x xs → find (λ (y : A). same_place (place y) (place x)) xs ≡ Some x
find_apart place [] apart x there = absurd there
find_apart place (y ∷ ys) apart x (inl same) =
    ap (λ (b : Bool). cond b (Some y) (find (λ (z : _). same_place (place z) (place x)) ys)) (ap (λ (z : _). same_place (place z) (place x)) same ∙ same_itself (place x)) ∙ ap (λ (z : _). Some z) same
find_apart place (y ∷ ys) apart x (inr there) =
    ap (λ (b : Bool). cond b (Some y) (find (λ (z : _). same_place (place z) (place x)) ys)) (apart_by place y ys x apart.0 there (same_place (place y) (place x)) refl)
    ∙ find_apart place ys apart.1 x there

-- ---- the expressions of items

pub record StandsEnum (units : List UnitTree) (e : DeclaredEnum) : Type 0 where
  pub component : Option Place
  pub trees : List EnumItemTree
  pub items : e.items ≡ items_behind component None trees
  pub used : (t : EnumItemTree) → In t trees → (u : Use) → In u (enum_value_uses component t) → In u (uses units)

module _ (units : List UnitTree) where
  enum_used : (component : Option Place) (enum : EnumTree) → ((u : Use) → In u (enum_uses component enum) → In u (uses units)) → StandsEnum units (enum_of component enum)
  enum_used component (MakeEnum word name left first rest right) used = record {
    component = component;
    trees = first ∷ map next_item rest;
    items = refl;
    used = λ t there u has. used u (to_flat_map (enum_value_uses component) (first ∷ map next_item rest) t u there has);
  }

  in_part : (component : Place) (part : ComponentPartTree) → ((u : Use) → In u (component_part_uses component part) → In u (uses units)) → (e : DeclaredEnum) → In e (enums_in_part component part) → StandsEnum units e
  in_part component (ComponentPartAction action) used e there = absurd there
  in_part component (ComponentPartObject object) used e there = absurd there
  in_part component (ComponentPartEnum enum) used e (inl same) = subst (StandsEnum units) same (enum_used (Some component) enum used)
  in_part component (ComponentPartEnum enum) used e (inr there) = absurd there
  in_part component (ComponentPartFunction function) used e there = absurd there
  in_part component (ComponentPartPool pool) used e there = absurd there
  in_part component (ComponentPartPoolBind bind) used e there = absurd there
  in_part component (ComponentPartMembers members) used e there = absurd there
  in_part component (ComponentPartEmpty place) used e there = absurd there

  in_item : (item : ItemTree) → ((u : Use) → In u (unit_item_uses item) → In u (uses units)) → (e : DeclaredEnum) → In e (enums_in_item item) → StandsEnum units e
  in_item (ItemComponent (MakeComponent word name left parts right)) used e there =
      let r = in_flat_map (enums_in_part name.place) parts e there in
      in_part name.place r.0 (λ u has. used u (to_flat_map (component_part_uses name.place) parts r.0 u r.1 has)) e r.2
  in_item (ItemObject object) used e there = absurd there
  in_item (ItemEnum enum) used e (inl same) = subst (StandsEnum units) same (enum_used None enum used)
  in_item (ItemEnum enum) used e (inr there) = absurd there
  in_item (ItemFunction function) used e there = absurd there
  in_item (ItemEmpty place) used e there = absurd there

  in_the_unit : (unit : UnitTree) → ((u : Use) → In u (unit_uses unit) → In u (uses units)) → (e : DeclaredEnum) → In e (enums_in_unit unit) → StandsEnum units e
  in_the_unit (MakeUnit items finish) used e there =
      let r = in_flat_map enums_in_item items e there in in_item r.0 (λ u has. used u (to_flat_map unit_item_uses items r.0 u r.1 has)) e r.2

  pub enum_stands : (e : DeclaredEnum) → In e (enums units) → StandsEnum units e
  enum_stands e there = let r = in_flat_map enums_in_unit units e there in in_the_unit r.0 (λ u has. to_flat_map unit_uses units r.0 u r.1 has) e r.2
