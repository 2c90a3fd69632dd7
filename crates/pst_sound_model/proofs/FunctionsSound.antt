-- No function has too many parameters.
use Rattle.std.proofs.Common.{◌≡◌, ◌≤◌, inl, inr, refl, sym, ap, subst, arith, ◌∙◌}
use Rattle.std.specs.Prelude.{ℕ, suc, ◌+◌, Bool, true, false, List, [], ◌∷◌, ◌++◌, map, length, All, if◌then◌else◌, Option, Some, None}
use Rattle.std.specs.List.{filter, flat_map}
use Rattle.std.proofs.lemmas.List.{length-append, length-map}
use Rattle.std.proofs.lemmas.List.Elements.{All-map, filter-append}
use Rattle.pst_base.specs.declared.position.Place.{Place}
use Rattle.pst_ast.specs.declared.leaf.Name.{Name}
use Rattle.pst_ast.specs.DeclarationTree.{UnitTree, MakeUnit, ItemTree, ItemComponent, ItemObject, ItemEnum, ItemFunction, ItemEmpty, MakeComponent, ComponentPartTree, ComponentPartAction, ComponentPartObject, ComponentPartEnum, ComponentPartFunction, ComponentPartPool, ComponentPartPoolBind, ComponentPartMembers, ComponentPartEmpty, FunctionTree, MakeFunction, ParameterTree}
use Rattle.pst_model.specs.Limits.{most_parameters}
use Rattle.pst_model.specs.ModelTree.{ModelTree}
use Rattle.pst_model.specs.Sound.{IsSoundFunction}
use Rattle.pst_ast.specs.Breaches.{IsNone}
use Rattle.pst_ast.specs.declared.scope_declaration.Declaration.{Declaration}
use Rattle.pst_ast.specs.declared.scope_declaration.Scope.TheVariants.{Part}
use Rattle.pst_ast.specs.declared.scope_declaration.Sort.TheVariants as sort
use Rattle.pst_ast.specs.Declarations.{member, type_declared, parameter_name, parameters_of, in_function, in_component_part, in_item_of_unit, in_unit, declarations}
use Rattle.pst_ast.specs.Sorts.{same_place, same_scope}
use Rattle.pst_type_rules.specs.Limits.{is_parameter, IsLimited, Parameters}
use Rattle.pst_type_rules.specs.Members.{those_that, own_members}
use Rattle.pst_type_rules.specs.Sites.{DeclaredFunction, function_of, functions_in_part, functions_in_item, items_of, functions}
use Rattle.pst_type_rules.specs.TypeRules.{TypeBreach}
use Rattle.pst_elab_rules.specs.Model.{sources, IsModel}
use Rattle.pst_elab_rules.specs.Types.{parameter_span, model_function}
use Rattle.pst_sound_model.proofs.Members.{In, in_flat_map, to_flat_map}
use Rattle.pst_sound_model.proofs.Owned.{same_itself}
use Rattle.pst_sound_model.proofs.NeedsSound.{all_in}

-- the parameters among some declarations, of the function whose name stands at a place
abbrev counted_at : Place → List Declaration → ℕ
counted_at place xs = length (those_that is_parameter (filter (λ m. same_scope m.scope (Part place)) xs))

both_counted : (place : Place) (xs ys : List Declaration) → counted_at place (xs ++ ys) ≡ counted_at place xs + counted_at place ys
both_counted place xs ys =
    ap (λ (zs : List Declaration). length (those_that is_parameter zs)) (filter-append (λ m. same_scope m.scope (Part place)) xs ys)
    ∙ (ap length (filter-append (λ d. is_parameter d.sort) (filter (λ m. same_scope m.scope (Part place)) xs) (filter (λ m. same_scope m.scope (Part place)) ys))
    ∙ length-append (those_that is_parameter (filter (λ m. same_scope m.scope (Part place)) xs)) (those_that is_parameter (filter (λ m. same_scope m.scope (Part place)) ys)))

counted_flat : {X : Type 0} (place : Place) (f : X → List Declaration) (xs : List X) (x : X) → In x xs → counted_at place (f x) ≤ counted_at place (flat_map f xs)
counted_flat place f [] x there = absurd there
counted_flat place f (y ∷ more) x (inl e) = let b = both_counted place (f y) (flat_map f more) in let same : counted_at place (f y) ≡ counted_at place (f x) = ap (λ z. counted_at place (f z)) e in omega (arith, b, same)
counted_flat place f (y ∷ more) x (inr there) = let b = both_counted place (f y) (flat_map f more) in let on = counted_flat place f more x there in omega (arith, b, on)

parameters_by : (b : Bool) (d : Declaration) (xs : List Declaration) → b ≡ true → length (those_that is_parameter (if b then d ∷ xs else xs)) ≡ length (those_that is_parameter (d ∷ xs))
parameters_by true d xs e = refl
parameters_by false d xs e = ap (λ (b : Bool). length (those_that is_parameter (if b then d ∷ xs else xs))) e

all_parameters : (name : Name) (ps : List ParameterTree) → counted_at name.place (map (λ p. member name.place sort.Parameter (parameter_name p)) ps) ≡ length ps
all_parameters name [] = refl
all_parameters name (p ∷ more) =
    parameters_by (same_place name.place name.place) (member name.place sort.Parameter (parameter_name p)) (filter (λ m. same_scope m.scope (Part name.place)) (map (λ p. member name.place sort.Parameter (parameter_name p)) more))
    (same_itself (member name.place sort.Parameter name)) ∙ ap suc (all_parameters name more)

-- what a function declares, among what the sources declare
pub record IsFunctionAt (units : List UnitTree) (f : DeclaredFunction) : Type 0 where
  pub declaration : Declaration
  pub named : declaration.name ≡ f.name
  pub itself : In declaration (declarations units)
  pub many : length f.parameters ≤ counted_at f.name.place (declarations units)

module _ (units : List UnitTree) where
  function_is : (component : Option Place) (function : FunctionTree) → ((d : Declaration) → In d (in_function component function) → In d (declarations units)) → ((place : Place) → counted_at place (in_function component function) ≤ counted_at place (declarations units))
      → IsFunctionAt units (function_of function)
  function_is component (MakeFunction import_place target_place word answer name left parameters right semicolon) declared many =
      let all = all_parameters name (parameters_of parameters) in
      let b = both_counted name.place (type_declared component sort.Function name ∷ []) (map (λ p. member name.place sort.Parameter (parameter_name p)) (parameters_of parameters)) in
      let less = many name.place in
      record { declaration = type_declared component sort.Function name; named = refl; itself = declared (type_declared component sort.Function name) (inl refl); many = omega (arith, all, b, less) }

  item_counted : (item : ItemTree) → In item (flat_map items_of units) → (place : Place) → counted_at place (in_item_of_unit item) ≤ counted_at place (declarations units)
  item_counted item there place = let r = in_flat_map items_of units item there in by r.0 r.1 r.2
    where
      by : (unit : UnitTree) → In unit units → In item (items_of unit) → counted_at place (in_item_of_unit item) ≤ counted_at place (declarations units)
      by (MakeUnit items finish) at has =
          let one = counted_flat place in_item_of_unit items item has in
          let two = counted_flat place in_unit units (MakeUnit items finish) at in omega (arith, one, two)

  item_declares : (item : ItemTree) → In item (flat_map items_of units) → (d : Declaration) → In d (in_item_of_unit item) → In d (declarations units)
  item_declares item there d has = let r = in_flat_map items_of units item there in to_flat_map in_unit units r.0 d r.1 (by r.0 r.2)
    where
      by : (unit : UnitTree) → In item (items_of unit) → In d (in_unit unit)
      by (MakeUnit items finish) h = to_flat_map in_item_of_unit items item d h has

  function_in_part : (component : Place) (part : ComponentPartTree) → ((d : Declaration) → In d (in_component_part component part) → In d (declarations units)) → ((place : Place) → counted_at place (in_component_part component part) ≤ counted_at place (declarations units))
      → (f : DeclaredFunction) → In f (functions_in_part part) → IsFunctionAt units f
  function_in_part component (ComponentPartAction action) declared many f there = absurd there
  function_in_part component (ComponentPartObject object) declared many f there = absurd there
  function_in_part component (ComponentPartEnum enum) declared many f there = absurd there
  function_in_part component (ComponentPartFunction function) declared many f (inl e) = subst (IsFunctionAt units) e (function_is (Some component) function declared many)
  function_in_part component (ComponentPartFunction function) declared many f (inr there) = absurd there
  function_in_part component (ComponentPartPool pool) declared many f there = absurd there
  function_in_part component (ComponentPartPoolBind bind) declared many f there = absurd there
  function_in_part component (ComponentPartMembers members) declared many f there = absurd there
  function_in_part component (ComponentPartEmpty place) declared many f there = absurd there

  function_in_item : (item : ItemTree) → In item (flat_map items_of units) → (f : DeclaredFunction) → In f (functions_in_item item) → IsFunctionAt units f
  function_in_item (ItemComponent (MakeComponent word name left parts right)) item f there =
      let r = in_flat_map functions_in_part parts f there in
      function_in_part name.place r.0
      (λ d has. item_declares (ItemComponent (MakeComponent word name left parts right)) item d (inr (to_flat_map (in_component_part name.place) parts r.0 d r.1 has)))
      (λ place.
      let one = counted_flat place (in_component_part name.place) parts r.0 r.1 in
      let b = both_counted place (type_declared None sort.Component name ∷ []) (flat_map (in_component_part name.place) parts) in
      let two = item_counted (ItemComponent (MakeComponent word name left parts right)) item place in omega (arith, one, b, two)) f r.2
  function_in_item (ItemObject object) item f there = absurd there
  function_in_item (ItemEnum enum) item f there = absurd there
  function_in_item (ItemFunction function) item f (inl e) = subst (IsFunctionAt units) e (function_is None function (item_declares (ItemFunction function) item) (item_counted (ItemFunction function) item))
  function_in_item (ItemFunction function) item f (inr there) = absurd there
  function_in_item (ItemEmpty place) item f there = absurd there

  pub function_stands : (f : DeclaredFunction) → In f (functions units) → IsFunctionAt units f
  function_stands f there = let r = in_flat_map functions_in_item (flat_map items_of units) f there in function_in_item r.0 r.1 f r.2

pub functions_sound : (few : (units : List UnitTree) (names : List (List ℕ)) → IsNone (TypeBreach units names) → (d : Declaration) → In d (declarations units) → (counted : List Declaration) (most : ℕ) → IsLimited (declarations units) d counted most → length counted ≤ most)
    → (units : List UnitTree) (names : List (List ℕ)) (model : ModelTree) → IsNone (TypeBreach units names) → IsModel units names model → All IsSoundFunction model.functions
functions_sound few units names model kept is =
    subst (λ (m : ModelTree). All IsSoundFunction m.functions) (sym is.is)
    (All-map IsSoundFunction (model_function (sources units names is.constants)) (functions units)
    (all_in (λ f. IsSoundFunction (model_function (sources units names is.constants) f)) (functions units)
    (λ f there.
    let a = function_stands units f there in
    let less = few units names kept a.declaration a.itself (those_that is_parameter (own_members (declarations units) a.declaration)) most_parameters Parameters in
    let same : counted_at a.declaration.name.place (declarations units) ≡ counted_at f.name.place (declarations units) = ap (λ (n : Name). counted_at n.place (declarations units)) a.named in
    omega (arith, less, same, a.many, length-map f.parameters (parameter_span (sources units names is.constants))))))
