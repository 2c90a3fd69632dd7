-- Bases are among the declarations.
use Rattle.std.proofs.Common.{◌≡◌, ◌⊎◌, inl, inr, ⊎_elim, Bool, true, false, ◌&&◌, cond, List, [], ◌∷◌, Option, refl, subst}
use Rattle.std.specs.Prelude.{Some, None, Contains, if◌then◌else◌}
use Rattle.std.specs.List.{find}
use Rattle.std.specs.Option.{option_and_then, option_or}
use Rattle.pst_base.specs.declared.position.Place.{Place}
use Rattle.pst_base.specs.declared.table.NameId.{NameId}
use Rattle.pst_ast.specs.declared.leaf.Name.{Name}
use Rattle.pst_ast.specs.declared.scope_declaration.Declaration.{Declaration}
use Rattle.pst_ast.specs.declared.scope_declaration.Scope.{Scope}
use Rattle.pst_ast.specs.declared.scope_declaration.Scope.TheVariants.{Files, Part}
use Rattle.pst_ast.specs.Lookups.{action_beside, base_in, base_of, component_named, look_up, second_of, type_by, type_here, type_named}
use Rattle.pst_ast.specs.Sorts.{is_action, same_name, same_scope}
use Rattle.pst_enum_rules.proofs.LeastOfEach.{cons_first, cons_rest}
use Rattle.pst_declaration_rules.proofs.Tallying.{none_is_some, some_is}

find_in : (p : Declaration → Bool) (xs : List Declaration) (x : Declaration) → find p xs ≡ Some x → Contains xs x
find_in p [] x e = absurd (none_is_some x e)
find_in p (y ∷ ys) x e = by (find_in p ys x) (p y) e
  where
    by : (find p ys ≡ Some x → Contains ys x) → (b : Bool) → cond b (Some y) (find p ys) ≡ Some x → Contains (y ∷ ys) x
    by rest true is = subst (Contains (y ∷ ys)) (some_is y x is) (cons_first y ys)
    by rest false is = cons_rest y x ys (rest is)

or_cases : (a b : Option Declaration) (x : Declaration) → option_or a b ≡ Some x → (a ≡ Some x) ⊎ (b ≡ Some x)
or_cases None b x e = inr e
or_cases (Some y) b x e = inl e

and_then_is : {X Y : Type 0} (f : X → Option Y) (o : Option X) (y : Y) → option_and_then f o ≡ Some y → (x : X) × (o ≡ Some x) × (f x ≡ Some y)
and_then_is f None y e = absurd (none_is_some y e)
and_then_is f (Some x) y e = (x, refl, e)

module _ (ds : List Declaration) where
  look_up_in : (scope : Scope) (name : NameId) (x : Declaration) → look_up ds scope name ≡ Some x → Contains ds x
  unfolding look_up
  look_up_in scope name x e = find_in (λ d. same_scope d.scope scope && same_name d.name.id name) ds x e

  here_in : (component : Option Place) (name : NameId) (x : Declaration) → type_here ds component name ≡ Some x → Contains ds x
  here_in None name x e = look_up_in Files name x e
  here_in (Some component) name x e = ⊎_elim (look_up_in (Part component) name x) (look_up_in Files name x) (or_cases (look_up ds (Part component) name) (look_up ds Files name) x e)

  by_in : (component : Option Place) (first : Name) (second : Option Name) (x : Declaration) → type_by ds component first second ≡ Some x → Contains ds x
  by_in component first None x e = here_in component first.id x e
  by_in component first (Some second) x e =
      let (c, is, there) = and_then_is (λ (c : Declaration). look_up ds (Part c.name.place) second.id) (component_named ds component first) x e in
      look_up_in (Part c.name.place) second.id x there

  beside_is : (d b x : Declaration) → action_beside d b ≡ Some x → b ≡ x
  beside_is d b x e = by (is_action b.sort && same_scope b.scope d.scope) e
    where
      by : (t : Bool) → (if t then Some b else None) ≡ Some x → b ≡ x
      by true is = some_is b x is
      by false is = absurd (none_is_some x is)

  pub base_there : (d base : Declaration) → base_of ds d ≡ Some base → Contains ds base
  unfolding base_of
  base_there d base e =
      let (b, is, beside) = and_then_is (action_beside d) (option_and_then (type_named ds d.inside) (base_in d.sort)) base e in
      let (name, has, named) = and_then_is (type_named ds d.inside) (base_in d.sort) b is in
      subst (Contains ds) (beside_is d b base beside) (by_in d.inside name.first (second_of name) b named)
