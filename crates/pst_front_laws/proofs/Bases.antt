-- The base of an action is among the declarations.
use Rattle.std.proofs.Common.{◌≡◌, refl, subst}
use Rattle.std.specs.Prelude.{Bool, true, false, ◌&&◌, List, Option, Some, None, if◌then◌else◌}
use Rattle.std.specs.Option.{option_or, option_and_then}
use Rattle.std.proofs.lemmas.Option.{none-some, same_Some}
use Rattle.pst_base.specs.declared.position.Place.{Place}
use Rattle.pst_base.specs.declared.table.NameId.{NameId}
use Rattle.pst_ast.specs.declared.leaf.Name.{Name}
use Rattle.pst_ast.specs.declared.shared.TypeName.{TypeName}
use Rattle.pst_ast.specs.declared.scope_declaration.Declaration.{Declaration}
use Rattle.pst_ast.specs.declared.scope_declaration.Scope.{Scope}
use Rattle.pst_ast.specs.declared.scope_declaration.Scope.TheVariants.{Files, Part}
use Rattle.pst_ast.specs.declared.scope_declaration.Sort.{Sort}
use Rattle.pst_ast.specs.declared.scope_declaration.Sort.TheVariants as sort
use Rattle.pst_ast.specs.Sorts.{is_action, same_scope, same_name}
use Rattle.pst_ast.specs.Lookups.{look_up, type_here, type_by, component_named, type_named, second_of, base_in, action_beside, base_of}
use Rattle.pst_front_laws.proofs.Elements.{IsThere, found_there}

and_then_gave : {A B : Type 0} (f : A → Option B) (o : Option A) (y : B) → option_and_then f o ≡ Some y → (x : A) × (o ≡ Some x) × (f x ≡ Some y)
and_then_gave f None y e = absurd (none-some y e)
and_then_gave f (Some x) y e = (x, refl, e)

module _ (ds : List Declaration) (b : Declaration) where
  or_there : (o p : Option Declaration) → (o ≡ Some b → IsThere ds b) → (p ≡ Some b → IsThere ds b) → option_or o p ≡ Some b → IsThere ds b
  or_there None p f g e = g e
  or_there (Some x) p f g e = f e

  look_there : (scope : Scope) (name : NameId) → look_up ds scope name ≡ Some b → IsThere ds b
  unfolding look_up
  look_there scope name e = (found_there (λ d. same_scope d.scope scope && same_name d.name.id name) ds b e).0

  here_there : (component : Option Place) (name : NameId) → type_here ds component name ≡ Some b → IsThere ds b
  here_there None name e = look_there Files name e
  here_there (Some c) name e = or_there (look_up ds (Part c) name) (look_up ds Files name) (look_there (Part c) name) (look_there Files name) e

  named_there : (component : Option Place) (first : Name) (second : Option Name) → type_by ds component first second ≡ Some b → IsThere ds b
  named_there component first None e = here_there component first.id e
  named_there component first (Some second) e =
      let c = and_then_gave (λ c. look_up ds (Part c.name.place) second.id) (component_named ds component first) b e in look_there (Part c.0.name.place) second.id c.2

beside_by : (t : Bool) (x b : Declaration) → (if t then Some x else None) ≡ Some b → x ≡ b
beside_by true x b e = same_Some x b e
beside_by false x b e = absurd (none-some b e)

pub base_there : (ds : List Declaration) (d b : Declaration) → base_of ds d ≡ Some b → IsThere ds b
unfolding base_of
base_there ds d b e =
    let x = and_then_gave (action_beside d) (option_and_then (type_named ds d.inside) (base_in d.sort)) b e in
    let name = and_then_gave (type_named ds d.inside) (base_in d.sort) x.0 x.1 in
    let same : x.0 ≡ b = beside_by (is_action x.0.sort && same_scope x.0.scope d.scope) x.0 b x.2 in
    subst (λ (c : Declaration). IsThere ds c) same (named_there ds x.0 d.inside name.0.first (second_of name.0) name.2)

action_by : (s : Sort) (name : TypeName) → base_in s ≡ Some name → is_action s ≡ true
action_by sort.Component name e = absurd (none-some name e)
action_by (sort.Action base) name e = refl
action_by (sort.Object word) name e = absurd (none-some name e)
action_by sort.Enumeration name e = absurd (none-some name e)
action_by sort.Function name e = absurd (none-some name e)
action_by (sort.Instance of) name e = absurd (none-some name e)
action_by (sort.Pool of) name e = absurd (none-some name e)
action_by (sort.Item level) name e = absurd (none-some name e)
action_by (sort.Field array) name e = absurd (none-some name e)
action_by (sort.Reference of output) name e = absurd (none-some name e)
action_by (sort.Claim of) name e = absurd (none-some name e)
action_by (sort.Handle of) name e = absurd (none-some name e)
action_by sort.Constraint name e = absurd (none-some name e)
action_by sort.Parameter name e = absurd (none-some name e)
action_by sort.Local name e = absurd (none-some name e)
action_by sort.Index name e = absurd (none-some name e)

-- what has a base is an action
pub derived_action : (ds : List Declaration) (d b : Declaration) → base_of ds d ≡ Some b → is_action d.sort ≡ true
unfolding base_of
derived_action ds d b e =
    let x = and_then_gave (action_beside d) (option_and_then (type_named ds d.inside) (base_in d.sort)) b e in
    let name = and_then_gave (type_named ds d.inside) (base_in d.sort) x.0 x.1 in action_by d.sort name.0 name.1
