-- The base of a type is among the declarations.
use Rattle.std.proofs.Common.{◌≡◌, refl, subst, ap, ◌∙◌}
use Rattle.std.specs.Prelude.{ℕ, zero, suc, Bool, true, false, ◌&&◌, List, [], ◌∷◌, slice_get, Option, Some, None, if◌then◌else◌}
use Rattle.std.specs.List.{find, Contains}
use Rattle.std.specs.Option.{option_or, option_and_then, unwrap_or}
use Rattle.std.proofs.lemmas.Option.{slice_get-get_or}
use Rattle.pst_base.specs.declared.position.Place.{Place}
use Rattle.pst_base.specs.declared.table.NameId.{NameId}
use Rattle.pst_ast.specs.declared.leaf.Name.{Name}
use Rattle.pst_ast.specs.declared.scope_declaration.Declaration.{Declaration}
use Rattle.pst_ast.specs.declared.scope_declaration.Scope.{Scope}
use Rattle.pst_ast.specs.declared.scope_declaration.Scope.TheVariants.{Files, Part}
use Rattle.pst_ast.specs.Sorts.{is_action, same_scope, same_name}
use Rattle.pst_ast.specs.Lookups.{look_up, type_here, type_by, component_named, type_named, second_of, base_in, action_beside, base_of}

pub some_is : {A : Type 0} (x y : A) → Some x ≡ Some y → x ≡ y
some_is x y e = ap (λ o. unwrap_or o x) e

abbrev IsMissing : {A : Type 0} → Option A → Type 0
IsMissing None = Unit {0}
IsMissing (Some x) = ⊥

pub is_missing : {A : Type 0} (x : A) → None ≡ Some x → ⊥
is_missing x e = subst IsMissing e tt

-- a declaration stands at a number
abbrev pub IsThere : List Declaration → Declaration → Type 0
IsThere ds d = (k : ℕ) × (slice_get ds k ≡ Some d)

pub is_there : (ds : List Declaration) (d : Declaration) → Contains ds d → IsThere ds d
is_there ds d c = (c.0, slice_get-get_or ds c.0 d c.1 ∙ ap (λ (e : Declaration). Some e) c.2)

find_by : (d b : Declaration) (more : List Declaration) (test : Declaration → Bool) (t : Bool) → test d ≡ t → (find test more ≡ Some b → IsThere more b) → (if t then Some d else find test more) ≡ Some b
    → IsThere (d ∷ more) b
find_by d b more test true is on e = (zero, e)
find_by d b more test false is on e = let k = on e in (suc k.0, k.1)

and_then_gave : {A B : Type 0} (f : A → Option B) (o : Option A) (y : B) → option_and_then f o ≡ Some y → (x : A) × (o ≡ Some x) × (f x ≡ Some y)
and_then_gave f None y e = absurd (is_missing y e)
and_then_gave f (Some x) y e = (x, refl, e)

module _ (ds : List Declaration) (b : Declaration) where
  or_there : (o p : Option Declaration) → (o ≡ Some b → IsThere ds b) → (p ≡ Some b → IsThere ds b) → option_or o p ≡ Some b → IsThere ds b
  or_there None p f g e = g e
  or_there (Some x) p f g e = f e

  look_there : (find_there : (test : Declaration → Bool) → find test ds ≡ Some b → IsThere ds b) (scope : Scope) (name : NameId) → look_up ds scope name ≡ Some b → IsThere ds b
  unfolding look_up
  look_there find_there scope name e = find_there (λ d. same_scope d.scope scope && same_name d.name.id name) e

  here_there : ((scope : Scope) (name : NameId) → look_up ds scope name ≡ Some b → IsThere ds b) → (component : Option Place) (name : NameId) → type_here ds component name ≡ Some b → IsThere ds b
  here_there look None name e = look Files name e
  here_there look (Some c) name e = or_there (look_up ds (Part c) name) (look_up ds Files name) (look (Part c) name) (look Files name) e

  named_there : ((scope : Scope) (name : NameId) → look_up ds scope name ≡ Some b → IsThere ds b) → (component : Option Place) (first : Name) (second : Option Name) → type_by ds component first second ≡ Some b → IsThere ds b
  named_there look component first None e = here_there look component first.id e
  named_there look component first (Some second) e =
      let c = and_then_gave (λ c. look_up ds (Part c.name.place) second.id) (component_named ds component first) b e in look (Part c.0.name.place) second.id c.2

beside_by : (t : Bool) (x b : Declaration) → (if t then Some x else None) ≡ Some b → x ≡ b
beside_by true x b e = some_is x b e
beside_by false x b e = absurd (is_missing b e)

find_there : (b : Declaration) (ds : List Declaration) (test : Declaration → Bool) → find test ds ≡ Some b → IsThere ds b
find_there b [] test e = absurd (is_missing b e)
find_there b (d ∷ more) test e = find_by d b more test (test d) refl (find_there b more test) e

pub base_there : (ds : List Declaration) (d b : Declaration) → base_of ds d ≡ Some b → IsThere ds b
unfolding base_of
base_there ds d b e =
    let x = and_then_gave (action_beside d) (option_and_then (type_named ds d.inside) (base_in d.sort)) b e in
    let name = and_then_gave (type_named ds d.inside) (base_in d.sort) x.0 x.1 in
    let same : x.0 ≡ b = beside_by (is_action x.0.sort && same_scope x.0.scope d.scope) x.0 b x.2 in
    subst (λ (c : Declaration). IsThere ds c) same (named_there ds x.0 (look_there ds x.0 (find_there x.0 ds)) d.inside name.0.first (second_of name.0) name.2)
