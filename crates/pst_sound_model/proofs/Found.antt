-- The body of an action, where it stands.
use Rattle.std.proofs.Common.{◌≡◌, inl, inr, refl, ap, subst, ◌∙◌}
use Rattle.std.specs.Prelude.{List, [], ◌∷◌, Option, Some, None}
use Rattle.std.specs.List.{filter_map, flat_map}
use Rattle.std.specs.Option.{option_map, option_or, option_and_then}
use Rattle.std.proofs.lemmas.Option.{none-some, same_Some}
use Rattle.pst_ast.specs.ActivityTree.{ActivityTree}
use Rattle.pst_ast.specs.BodyTree.{BodyTree}
use Rattle.pst_ast.specs.DeclarationTree.{UnitTree, ActionPartTree, ActionPartField, ActionPartReference, ActionPartClaim, ActionPartMembers, ActionPartConstraint, ActionPartActivity, ActionPartBody, ActionPartEmpty}
use Rattle.pst_ast.specs.declared.scope_declaration.Declaration.{Declaration}
use Rattle.pst_type_rules.specs.Members.{bodies_in}
use Rattle.pst_type_rules.specs.Sites.{DeclaredAction, action_at}
use Rattle.pst_tree.specs.Contents.{Content, Activity, Body, activity_in, body_in, first_of, content_in, own_content, last_content}
use Rattle.pst_sound_model.proofs.Members.{In}

pub record HasBody (parts : List ActionPartTree) (tree : BodyTree) : Type 0 where
  pub part : In (ActionPartBody tree) parts
  pub more : List BodyTree
  pub bodies : flat_map bodies_in parts ≡ tree ∷ more

body_more : (x : ActionPartTree) (parts : List ActionPartTree) (tree : BodyTree) → flat_map bodies_in (x ∷ parts) ≡ flat_map bodies_in parts → HasBody parts tree → HasBody (x ∷ parts) tree
body_more x parts tree e h = record { part = inr h.part; more = h.more; bodies = e ∙ h.bodies }

first_body : (parts : List ActionPartTree) (tree : BodyTree) → first_of (filter_map body_in parts) ≡ Some tree → HasBody parts tree
first_body [] tree e = absurd (none-some tree e)
first_body (ActionPartField x ∷ more) tree e = body_more (ActionPartField x) more tree refl (first_body more tree e)
first_body (ActionPartReference x ∷ more) tree e = body_more (ActionPartReference x) more tree refl (first_body more tree e)
first_body (ActionPartClaim x ∷ more) tree e = body_more (ActionPartClaim x) more tree refl (first_body more tree e)
first_body (ActionPartMembers x ∷ more) tree e = body_more (ActionPartMembers x) more tree refl (first_body more tree e)
first_body (ActionPartConstraint x ∷ more) tree e = body_more (ActionPartConstraint x) more tree refl (first_body more tree e)
first_body (ActionPartActivity x ∷ more) tree e = body_more (ActionPartActivity x) more tree refl (first_body more tree e)
first_body (ActionPartBody x ∷ more) tree e =
    let same = same_Some x tree e in record { part = inl (ap ActionPartBody same); more = flat_map bodies_in more; bodies = ap (λ (b : BodyTree). b ∷ flat_map bodies_in more) same }
first_body (ActionPartEmpty x ∷ more) tree e = body_more (ActionPartEmpty x) more tree refl (first_body more tree e)

-- the body that an action has itself
pub record HasOwnBody (units : List UnitTree) (base : Declaration) (tree : BodyTree) : Type 0 where
  pub action : DeclaredAction
  pub found : action_at units base.name.place ≡ Some action
  pub body : HasBody action.parts tree

either_body : (d : Declaration) (a : Option ActivityTree) (b : Option BodyTree) (action : Declaration) (tree : BodyTree) → option_or (option_map (Activity d) a) (option_map (Body d) b) ≡ Some (Body action tree) → (d ≡ action) × (b ≡ Some tree)
either_body d (Some x) b action tree e = let no_same : ⊥ = cc in absurd no_same
either_body d None (Some x) action tree e = let one : d ≡ action = cc in let two : x ≡ tree = cc in (one, ap (λ (y : BodyTree). Some y) two)
either_body d None None action tree e = let no_same : ⊥ = cc in absurd no_same

own_body : (units : List UnitTree) (d : Declaration) (action : Declaration) (tree : BodyTree) → own_content units d ≡ Some (Body action tree) → (d ≡ action) × HasOwnBody units d tree
own_body units d action tree e = by (action_at units d.name.place) refl e
  where
    by : (o : Option DeclaredAction) → action_at units d.name.place ≡ o → option_and_then (content_in d) o ≡ Some (Body action tree) → (d ≡ action) × HasOwnBody units d tree
    by None had e = absurd (none-some (Body action tree) e)
    by (Some a) had e =
        let r = either_body d (first_of (filter_map activity_in a.parts)) (first_of (filter_map body_in a.parts)) action tree e in
        (r.0, record { action = a; found = had; body = first_body a.parts tree r.1 })

-- the body of an action with its bases is one's own of them
pub last_body : (units : List UnitTree) (bases : List Declaration) (action : Declaration) (tree : BodyTree) → last_content units bases ≡ Some (Body action tree) → In action bases × HasOwnBody units action tree
last_body units [] action tree e = absurd (none-some (Body action tree) e)
last_body units (d ∷ more) action tree e = by (last_content units more) refl e (last_body units more action tree)
  where
    by : (o : Option Content) → last_content units more ≡ o → option_or o (own_content units d) ≡ Some (Body action tree) → (last_content units more ≡ Some (Body action tree) → In action more × HasOwnBody units action tree)
        → In action (d ∷ more) × HasOwnBody units action tree
    by (Some x) had e on = let r = on (had ∙ e) in (inr r.0, r.1)
    by None had e on = let r = own_body units d action tree e in (inl r.0, subst (λ (b : Declaration). HasOwnBody units b tree) r.0 r.1)
