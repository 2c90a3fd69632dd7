-- The places of locked names.
use Rattle.std.proofs.Common.{◌≡◌, ℕ, suc, List, [], ◌∷◌, ◌++◌, refl, sym, ap, ◌∙◌, Bool, true, false, map}
use Rattle.std.proofs.lemmas.List.{map-append}
use Rattle.std.specs.Prelude.{Option, Some, None, is_some, if◌then◌else◌, ◌||◌}
use Rattle.std.specs.List.{flat_map, list_any}
use Rattle.pst_base.specs.declared.position.Place.{Place}
use Rattle.pst_ast.specs.declared.leaf.Name.{Name}
use Rattle.pst_ast.specs.declared.shared.NextName.{NextName}
use Rattle.pst_ast.specs.declared.shared.NamesNode.{NamesNode}
use Rattle.pst_ast.specs.SharedView.{view_names}
use Rattle.pst_ast.specs.DeclarationTree.{UnitTree}
use Rattle.pst_ast.specs.Declarations.{names_of}
use Rattle.pst_places.specs.Numbers.{number_in, number_from}
use Rattle.pst_ast.specs.Sorts.{same_place}
use Rattle.pst_model.specs.declared.action.Claim.{Claim}
use Rattle.pst_ast.specs.declared.scope_declaration.Declaration.{Declaration}
use Rattle.pst_terms.specs.Sources.{Sources, declared_in}
use Rattle.pst_type_rules.specs.Sites.{DeclaredAction, actions}
use Rattle.pst_elab_rules.specs.Types.{claim, locked, locked_in, object_of}
use Rattle.pst_model_members.specs.Listed.{locked_in_action, locked_names, place_of_name}

pub places_append : (xs ys : List Name) → map place_of_name (xs ++ ys) ≡ map place_of_name xs ++ map place_of_name ys
places_append xs ys = map-append place_of_name xs ys

names_behind : (rest : List NextName) → map place_of_name (map (λ (n : NextName). n.name) rest) ≡ map (λ (n : NextName). n.name.place) rest
names_behind [] = refl
names_behind (n ∷ more) = ap (λ (l : List Place). n.name.place ∷ l) (names_behind more)

pub names_are : (names : NamesNode) → map place_of_name (names_of (view_names names)) ≡ names.first.place ∷ map (λ (n : NextName). n.name.place) names.rest.items
names_are names = ap (λ (l : List Place). names.first.place ∷ l) (names_behind names.rest.items)

pub locked_are : (actions : List DeclaredAction) → map place_of_name (flat_map (λ a. flat_map locked_in a.parts) actions) ≡ flat_map locked_in_action actions
locked_are [] = refl
locked_are (a ∷ more) =
    map-append place_of_name (flat_map locked_in a.parts) (flat_map (λ b. flat_map locked_in b.parts) more)
    ∙ ap (λ (l : List Place). locked_in_action a ++ l) (locked_are more)

pub places_locked : (units all : List UnitTree) (acts : List DeclaredAction) (list found start : List Place) → list ≡ found → start ≡ [] → found ≡ start ++ flat_map locked_in_action acts
    → acts ≡ actions all → all ≡ units → list ≡ map place_of_name (locked units)
places_locked units all acts list found start is none added are same =
    is ∙ added
    ∙ ap (λ (l : List Place). l ++ flat_map locked_in_action acts) none
    ∙ ap (flat_map locked_in_action) (are ∙ ap actions same)
    ∙ sym (locked_are (actions units))

step : (b : Bool) (n : ℕ) (found : Option ℕ) (rest : Bool) → is_some found ≡ rest → is_some (if b then Some n else found) ≡ (b || rest)
step true n found rest e = refl
step false n found rest e = e

from : (n : ℕ) (places : List Place) (place : Place) → is_some (number_from n places place) ≡ list_any (λ p. same_place p place) places
from n [] place = refl
from n (p ∷ more) place = step (same_place p place) n (number_from (suc n) more place) (list_any (λ p. same_place p place) more) (from (suc n) more place)

pub is_among : (places : List Place) (place : Place) → is_some (number_in places place) ≡ list_any (λ p. same_place p place) places
unfolding number_in
is_among places place = from 0 places place

any_place : (names : List Name) (place : Place) → list_any (λ p. same_place p place) (map place_of_name names) ≡ list_any (λ n. same_place n.place place) names
any_place [] place = refl
any_place (n ∷ more) place = ap (λ (b : Bool). same_place n.place place || b) (any_place more place)

abbrev made : Declaration → ℕ → Bool → Claim
made d object lock = record { name = d.name.id; object = object; lock = lock }

pub claim_is : (s : Sources) (d : Declaration) (object : ℕ) (lock : Bool) (places : List Place) → object ≡ object_of (declared_in s) d → places ≡ locked_names s → lock ≡ list_any (λ (p : Place). same_place p d.name.place) places
    → made d object lock ≡ claim s.units (declared_in s) d
claim_is s d object lock places object_is are lock_is =
    let any = lock_is ∙ ap (list_any (λ (p : Place). same_place p d.name.place)) are ∙ any_place (locked s.units) d.name.place in
    (λ i. made d (object_is i) (any i))
