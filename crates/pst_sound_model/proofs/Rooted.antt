-- What stands at the number of the root.
use Rattle.std.proofs.Common.{◌≡◌, refl, sym, ap, ◌∙◌}
use Rattle.std.specs.Prelude.{ℕ, Bool, true, false, not, ◌&&◌, List, [], ◌∷◌, map, position, slice_get, get_or, Option, Some, None}
use Rattle.std.specs.Option.{option_map, option_map_or, option_and_then}
use Rattle.std.proofs.lemmas.Bool.{false≢true, not-true}
use Rattle.std.proofs.lemmas.Option.{none-some, same_Some, slice_get-get_or, slice_get-map}
use Rattle.std.proofs.lemmas.List.Quantifiers.{position-Some}
use Rattle.pst_ast.specs.declared.instance.Instance.{Instance}
use Rattle.pst_ast.specs.DeclarationTree.{UnitTree}
use Rattle.pst_model.specs.ModelTree.{ModelTree, ActionTree}
use Rattle.pst_ast.specs.declared.scope_declaration.Declaration.{Declaration}
use Rattle.pst_ast.specs.Declarations.{declarations}
use Rattle.pst_ast.specs.Sorts.{is_action}
use Rattle.pst_ast.specs.Lookups.{declared_at, is_text}
use Rattle.pst_type_rules.specs.Members.{those_that}
use Rattle.pst_type_rules.specs.Sites.{DeclaredAction, action_at}
use Rattle.pst_bind.specs.Needs.{is_concrete, homes_of}
use Rattle.pst_elab_rules.specs.Types.{model_action}
use Rattle.pst_elab_rules.specs.Model.{sources}
use Rattle.pst_elab_rules.specs.Ends.{is_filled, is_root}
use Rattle.pst_sound_model.specs.SoundRootLaws.{RootsAreConcrete}

-- what was mapped to the element at the first number at which a test passes
pub mapped_at : {A B : Type 0} (test : A → Bool) (f : A → B) (xs : List A) (i : ℕ) (y : B) → position test xs ≡ Some i → slice_get (map f xs) i ≡ Some y → (x : A) × (test x ≡ true) × (f x ≡ y)
mapped_at test f [] i y e there = absurd (none-some i e)
mapped_at test f (x ∷ more) i y e there =
    let at = position-Some test (x ∷ more) i x e in
    let found = get_or (x ∷ more) i x in
    let mapped = slice_get-map f (x ∷ more) i ∙ ap (option_map f) (slice_get-get_or (x ∷ more) i x at.0) in
    (found, at.1, same_Some (f found) y (sym mapped ∙ there))

third_of_four : (a b c d : Bool) → (a && (b && (c && d))) ≡ true → c ≡ true
third_of_four true true true d e = refl
third_of_four true true false d e = absurd (false≢true e)
third_of_four true false c d e = absurd (false≢true e)
third_of_four false b c d e = absurd (false≢true e)

-- a declaration that may be the root is that of a concrete action type
pub root_concrete : (units : List UnitTree) (names : List (List ℕ)) (instances : List Instance) (component action : List ℕ) (d : Declaration) → is_root units names instances component action d ≡ true → is_concrete units d ≡ true
root_concrete units names instances component action d e =
    let ds = declarations units in
    let of_component = option_map_or (λ (c : Declaration). is_text names component c.name.id) (option_and_then (declared_at ds) d.inside) false in
    third_of_four of_component (is_text names action d.name.id) (is_concrete units d) (is_filled (homes_of ds instances d)) e

-- an action that is there and concrete isn't abstract
pub not_abstract : (o : Option DeclaredAction) → option_map_or (λ a. not a.is_abstract) o false ≡ true → option_map_or (λ a. a.is_abstract) o false ≡ false
not_abstract None e = refl
not_abstract (Some a) e = not-true a.is_abstract e

pub roots_concrete : RootsAreConcrete
roots_concrete units names component action model root e type there =
    let m = e.is_model in
    let may_be_root = is_root units names e.instances component action in
    let made = model_action (sources units names m.constants) m.domains in
    let in_sources = ap (λ (x : ModelTree). slice_get x.actions root) (sym m.is) ∙ there in
    let at = mapped_at may_be_root made (those_that is_action (declarations units)) root type e.is_root in_sources in
    let concrete = root_concrete units names e.instances component action at.0 at.1 in
    ap (λ (t : ActionTree). t.is_abstract) (sym at.2) ∙ not_abstract (action_at units at.0.name.place) concrete
