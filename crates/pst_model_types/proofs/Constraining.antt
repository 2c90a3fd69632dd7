-- Actions that aren't marked have no constraints of their own.
use Rattle.std.proofs.Common.{◌≡◌, refl, sym, ap, ◌∙◌, true≢false}
use Rattle.std.specs.Prelude.{Bool, true, false, List, [], ◌∷◌, map, is_some, Option, Some, None, if◌then◌else◌}
use Rattle.std.specs.List.{filter, filter_map, find, flat_map, list_any}
use Rattle.std.specs.Option.{option_map_or}
use Rattle.pst_base.specs.declared.position.Place.{Place}
use Rattle.pst_ast.specs.ConstraintTree.{ConstraintDeclarationTree}
use Rattle.pst_ast.specs.declared.scope_declaration.Declaration.{Declaration}
use Rattle.pst_ast.specs.declared.referent.Owner.TheVariants.{OfAction}
use Rattle.pst_ast.specs.Sorts.{same_place}
use Rattle.pst_elab_rules.specs.Constraints.{declaration_terms}
use Rattle.pst_elab_rules.specs.Types.{constraint_in, own_constraints, setting_of}
use Rattle.pst_type_rules.specs.Sites.{DeclaredAction, actions, action_at}
use Rattle.pst_tree.specs.Bases.{with_bases}
use Rattle.pst_tree.specs.Contents.{first_of}
use Rattle.pst_marked_bases.specs.Marked.{is_marked, marked_bases}
use Rattle.pst_marked_bases.proofs.Among.{is_among, neither}
use Rattle.pst_marked_bases.proofs.Skipping.{skipped}
use Rattle.pst_marked_bases.specs.Shown.{Shown}
use Rattle.pst_terms.specs.Slots.{constraint_of}
use Rattle.pst_terms.specs.Sources.{Sources, declared_in}
use Rattle.pst_model_types.specs.Marks.{constraint_bases, has_constraint}

module _ (p : Place) where
  abbrev any : List Place → Bool
  any places = list_any (λ q. same_place q p) places

  abbrev places_of : List DeclaredAction → List Place
  places_of all = map (λ a. a.name.place) all

  next : (a : DeclaredAction) (more : List DeclaredAction) (found : Option DeclaredAction) (same has : Bool) → same_place a.name.place p ≡ same → has_constraint a ≡ has
      → any (places_of (if has then a ∷ filter has_constraint more else filter has_constraint more)) ≡ false
      → (any (places_of (filter has_constraint more)) ≡ false → option_map_or has_constraint found false ≡ false) → option_map_or has_constraint (if same then Some a else found) false ≡ false
  next a more found true true is holds e rest = absurd (true≢false (sym is ∙ (neither (same_place a.name.place p) (any (places_of (filter has_constraint more))) e).0))
  next a more found true false is holds e rest = holds
  next a more found false true is holds e rest = rest (neither (same_place a.name.place p) (any (places_of (filter has_constraint more))) e).1
  next a more found false false is holds e rest = rest e

  none_found : (all : List DeclaredAction) → any (places_of (filter has_constraint all)) ≡ false → option_map_or has_constraint (find (λ a. same_place a.name.place p) all) false ≡ false
  none_found [] e = refl
  none_found (a ∷ more) e = next a more (find (λ x. same_place x.name.place p) more) (same_place a.name.place p) (has_constraint a) refl refl e (none_found more)

none : (constraints : List ConstraintDeclarationTree) → is_some (first_of constraints) ≡ false → constraints ≡ []
none [] e = refl
none (c ∷ more) e = absurd (true≢false e)

module _ (s : Sources) where
  of_found : (d : Declaration) (found : Option DeclaredAction) → option_map_or has_constraint found false ≡ false
      → option_map_or (λ a. map constraint_of (flat_map (declaration_terms s (setting_of d (OfAction d))) (filter_map constraint_in a.parts))) found [] ≡ []
  of_found d None e = refl
  of_found d (Some a) e = ap (λ (cs : List ConstraintDeclarationTree). map constraint_of (flat_map (declaration_terms s (setting_of d (OfAction d))) cs)) (none (filter_map constraint_in a.parts) e)

  own_none : (d : Declaration) → is_marked (constraint_bases s).places d ≡ false → own_constraints s d ≡ []
  unfolding action_at
  own_none d un = of_found d (action_at s.units d.name.place) (none_found d.name.place (actions s.units) (sym (is_among (constraint_bases s).places d.name.place) ∙ un))

  own_are : (d : Declaration) → flat_map (own_constraints s) (marked_bases (constraint_bases s).places (declared_in s) d) ≡ flat_map (own_constraints s) (with_bases (declared_in s) d)
  own_are d = skipped (constraint_bases s).places (own_constraints s) own_none (with_bases (declared_in s) d)

  pub own_by : (shown : Shown) (d : Declaration) (found : List Declaration) → shown ≡ constraint_bases s → found ≡ marked_bases shown.places shown.declared d
      → flat_map (own_constraints s) found ≡ flat_map (own_constraints s) (with_bases (declared_in s) d)
  own_by shown d found are is = ap (flat_map (own_constraints s)) (is ∙ ap (λ (x : Shown). marked_bases x.places x.declared d) are) ∙ own_are d
