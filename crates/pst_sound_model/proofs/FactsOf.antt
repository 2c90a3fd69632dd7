-- The facts that are used hold of sources that keep the rules.
use Rattle.std.proofs.Common.{◌≡◌, ◌≤◌, refl, ap, arith}
use Rattle.std.specs.Prelude.{ℕ, true, List, Option, Some, None}
use Rattle.std.specs.Option.{option_map, option_and_then}
use Rattle.std.proofs.lemmas.Bool.{false≢true}
use Rattle.pst_base.specs.declared.position.Place.{Place}
use Rattle.pst_ast.specs.ExpressionTree.{ExprTree}
use Rattle.pst_ast.specs.DeclarationTree.{UnitTree}
use Rattle.pst_model.specs.Limits.{most_elements}
use Rattle.pst_ast.specs.Breaches.{IsNone}
use Rattle.pst_ast.specs.declared.scope_declaration.Declaration.{Declaration}
use Rattle.pst_ast.specs.declared.scope_declaration.Scope.{Scope}
use Rattle.pst_ast.specs.declared.scope_declaration.Scope.TheVariants.{Files, Part}
use Rattle.pst_ast.specs.Declarations.{declarations}
use Rattle.pst_ast.specs.Sorts.{same_place, same_scope}
use Rattle.pst_ast.specs.Uses.{ArraySize}
use Rattle.pst_type_rules.specs.declared.typed.ConstantValue.{ConstantValue}
use Rattle.pst_type_rules.specs.Sites.{DeclaredField, fields, field_at}
use Rattle.pst_type_rules.specs.TypeRules.{TypeBreach}
use Rattle.pst_type_rules.specs.Typed.{AreConstants}
use Rattle.pst_terms.specs.Sources.{amount_of}
use Rattle.pst_terms.specs.Fields.{elements_in, count_of}
use Rattle.pst_elab_rules.specs.Model.{sources}
use Rattle.pst_sound_model.specs.SoundExpressionsConditions.{HaveOwnPlaces}
use Rattle.pst_sound_model.proofs.Members.{In, in_find, to_contains}
use Rattle.pst_sound_model.proofs.Facts.{AreFacts}
use Rattle.pst_sound_model.proofs.Walks.{sized}
use Rattle.pst_sound_model.proofs.ConstantsIn.{same_places, within_limits}

module _ (units : List UnitTree) (names : List (List ℕ)) (constants : List ConstantValue) (are : AreConstants units names constants) (kept : IsNone (TypeBreach units names)) where
  abbrev Few : ℕ → Type 0
  Few n = (1 ≤ n) × (n ≤ most_elements)

  few_by : (f : DeclaredField) → In f (fields units) → (size : Option ExprTree) → f.size ≡ size → Few (elements_in (option_map (amount_of (sources units names constants)) size))
  few_by f there None e = (omega arith, omega arith)
  few_by f there (Some expr) e = within_limits units names constants are kept f.at ArraySize expr 1 most_elements (sized units f there expr e) refl refl

  pub few_elements : (d : Declaration) → Few (count_of (sources units names constants) d)
  unfolding field_at
  few_elements d = by (field_at units d.name.place) refl
    where
      by : (o : Option DeclaredField) → field_at units d.name.place ≡ o → Few (elements_in (option_map (amount_of (sources units names constants)) (option_and_then (λ f. f.size) o)))
      by None e = (omega arith, omega arith)
      by (Some f) e = few_by f (in_find (λ f. same_place f.name.place d.name.place) (fields units) f e).0 f.size refl

  same_scopes : (a : Scope) (b : Place) → same_scope a (Part b) ≡ true → a ≡ Part b
  same_scopes Files b e = absurd (false≢true e)
  same_scopes (Part a) b e = ap Part (same_places a b e)

  pub facts_of : HaveOwnPlaces (declarations units) → AreFacts (sources units names constants)
  facts_of own = record {
    places = λ d e there too same. own.places e d (to_contains (declarations units) e too) (to_contains (declarations units) d there) (same_places e.name.place d.name.place same);
    scopes = λ d e there too inner other same. own.scopes d e (to_contains (declarations units) d there) (to_contains (declarations units) e too) inner other (same_scopes d.scope e.name.place same);
    least = λ d there is. (few_elements d).0;
    most = λ d there is. (few_elements d).1;
  }
