-- The body of an action names no handle.
use Rattle.std.proofs.Common.{◌≡◌, refl, sym, ap, subst, ◌∙◌}
use Rattle.std.specs.Prelude.{ℕ, true, false, List, [], ◌∷◌, Option, Some, None}
use Rattle.std.specs.Option.{option_and_then}
use Rattle.std.proofs.lemmas.Option.{same_Some}
use Rattle.pst_ast.specs.ExpressionTree.{ExprTree}
use Rattle.pst_ast.specs.ActivityTree.{StatementTree}
use Rattle.pst_ast.specs.BodyTree.{BodyTree}
use Rattle.pst_ast.specs.DeclarationTree.{UnitTree}
use Rattle.pst_ast.specs.Breaches.{IsNone}
use Rattle.pst_ast.specs.declared.scope_declaration.Declaration.{Declaration}
use Rattle.pst_ast.specs.declared.environment.Environment.{Environment}
use Rattle.pst_ast.specs.declared.referent.Owner.TheVariants.{OfAction}
use Rattle.pst_ast.specs.declared.referent.Referent.TheVariants.{Declared}
use Rattle.pst_ast.specs.declared.referent.Traversal.{Traversal}
use Rattle.pst_ast.specs.declared.referent.PathPart.{PathPart}
use Rattle.pst_ast.specs.Declarations.{declarations}
use Rattle.pst_ast.specs.Sorts.{is_handle}
use Rattle.pst_ast.specs.Lookups.{member_of, traversed, stands_for}
use Rattle.pst_ast.specs.Uses.{Judges, Reads, InBody, expr_uses, uses}
use Rattle.pst_type_rules.specs.Handles.{mention, mentions, first_of_path, first_names, ByOwner, IsSteadyIn}
use Rattle.pst_type_rules.specs.Members.{activities_of, bodies_of, IsCompound, Own, Inherited, IsTwofold, ActivityAndBody}
use Rattle.pst_type_rules.specs.Sites.{DeclaredAction, action_at}
use Rattle.pst_type_rules.specs.TypeRules.{TypeBreach, Unsteady, OfDeclaration, Twofold}
use Rattle.pst_sound_model.proofs.Members.{In, to_map, to_contains}
use Rattle.pst_sound_model.proofs.SetTerms.{IsUsed}
use Rattle.pst_sound_model.proofs.ServedWhole.{to_filter_map}

module _ (units : List UnitTree) (names : List (List ℕ)) (kept : IsNone (TypeBreach units names)) (base : Declaration) (there : In base (declarations units)) (a : DeclaredAction) (at : action_at units base.name.place ≡ Some a)
    (body : BodyTree) (bodies : List BodyTree) (has : bodies_of a ≡ body ∷ bodies) where
  twofold : IsTwofold units base → ⊥
  twofold t = kept base.name.place 16 (OfDeclaration base base.name.place 16 (to_contains (declarations units) base there) (Twofold t))

  -- an action with a body has no activity
  not_compound : (d : Declaration) (statements : List StatementTree) → IsCompound units d statements → d ≡ base → ⊥
  not_compound d statements (Own _ x _ more found activities) e =
      let same : x ≡ a = same_Some x a (sym found ∙ (ap (λ (y : Declaration). action_at units y.name.place) e ∙ at)) in
      twofold (ActivityAndBody base a statements body more bodies at (subst (λ (y : DeclaredAction). activities_of y ≡ statements ∷ more) same activities) has)
  not_compound d statements (Inherited _ b x _ found activities none from compound) e =
      let same : x ≡ a = same_Some x a (sym found ∙ (ap (λ (y : Declaration). action_at units y.name.place) e ∙ at)) in
      let no_same : body ∷ bodies ≡ [] = sym has ∙ subst (λ (y : DeclaredAction). bodies_of y ≡ []) same none in absurd (cc)

  not_steady : (name : _) → IsSteadyIn units base name → ⊥
  not_steady name steady = not_compound base steady.statements steady.compound refl

  mentioned : (env : Environment) (expr : ExprTree) (p : PathPart) (ps : List PathPart) → In (Reads env p ps) (expr_uses env expr) → In (mention env false p.name) (mentions (Judges env InBody expr))
  mentioned env expr p ps within = to_map (mention env false) (first_names env expr) p.name (to_filter_map first_of_path (expr_uses env expr) (Reads env p ps) p.name within refl)

  pub no_handle : (env : Environment) → env.owner ≡ OfAction base → env.traversal ≡ None → (p : PathPart) (ps : List PathPart) → IsUsed units InBody env (Reads env p ps) → (h : Declaration) → stands_for (declarations units) names env p.name.id ≡ Some (Declared h) → is_handle h.sort ≡ true → ⊥
  no_handle env mine plain p ps u h e handle =
      let among = mentioned env u.expr p ps u.within in
      kept p.name.place 18
      (Unsteady (Judges env InBody u.expr) (mention env false p.name) h base (to_contains (uses units) (Judges env InBody u.expr) u.judged) (to_contains (mentions (Judges env InBody u.expr)) (mention env false p.name) among) e handle
      (ByOwner base mine (ap (λ (t : Option Traversal). option_and_then (λ t. option_and_then (λ a. member_of (declarations units) a p.name.id) (traversed (declarations units) names env t)) t) plain))
      (not_steady p.name.id))
