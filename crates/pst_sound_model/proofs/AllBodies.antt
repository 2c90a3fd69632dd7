-- The body of each atomic action of the model is sound.
use Rattle.std.proofs.Common.{◌≡◌, ◌≤◌, refl, sym, ap, subst, arith}
use Rattle.std.specs.Prelude.{ℕ, true, List, [], length, All, Option, Some, None}
use Rattle.std.specs.List.{flat_map}
use Rattle.std.proofs.lemmas.List.Elements.{All-nil, All-map}
use Rattle.std.proofs.lemmas.Option.{none-some}
use Rattle.pst_ast.specs.declared.instance.Instance.{Instance}
use Rattle.pst_ast.specs.declared.leaf.Name.{Name}
use Rattle.pst_ast.specs.ActivityTree.{MakeActivity}
use Rattle.pst_ast.specs.BodyTree.{BodyTree, MakeBody}
use Rattle.pst_ast.specs.DeclarationTree.{UnitTree, ActionPartBody}
use Rattle.pst_expr.specs.declared.ranges.Span.{Span}
use Rattle.pst_model.specs.BodyTree.{BodyStepTree}
use Rattle.pst_model.specs.ModelTree.{Atomic, ActionTree, ModelTree}
use Rattle.pst_model.specs.SoundBody.{EachBodyStep, IsSoundBodyStep, IsSoundBody}
use Rattle.pst_ast.specs.Breaches.{IsNone}
use Rattle.pst_ast.specs.declared.scope_declaration.Declaration.{Declaration}
use Rattle.pst_ast.specs.declared.referent.Owner.TheVariants.{OfAction}
use Rattle.pst_ast.specs.Declarations.{action_declared, in_body_statement, declarations}
use Rattle.pst_ast.specs.NameRules.{NameBreach}
use Rattle.pst_ast.specs.Sorts.{is_action, same_place}
use Rattle.pst_ast.specs.Uses.{body_list_uses, environment}
use Rattle.pst_type_rules.specs.declared.typed.ConstantValue.{ConstantValue}
use Rattle.pst_type_rules.specs.Members.{those_that}
use Rattle.pst_type_rules.specs.Sites.{DeclaredAction, actions, action_at}
use Rattle.pst_type_rules.specs.TypeRules.{TypeBreach}
use Rattle.pst_tree.specs.Bases.{with_bases}
use Rattle.pst_tree.specs.Contents.{Content, Activity, Body, content_of}
use Rattle.pst_elab_rules.specs.Bodies.{body_steps}
use Rattle.pst_elab_rules.specs.Model.{sources, model_by, IsModel}
use Rattle.pst_elab_rules.specs.Types.{setting_of, content, model_action}
use Rattle.pst_sound_model.specs.SoundExpressionsConditions.{HaveOwnPlaces}
use Rattle.pst_sound_model.proofs.ActionReadings.{bases_are_actions}
use Rattle.pst_sound_model.proofs.ActionsSound.{no_loops}
use Rattle.pst_sound_model.proofs.Facts.{AreFacts}
use Rattle.pst_sound_model.proofs.FactsOf.{facts_of}
use Rattle.pst_sound_model.proofs.Members.{In, in_find}
use Rattle.pst_sound_model.proofs.Owned.{those_declared}
use Rattle.pst_sound_model.proofs.Walks.{action_stands}
use Rattle.pst_sound_model.proofs.NeedsSound.{all_in}
use Rattle.pst_sound_model.specs.Conditions.{StandApart}
use Rattle.pst_sound_model.specs.SoundBodiesLaws.{HasSoundBody}
use Rattle.pst_sound_model.proofs.BodiesSound.{body_sound}
use Rattle.pst_sound_model.proofs.Counted.{counted, AreOnce, are_once, declared_counted}
use Rattle.pst_sound_model.proofs.Found.{HasOwnBody, last_body}

empty_sound : (model : ModelTree) (action : ActionTree) → IsSoundBody model action []
empty_sound model action = record { few = omega arith; numbered = λ k local e. absurd (none-some local e); steps = All-nil (EachBodyStep (IsSoundBodyStep model action 0) 0) }

module _ (units : List UnitTree) (names : List (List ℕ)) (right : IsNone (NameBreach units names)) (kept : IsNone (TypeBreach units names)) (constants : List ConstantValue) (facts : AreFacts (sources units names constants)) (once : AreOnce (declarations units))
    (domains : List (List Span)) (instances : List Instance) (d : Declaration) (mine : In d (declarations units)) (is : is_action d.sort ≡ true) where
  abbrev model : ModelTree
  model = model_by (sources units names constants) domains instances

  abbrev action : ActionTree
  action = model_action (sources units names constants) domains d

  found : (x : Declaration) (a : DeclaredAction) → action_at units x.name.place ≡ Some a → In a (actions units) × (same_place a.name.place x.name.place ≡ true)
  unfolding action_at
  found x a e = in_find (λ a. same_place a.name.place x.name.place) (actions units) a e

  its_base : (x : Declaration) → In x (with_bases (declarations units) d) → In x (declarations units) × (is_action x.sort ≡ true)
  unfolding with_bases
  its_base x has = bases_are_actions (declarations units) (length (declarations units)) d x mine is has

  own_sound : (x : Declaration) (tree : BodyTree) → In x (with_bases (declarations units) d) → HasOwnBody units x tree → IsSoundBody model action (body_steps (sources units names constants) (setting_of x (OfAction x)) x tree)
  own_sound x (MakeBody exec_place word left statements close) among own =
      let a = own.action in
      let f = found x a own.found in
      let b = its_base x among in
      let at = action_stands units a f.0 in
      let same : action_declared at.component at.base a.name ≡ x = facts.places x (action_declared at.component at.base a.name) b.0 at.itself f.1 in
      let named : a.name ≡ x.name = ap (λ (y : Declaration). y.name) same in
      body_sound units names right kept constants facts domains instances (no_loops units names right) d mine x among b.0 b.1 exec_place word left statements close
      (λ u h. at.used (ActionPartBody (MakeBody exec_place word left statements close)) own.body.part u (subst (λ (y : Declaration). In u (body_list_uses (environment y.inside (OfAction y)) statements)) (sym same) h))
      (λ y h. at.declared (ActionPartBody (MakeBody exec_place word left statements close)) own.body.part y (subst (λ (n : Name). In y (flat_map (in_body_statement n.place left) statements)) (sym named) h))
      (λ test. subst (λ (n : Name). counted test (flat_map (in_body_statement n.place left) statements) ≤ counted test (declarations units)) named
      (declared_counted units test a f.0 (ActionPartBody (MakeBody exec_place word left statements close)) own.body.part))
      once a own.found own.body.more own.body.bodies

  content_sound : (o : Option Content) → content_of units d ≡ o → (body : List BodyStepTree) → content (sources units names constants) d o ≡ Atomic body → IsSoundBody model action body
  content_sound None had body e = let same : [] ≡ body = cc in subst (IsSoundBody model action) same (empty_sound model action)
  content_sound (Some (Activity x (MakeActivity word left statements close))) had body e = let no_same : ⊥ = cc in absurd no_same
  content_sound (Some (Body x tree)) had body e =
      let same : body_steps (sources units names constants) (setting_of x (OfAction x)) x tree ≡ body = cc in
      let r = last_body units (with_bases (declarations units) d) x tree had in subst (IsSoundBody model action) same (own_sound x tree r.0 r.1)

  pub action_sound : HasSoundBody model action
  action_sound body e = content_sound (content_of units d) refl body e

pub all_sound : (units : List UnitTree) (names : List (List ℕ)) (model : ModelTree) → HaveOwnPlaces (declarations units) → StandApart (declarations units) → IsNone (NameBreach units names) → IsNone (TypeBreach units names) → IsModel units names model
    → All (HasSoundBody model) model.actions
all_sound units names _ own apart right kept is =
    let facts = facts_of units names is.constants is.are_constants kept own in
    subst (λ (m : ModelTree). All (HasSoundBody m) m.actions) (sym is.is)
    (All-map (HasSoundBody (model_by (sources units names is.constants) is.domains is.instances)) (model_action (sources units names is.constants) is.domains) (those_that is_action (declarations units))
    (all_in (λ d. HasSoundBody (model_by (sources units names is.constants) is.domains is.instances) (model_action (sources units names is.constants) is.domains d)) (those_that is_action (declarations units))
    (λ d there. let m = those_declared is_action (declarations units) d there in action_sound units names right kept is.constants facts (are_once (declarations units) apart) is.domains is.instances d m.0 m.1)))
