-- Handles are of action types.
use Rattle.std.proofs.Common.{◌≡◌, ◌<◌, inl, inr, refl, sym, ap, subst, ◌∙◌}
use Rattle.std.specs.Prelude.{ℕ, Bool, true, false, List, [], ◌∷◌, map, length, slice_get, All, Option, Some, None, option_and_then}
use Rattle.std.specs.Option.{option_map_or}
use Rattle.std.proofs.lemmas.Bool.{false≢true}
use Rattle.std.proofs.lemmas.List.Elements.{All-map}
use Rattle.std.proofs.lemmas.Option.{slice_get_within}
use Rattle.pst_base.specs.declared.position.Place.{Place}
use Rattle.pst_ast.specs.declared.shared.TypeName.{TypeName}
use Rattle.pst_ast.specs.ActivityTree.{MakeActivity}
use Rattle.pst_ast.specs.DeclarationTree.{UnitTree, ActionPartTree, ActionPartMembers, MakeMembers}
use Rattle.pst_expr.specs.declared.ranges.Span.{Span}
use Rattle.pst_model.specs.ActivityTree.{ActivityTree}
use Rattle.pst_model.specs.ModelTree.{Compound, ModelTree}
use Rattle.pst_model.specs.SoundSlots.{handles_of as model_handles}
use Rattle.pst_ast.specs.Breaches.{IsNone}
use Rattle.pst_ast.specs.declared.scope_declaration.Declaration.{Declaration}
use Rattle.pst_ast.specs.declared.scope_declaration.Sort.{Sort}
use Rattle.pst_ast.specs.declared.scope_declaration.Sort.TheVariants as sort
use Rattle.pst_ast.specs.Declarations.{member, action_declared, declarations}
use Rattle.pst_ast.specs.Lookups.{declared_at, component_of, home, type_of}
use Rattle.pst_ast.specs.NameRules.{NameBreach}
use Rattle.pst_ast.specs.Sorts.{is_action, is_handle}
use Rattle.pst_ast.specs.Uses.{NamesType, AnAction}
use Rattle.pst_type_rules.specs.Members.{those_that}
use Rattle.pst_type_rules.specs.Sites.{DeclaredAction}
use Rattle.pst_type_rules.specs.TypeRules.{TypeBreach}
use Rattle.pst_tree.specs.Bases.{handles_of, action_number}
use Rattle.pst_tree.specs.Contents.{Content, Activity, Body, content_of}
use Rattle.pst_terms.specs.Sources.{Sources, declared_in}
use Rattle.pst_elab_rules.specs.Model.{sources, IsModel}
use Rattle.pst_elab_rules.specs.Types.{handle_types, content, model_action, model_actions}
use Rattle.pst_sound_model.specs.SoundExpressionsConditions.{HaveOwnPlaces}
use Rattle.pst_sound_model.proofs.Members.{In}
use Rattle.pst_sound_model.proofs.Owned.{member_declared}
use Rattle.pst_sound_model.proofs.Facts.{AreFacts}
use Rattle.pst_sound_model.proofs.FactsOf.{facts_of}
use Rattle.pst_sound_model.proofs.Walks.{IsActionAt, action_stands}
use Rattle.pst_sound_model.proofs.ActionRows.{action_numbered, type_declared}
use Rattle.pst_sound_model.proofs.SoundTypesInside.{is_other}
use Rattle.pst_sound_model.proofs.Standing.{IsStanding, AsAction, AsPool, InAction, InObject, Otherwise, standing}
use Rattle.pst_sound_model.proofs.Typed.{PartDeclares, AField, AReference, AClaim, AHandle, AnOther, part_declares, is_apart, object_part_none, action_is_no, field_is_field, at_place, typed_by}
use Rattle.pst_sound_model.proofs.NeedsSound.{all_in}

handle_apart : is_apart is_handle
handle_apart sort.Component e = absurd (false≢true e)
handle_apart (sort.Action base) e = absurd (false≢true e)
handle_apart (sort.Object word) e = absurd (false≢true e)
handle_apart sort.Enumeration e = absurd (false≢true e)
handle_apart sort.Function e = absurd (false≢true e)
handle_apart (sort.Instance of) e = absurd (false≢true e)
handle_apart (sort.Pool of) e = absurd (false≢true e)
handle_apart (sort.Item level) e = absurd (false≢true e)
handle_apart (sort.Field array) e = absurd (false≢true e)
handle_apart (sort.Reference of output) e = absurd (false≢true e)
handle_apart (sort.Claim of) e = absurd (false≢true e)
handle_apart (sort.Handle of) e = (λ h. false≢true h, λ h. false≢true h)
handle_apart sort.Constraint e = absurd (false≢true e)
handle_apart sort.Parameter e = absurd (false≢true e)
handle_apart sort.Local e = absurd (false≢true e)
handle_apart sort.Index e = absurd (false≢true e)

module _ (s : Sources) (facts : AreFacts s) (right : IsNone (NameBreach s.units s.names)) where
  abbrev ds : List Declaration
  ds = declared_in s

  home_of : (a : DeclaredAction) (at : IsActionAt s.units a) (d : Declaration) → d.inside ≡ Some a.name.place → home ds d ≡ Some at.component
  home_of a at d e = ap (λ (o : Option Place). option_and_then component_of (option_and_then (declared_at ds) o)) e ∙ ap (option_and_then component_of) (at_place s facts right (action_declared at.component at.base a.name) at.itself)

  abbrev HasAction : Declaration → Type 0
  HasAction d = (t : Declaration) × (type_of ds d ≡ Some t) × (is_action t.sort ≡ true)

  pub handle_typed : (d : Declaration) → In d ds → is_handle d.sort ≡ true → HasAction d
  handle_typed d there is = by (standing s.units d there)
    where
      in_part : (a : DeclaredAction) (part : ActionPartTree) → IsActionAt s.units a → In part a.parts → PartDeclares a.name.place d part → HasAction d
      in_part a _ at among (AField field p inside e) = absurd ((handle_apart d.sort is).1 (field_is_field a.name.place p d e))
      in_part a _ at among (AReference word place object names semicolon name e) = absurd (false≢true (sym (ap (λ (x : Declaration). is_handle x.sort) e) ∙ is))
      in_part a _ at among (AClaim word place object names semicolon name e) = absurd (false≢true (sym (ap (λ (x : Declaration). is_handle x.sort) e) ∙ is))
      in_part a _ at among (AHandle of names semicolon name e) =
          subst HasAction (sym e) (typed_by s facts right (Some at.component) AnAction of (member a.name.place (sort.Handle of) name)
          (at.used (ActionPartMembers (MakeMembers of names semicolon)) among (NamesType (Some at.component) AnAction of) (inl refl))
          (home_of a at (member a.name.place (sort.Handle of) name) refl) refl (λ so. refl))
      in_part a part at among (AnOther _ other) = absurd ((handle_apart d.sort is).0 other)

      by : IsStanding s.units d → HasAction d
      by (AsAction component a at among same inside action) = absurd (action_is_no is_handle (λ base. refl) d.sort action is)
      by (AsPool component p object at among same e used sized) = absurd (false≢true (sym (ap (λ (x : Declaration). is_handle x.sort) e) ∙ is))
      by (InAction a part among at has) = in_part a part (action_stands s.units a among) at (part_declares a.name.place part d has)
      by (InObject o part among at has) = absurd (object_part_none is_handle handle_apart o.name.place part d has is)
      by (Otherwise other) = absurd ((handle_apart d.sort is).0 other)

  module _ (domains : List (List Span)) (d : Declaration) where
    abbrev IsThere : ℕ → Type 0
    IsThere type = type < length (model_actions s domains)

    handle_there : (h : Declaration) → In h (handles_of ds d) → IsThere (option_map_or (action_number ds) (type_of ds h) 0)
    handle_there h here =
        let m = member_declared is_handle ds d h here in
        let a = handle_typed h m.0 m.1 in
        subst (λ (o : Option Declaration). IsThere (option_map_or (action_number ds) o 0)) (sym a.1)
        (slice_get_within (model_actions s domains) (action_number ds a.0) (model_action s domains a.0) (action_numbered s facts domains a.0 (type_declared ds h a.0 a.1) a.2))

    its_handles : (o : Option Content) (activity : ActivityTree) → content s d o ≡ Compound activity → activity.handles ≡ handle_types ds d
    its_handles None activity e = let never : ⊥ = cc in absurd never
    its_handles (Some (Body action body)) activity e = let never : ⊥ = cc in absurd never
    its_handles (Some (Activity action (MakeActivity word left statements close))) activity e = sym (ap model_handles e)

    pub handles_there : (activity : ActivityTree) → content s d (content_of s.units d) ≡ Compound activity → All IsThere activity.handles
    handles_there activity e =
        subst (All IsThere) (sym (its_handles (content_of s.units d) activity e))
        (All-map IsThere (λ h. option_map_or (action_number ds) (type_of ds h) 0) (handles_of ds d) (all_in (λ h. IsThere (option_map_or (action_number ds) (type_of ds h) 0)) (handles_of ds d) handle_there))

pub handles_sound : (units : List UnitTree) (names : List (List ℕ)) (model : ModelTree) → HaveOwnPlaces (declarations units) → IsNone (NameBreach units names) → IsNone (TypeBreach units names) → IsModel units names model
    → All (λ action. (activity : ActivityTree) → action.content ≡ Compound activity → All (λ type. type < length model.actions) activity.handles) model.actions
handles_sound units names model own right kept is =
    let s = sources units names is.constants in
    let facts = facts_of units names is.constants is.are_constants kept own in
    subst (λ (m : ModelTree). All (λ action. (activity : ActivityTree) → action.content ≡ Compound activity → All (λ type. type < length m.actions) activity.handles) m.actions) (sym is.is)
    (All-map (λ action. (activity : ActivityTree) → action.content ≡ Compound activity → All (λ type. type < length (model_actions s is.domains)) activity.handles) (model_action s is.domains) (those_that is_action (declared_in s))
    (all_in (λ d. (activity : ActivityTree) → content s d (content_of units d) ≡ Compound activity → All (λ type. type < length (model_actions s is.domains)) activity.handles) (those_that is_action (declared_in s))
    (λ d there. handles_there s facts right is.domains d)))
