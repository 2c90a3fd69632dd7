-- References are of flow objects, and claims of resources.
use Rattle.std.proofs.Common.{◌≡◌, ◌≢◌, refl, sym, ap, subst, ◌∙◌}
use Rattle.std.specs.Prelude.{ℕ, Bool, true, false, List, slice_get, get_or, All, Some}
use Rattle.std.proofs.lemmas.Bool.{false≢true}
use Rattle.std.proofs.lemmas.List.Elements.{All-map, Contains-get_or}
use Rattle.pst_ast.specs.declared.declaration.ObjectWord.TheVariants as word
use Rattle.pst_ast.specs.declared.shared.TypeName.{TypeName}
use Rattle.pst_ast.specs.DeclarationTree.{UnitTree}
use Rattle.pst_expr.specs.declared.ranges.Span.{Span}
use Rattle.pst_model.specs.declared.object.ObjectKind.TheVariants.{Resource}
use Rattle.pst_model.specs.ModelTree.{ModelTree}
use Rattle.pst_model.specs.Sound.{IsSoundReference, IsSoundClaim}
use Rattle.pst_ast.specs.Breaches.{IsNone}
use Rattle.pst_ast.specs.declared.scope_declaration.Declaration.{Declaration}
use Rattle.pst_ast.specs.declared.scope_declaration.Sort.{Sort}
use Rattle.pst_ast.specs.declared.scope_declaration.Sort.TheVariants as sort
use Rattle.pst_ast.specs.Declarations.{declarations}
use Rattle.pst_ast.specs.Lookups.{type_in, type_of}
use Rattle.pst_ast.specs.NameRules.{NameBreach}
use Rattle.pst_ast.specs.Sorts.{is_action, is_resource, is_reference, is_claim}
use Rattle.pst_type_rules.specs.Members.{those_that}
use Rattle.pst_type_rules.specs.TypeRules.{TypeBreach, OfDeclaration, ReferenceOfResource, ClaimOfNoResource}
use Rattle.pst_tree.specs.Bases.{references_of, claims_of}
use Rattle.pst_ast.specs.declared.instance.Instance.{Instance}
use Rattle.pst_terms.specs.Sources.{Sources, declared_in}
use Rattle.pst_elab_rules.specs.Model.{sources, model_by, IsModel}
use Rattle.pst_elab_rules.specs.Types.{object_of, reference, claim, kind_in, model_object, model_objects, model_action}
use Rattle.pst_sound_model.specs.SoundExpressionsConditions.{HaveOwnPlaces}
use Rattle.pst_sound_model.proofs.Members.{In, to_contains, from_contains}
use Rattle.pst_sound_model.proofs.Owned.{member_declared}
use Rattle.pst_sound_model.proofs.Facts.{AreFacts}
use Rattle.pst_sound_model.proofs.FactsOf.{facts_of}
use Rattle.pst_sound_model.proofs.ObjectReadings.{kind_resource}
use Rattle.pst_sound_model.proofs.ActionRows.{some_and, object_numbered, object_of_typed, type_declared}
use Rattle.pst_sound_model.specs.SoundTypesLaws.{HasSoundNeeds}
use Rattle.pst_sound_model.proofs.Typed.{reference_typed, claim_typed}

-- what holds of each element holds of all
pub all_in : {A : Type 0} (P : A → Type 0) (xs : List A) → ((x : A) → In x xs → P x) → All P xs
all_in P xs f = λ k d within. let c = Contains-get_or xs k d within in f (get_or xs k d) (from_contains xs (get_or xs k d) c.0 c.1 c.2)

resource_kind : (so : Sort) → kind_in so ≡ Resource → is_resource so ≡ true
resource_kind sort.Component e = absurd (cc)
resource_kind (sort.Action base) e = absurd (cc)
resource_kind (sort.Object word.Buffer) e = absurd (cc)
resource_kind (sort.Object word.Stream) e = absurd (cc)
resource_kind (sort.Object word.State) e = absurd (cc)
resource_kind (sort.Object word.Resource) e = refl
resource_kind sort.Enumeration e = absurd (cc)
resource_kind sort.Function e = absurd (cc)
resource_kind (sort.Instance of) e = absurd (cc)
resource_kind (sort.Pool of) e = absurd (cc)
resource_kind (sort.Item level) e = absurd (cc)
resource_kind (sort.Field array) e = absurd (cc)
resource_kind (sort.Reference of output) e = absurd (cc)
resource_kind (sort.Claim of) e = absurd (cc)
resource_kind (sort.Handle of) e = absurd (cc)
resource_kind sort.Constraint e = absurd (cc)
resource_kind sort.Parameter e = absurd (cc)
resource_kind sort.Local e = absurd (cc)
resource_kind sort.Index e = absurd (cc)

-- a member that has a type is declared with its name
type_name : (so : Sort) → is_reference so ≡ true → (name : TypeName) × (type_in so ≡ Some name)
type_name sort.Component e = absurd (false≢true e)
type_name (sort.Action base) e = absurd (false≢true e)
type_name (sort.Object word) e = absurd (false≢true e)
type_name sort.Enumeration e = absurd (false≢true e)
type_name sort.Function e = absurd (false≢true e)
type_name (sort.Instance of) e = absurd (false≢true e)
type_name (sort.Pool of) e = absurd (false≢true e)
type_name (sort.Item level) e = absurd (false≢true e)
type_name (sort.Field array) e = absurd (false≢true e)
type_name (sort.Reference of output) e = (of, refl)
type_name (sort.Claim of) e = absurd (false≢true e)
type_name (sort.Handle of) e = absurd (false≢true e)
type_name sort.Constraint e = absurd (false≢true e)
type_name sort.Parameter e = absurd (false≢true e)
type_name sort.Local e = absurd (false≢true e)
type_name sort.Index e = absurd (false≢true e)

claim_name : (so : Sort) → is_claim so ≡ true → (name : TypeName) × (type_in so ≡ Some name)
claim_name sort.Component e = absurd (false≢true e)
claim_name (sort.Action base) e = absurd (false≢true e)
claim_name (sort.Object word) e = absurd (false≢true e)
claim_name sort.Enumeration e = absurd (false≢true e)
claim_name sort.Function e = absurd (false≢true e)
claim_name (sort.Instance of) e = absurd (false≢true e)
claim_name (sort.Pool of) e = absurd (false≢true e)
claim_name (sort.Item level) e = absurd (false≢true e)
claim_name (sort.Field array) e = absurd (false≢true e)
claim_name (sort.Reference of output) e = absurd (false≢true e)
claim_name (sort.Claim of) e = (of, refl)
claim_name (sort.Handle of) e = absurd (false≢true e)
claim_name sort.Constraint e = absurd (false≢true e)
claim_name sort.Parameter e = absurd (false≢true e)
claim_name sort.Local e = absurd (false≢true e)
claim_name sort.Index e = absurd (false≢true e)

module _ (s : Sources) (facts : AreFacts s) (right : IsNone (NameBreach s.units s.names)) (kept : IsNone (TypeBreach s.units s.names)) (domains : List (List Span)) where
  abbrev ds : List Declaration
  ds = declared_in s

  reference_sound : (r : Declaration) → In r ds → is_reference r.sort ≡ true → IsSoundReference (model_objects s domains) (reference ds r)
  reference_sound r there is =
      let t = reference_typed s facts right r there is in
      let name = type_name r.sort is in
      some_and (slice_get (model_objects s domains) (object_of ds r)) (model_object s domains t.0) (λ object. object.kind ≢ Resource)
      (ap (slice_get (model_objects s domains)) (object_of_typed s facts domains r t.0 t.1) ∙ object_numbered s facts domains t.0 (type_declared ds r t.0 t.1) t.2)
      (λ e. kept name.0.first.place 15 (OfDeclaration r name.0.first.place 15 (to_contains ds r there) (ReferenceOfResource t.0 name.0 is name.1 t.1 (resource_kind t.0.sort e))))

  claim_sound : (c : Declaration) → In c ds → is_claim c.sort ≡ true → IsSoundClaim (model_objects s domains) (claim s.units ds c)
  claim_sound c there is =
      let t = claim_typed s facts right c there is in
      let name = claim_name c.sort is in
      some_and (slice_get (model_objects s domains) (object_of ds c)) (model_object s domains t.0) (λ object. object.kind ≡ Resource)
      (ap (slice_get (model_objects s domains)) (object_of_typed s facts domains c t.0 t.1) ∙ object_numbered s facts domains t.0 (type_declared ds c t.0 t.1) t.2)
      (by t.0 t.1 name (is_resource t.0.sort) refl)
    where
      by : (t : Declaration) → type_of ds c ≡ Some t → (name : TypeName) × (type_in c.sort ≡ Some name) → (b : Bool) → is_resource t.sort ≡ b → kind_in t.sort ≡ Resource
      by t typed name true e = kind_resource s t t.sort e
      by t typed name false e = absurd (kept name.0.first.place 15 (OfDeclaration c name.0.first.place 15 (to_contains ds c there) (ClaimOfNoResource t name.0 is name.1 typed e)))

  pub needs_sound : (instances : List Instance) (d : Declaration) → HasSoundNeeds (model_by s domains instances) (model_action s domains d)
  needs_sound instances d = record {
    references = All-map (IsSoundReference (model_objects s domains)) (reference ds) (references_of ds d)
        (all_in (λ r. IsSoundReference (model_objects s domains) (reference ds r)) (references_of ds d) (λ r there. let m = member_declared is_reference ds d r there in reference_sound r m.0 m.1));
    claims = All-map (IsSoundClaim (model_objects s domains)) (claim s.units ds) (claims_of ds d)
        (all_in (λ c. IsSoundClaim (model_objects s domains) (claim s.units ds c)) (claims_of ds d) (λ c there. let m = member_declared is_claim ds d c there in claim_sound c m.0 m.1));
  }

pub all_needs_sound : (units : List UnitTree) (names : List (List ℕ)) (model : ModelTree) → HaveOwnPlaces (declarations units) → IsNone (NameBreach units names) → IsNone (TypeBreach units names) → IsModel units names model
    → All (HasSoundNeeds model) model.actions
all_needs_sound units names model own right kept is =
    let s = sources units names is.constants in
    let facts = facts_of units names is.constants is.are_constants kept own in
    subst (λ (m : ModelTree). All (HasSoundNeeds m) m.actions) (sym is.is)
    (All-map (HasSoundNeeds (model_by s is.domains is.instances)) (model_action s is.domains) (those_that is_action (declared_in s))
    (all_in (λ d. HasSoundNeeds (model_by s is.domains is.instances) (model_action s is.domains d)) (those_that is_action (declared_in s)) (λ d there. needs_sound s facts right kept is.domains is.instances d)))
