-- Actions have few references and claims, and none where they have an activity.
use Rattle.std.proofs.Common.{◌≡◌, ◌⊎◌, ◌<◌, ◌≤◌, inl, inr, refl, sym, ap, subst, arith, ◌∙◌}
use Rattle.std.specs.Prelude.{ℕ, zero, suc, Bool, true, List, [], ◌∷◌, ◌++◌, map, length, All, Option, Some, None, option_and_then}
use Rattle.std.specs.List.{filter_map, flat_map}
use Rattle.std.specs.Option.{option_or, option_map}
use Rattle.std.proofs.lemmas.Bool.{false≢true, cases_lt}
use Rattle.std.proofs.lemmas.List.{length-map, append-nil}
use Rattle.std.proofs.lemmas.List.Elements.{All-map}
use Rattle.std.proofs.lemmas.Grind.{flat_map-append}
use Rattle.std.proofs.lemmas.Option.{none-some}
use Rattle.pst_base.specs.declared.position.Place.{Place}
use Rattle.pst_ast.specs.ActivityTree.{ActivityTree as ActivityText, MakeActivity, StatementTree}
use Rattle.pst_ast.specs.BodyTree.{BodyTree}
use Rattle.pst_ast.specs.DeclarationTree.{UnitTree, ActionPartTree, ActionPartField, ActionPartReference, ActionPartClaim, ActionPartMembers, ActionPartConstraint, ActionPartActivity, ActionPartBody, ActionPartEmpty}
use Rattle.pst_expr.specs.declared.ranges.Span.{Span}
use Rattle.pst_model.specs.ActivityTree.{ActivityTree}
use Rattle.pst_model.specs.Limits.{most_references, most_claims}
use Rattle.pst_model.specs.ModelTree.{Compound, ModelTree}
use Rattle.pst_ast.specs.Breaches.{IsNone}
use Rattle.pst_ast.specs.declared.scope_declaration.Declaration.{Declaration}
use Rattle.pst_ast.specs.declared.scope_declaration.Sort.{Sort}
use Rattle.pst_ast.specs.declared.scope_declaration.Sort.TheVariants as sort
use Rattle.pst_ast.specs.Declarations.{declarations}
use Rattle.pst_ast.specs.NameRules.{NameBreach}
use Rattle.pst_ast.specs.Sorts.{is_action, is_reference, is_claim, is_need}
use Rattle.pst_type_rules.specs.declared.typed.ConstantValue.{ConstantValue}
use Rattle.pst_type_rules.specs.Limits.{IsLimited, References, Claims}
use Rattle.pst_type_rules.specs.Members.{those_that, own_members, AreMembers, WithoutBase, WithBase, activities_in, bodies_in, activities_of, bodies_of, IsCompound, Own, Inherited}
use Rattle.pst_type_rules.specs.Sites.{DeclaredAction, action_at}
use Rattle.pst_type_rules.specs.TypeRules.{TypeBreach, OfDeclaration, TooMany, CompoundWithNeed}
use Rattle.pst_tree.specs.Bases.{with_bases, members, references_of, claims_of}
use Rattle.pst_tree.specs.Contents.{Content, Activity, Body, activity_in, body_in, first_of, content_in, own_content, last_content, content_of}
use Rattle.pst_tree.proofs.InheritedDeclared.{base_there}
use Rattle.pst_terms.specs.Sources.{Sources}
use Rattle.pst_elab_rules.specs.Model.{sources, IsModel}
use Rattle.pst_elab_rules.specs.Types.{reference, claim, compound, content, model_action}
use Rattle.pst_sound_model.proofs.Members.{In, in_get, to_contains}
use Rattle.pst_sound_model.proofs.Owned.{those_declared}
use Rattle.pst_sound_model.proofs.Chains.{HasEnd, ends, bases_alone, bases_behind}
use Rattle.pst_sound_model.proofs.ActionReadings.{base_is_action}
use Rattle.pst_sound_model.proofs.ActionsSound.{no_loops}
use Rattle.pst_sound_model.specs.SoundTypesLaws.{HasFewNeeds}
use Rattle.pst_sound_model.proofs.NeedsSound.{all_in}
use Rattle.pst_sound_model.proofs.Typed.{declared_action}

reference_needed : (so : Sort) → is_reference so ≡ true → is_need so ≡ true
reference_needed sort.Component e = absurd (false≢true e)
reference_needed (sort.Action base) e = absurd (false≢true e)
reference_needed (sort.Object word) e = absurd (false≢true e)
reference_needed sort.Enumeration e = absurd (false≢true e)
reference_needed sort.Function e = absurd (false≢true e)
reference_needed (sort.Instance of) e = absurd (false≢true e)
reference_needed (sort.Pool of) e = absurd (false≢true e)
reference_needed (sort.Item level) e = absurd (false≢true e)
reference_needed (sort.Field array) e = absurd (false≢true e)
reference_needed (sort.Reference of output) e = refl
reference_needed (sort.Claim of) e = absurd (false≢true e)
reference_needed (sort.Handle of) e = absurd (false≢true e)
reference_needed sort.Constraint e = absurd (false≢true e)
reference_needed sort.Parameter e = absurd (false≢true e)
reference_needed sort.Local e = absurd (false≢true e)
reference_needed sort.Index e = absurd (false≢true e)

claim_needed : (so : Sort) → is_claim so ≡ true → is_need so ≡ true
claim_needed sort.Component e = absurd (false≢true e)
claim_needed (sort.Action base) e = absurd (false≢true e)
claim_needed (sort.Object word) e = absurd (false≢true e)
claim_needed sort.Enumeration e = absurd (false≢true e)
claim_needed sort.Function e = absurd (false≢true e)
claim_needed (sort.Instance of) e = absurd (false≢true e)
claim_needed (sort.Pool of) e = absurd (false≢true e)
claim_needed (sort.Item level) e = absurd (false≢true e)
claim_needed (sort.Field array) e = absurd (false≢true e)
claim_needed (sort.Reference of output) e = absurd (false≢true e)
claim_needed (sort.Claim of) e = refl
claim_needed (sort.Handle of) e = absurd (false≢true e)
claim_needed sort.Constraint e = absurd (false≢true e)
claim_needed sort.Parameter e = absurd (false≢true e)
claim_needed sort.Local e = absurd (false≢true e)
claim_needed sort.Index e = absurd (false≢true e)

-- ---- lists that are too long

record IsSplit (xs : List Declaration) (k : ℕ) : Type 0 where
  front : List Declaration
  m : Declaration
  more : List Declaration
  is : xs ≡ front ++ m ∷ more
  long : length front ≡ k

split : (xs : List Declaration) (k : ℕ) → k < length xs → IsSplit xs k
split [] k less = absurd (omega (arith, less))
split (x ∷ xs) zero less = record { front = []; m = x; more = xs; is = refl; long = refl }
split (x ∷ xs) (suc k) less = let r = split xs k (omega (arith, less)) in record { front = x ∷ r.front; m = r.m; more = r.more; is = ap (λ (ys : List Declaration). x ∷ ys) r.is; long = ap suc r.long }

module _ (units : List UnitTree) (names : List (List ℕ)) (kept : IsNone (TypeBreach units names)) where
  pub few : (d : Declaration) → In d (declarations units) → (counted : List Declaration) (most : ℕ) → IsLimited (declarations units) d counted most → length counted ≤ most
  few d there counted most limited = by (cases_lt most (length counted))
    where
      by : (most < length counted) ⊎ (length counted ≤ most) → length counted ≤ most
      by (inr less) = less
      by (inl more) = let r = split counted most more in absurd (kept r.m.name.place 12 (OfDeclaration d r.m.name.place 12 (to_contains (declarations units) d there) (TooMany counted r.front r.more r.m most limited r.is r.long)))

module _ (units : List UnitTree) (names : List (List ℕ)) (right : IsNone (NameBreach units names)) (kept : IsNone (TypeBreach units names)) where
  abbrev ds : List Declaration
  ds = declarations units

  -- ---- the members by the rules

  pub are_members : (k : ℕ) (d : Declaration) → HasEnd ds k d → In d ds → AreMembers ds d (members ds d)
  are_members zero d end there = absurd end
  are_members (suc k) d (inl none) there =
      subst (AreMembers ds d) (sym (ap (flat_map (own_members ds)) (bases_alone ds (no_loops units names right) d there none) ∙ append-nil (own_members ds d))) (WithoutBase d none)
  are_members (suc k) d (inr r) there =
      let t = base_there ds d r.0 r.1 in
      subst (AreMembers ds d)
      (sym (ap (flat_map (own_members ds)) (bases_behind ds (no_loops units names right) d r.0 there r.1)
      ∙ (flat_map-append (own_members ds) (with_bases ds r.0) (d ∷ []) ∙ ap (λ (xs : List Declaration). members ds r.0 ++ xs) (append-nil (own_members ds d)))))
      (WithBase d r.0 (members ds r.0) r.1 (are_members k r.0 r.2 (in_get ds t.0 r.0 t.1)))

  pub its_members : (d : Declaration) → In d ds → AreMembers ds d (members ds d)
  its_members d there = are_members (length ds) d (ends ds (no_loops units names right) d there) there

  -- ---- activities

  or_assoc : (a b c : Option Content) → option_or (option_or a b) c ≡ option_or a (option_or b c)
  or_assoc None b c = refl
  or_assoc (Some x) b c = refl

  or_nothing : (a : Option Content) → a ≡ option_or a None
  or_nothing None = refl
  or_nothing (Some x) = refl

  last_of : (xs : List Declaration) (d : Declaration) → last_content units (xs ++ d ∷ []) ≡ option_or (own_content units d) (last_content units xs)
  last_of [] d = or_nothing (own_content units d)
  last_of (x ∷ xs) d = ap (λ (o : Option Content). option_or o (own_content units x)) (last_of xs d) ∙ or_assoc (own_content units d) (last_content units xs) (own_content units x)

  -- the first activity of some parts, and what none of them is
  first_activity : (parts : List ActionPartTree) (word left close : Place) (statements : List StatementTree) → first_of (filter_map activity_in parts) ≡ Some (MakeActivity word left statements close) → (more : List (List StatementTree)) × (flat_map activities_in parts ≡ statements ∷ more)
  first_activity [] word left close statements e = absurd (none-some _ e)
  first_activity (ActionPartField field ∷ more) word left close statements e = first_activity more word left close statements e
  first_activity (ActionPartReference reference ∷ more) word left close statements e = first_activity more word left close statements e
  first_activity (ActionPartClaim claim ∷ more) word left close statements e = first_activity more word left close statements e
  first_activity (ActionPartMembers members ∷ more) word left close statements e = first_activity more word left close statements e
  first_activity (ActionPartConstraint constraint ∷ more) word left close statements e = first_activity more word left close statements e
  first_activity (ActionPartActivity (MakeActivity w l found c) ∷ more) word left close statements e =
      let same : found ≡ statements = cc in (flat_map activities_in more, ap (λ (x : List StatementTree). x ∷ flat_map activities_in more) same)
  first_activity (ActionPartBody body ∷ more) word left close statements e = first_activity more word left close statements e
  first_activity (ActionPartEmpty place ∷ more) word left close statements e = first_activity more word left close statements e

  no_activity : (parts : List ActionPartTree) → first_of (filter_map activity_in parts) ≡ None → flat_map activities_in parts ≡ []
  no_activity [] e = refl
  no_activity (ActionPartField field ∷ more) e = no_activity more e
  no_activity (ActionPartReference reference ∷ more) e = no_activity more e
  no_activity (ActionPartClaim claim ∷ more) e = no_activity more e
  no_activity (ActionPartMembers members ∷ more) e = no_activity more e
  no_activity (ActionPartConstraint constraint ∷ more) e = no_activity more e
  no_activity (ActionPartActivity activity ∷ more) e = absurd (none-some activity (sym e))
  no_activity (ActionPartBody body ∷ more) e = no_activity more e
  no_activity (ActionPartEmpty place ∷ more) e = no_activity more e

  no_body : (parts : List ActionPartTree) → first_of (filter_map body_in parts) ≡ None → flat_map bodies_in parts ≡ []
  no_body [] e = refl
  no_body (ActionPartField field ∷ more) e = no_body more e
  no_body (ActionPartReference reference ∷ more) e = no_body more e
  no_body (ActionPartClaim claim ∷ more) e = no_body more e
  no_body (ActionPartMembers members ∷ more) e = no_body more e
  no_body (ActionPartConstraint constraint ∷ more) e = no_body more e
  no_body (ActionPartActivity activity ∷ more) e = no_body more e
  no_body (ActionPartBody body ∷ more) e = absurd (none-some body (sym e))
  no_body (ActionPartEmpty place ∷ more) e = no_body more e

  -- an action with an activity is compound by the rules
  compound_by : (d : Declaration) (a : DeclaredAction) → action_at units d.name.place ≡ Some a → (above : Option Content) (action : Declaration) (act : ActivityText) → option_or (own_content units d) above ≡ Some (Activity action act)
      → (activities_of a ≡ [] → bodies_of a ≡ [] → above ≡ Some (Activity action act) → (statements : List StatementTree) × IsCompound units d statements) → (statements : List StatementTree) × IsCompound units d statements
  compound_by d a at above action act e on = by (first_of (filter_map activity_in a.parts)) refl (first_of (filter_map body_in a.parts)) refl
      (sym (ap (λ (o : Option DeclaredAction). option_or (option_and_then (content_in d) o) above) at) ∙ e)
    where
      by : (o : Option ActivityText) → first_of (filter_map activity_in a.parts) ≡ o → (b : Option BodyTree) → first_of (filter_map body_in a.parts) ≡ b
          → option_or (option_or (option_map (Activity d) o) (option_map (Body d) b)) above ≡ Some (Activity action act) → (statements : List StatementTree) × IsCompound units d statements
      by (Some (MakeActivity word left statements close)) had b body e = let f = first_activity a.parts word left close statements had in (statements, Own d a statements f.0 at f.1)
      by None had (Some x) body e = let no_same : ⊥ = cc in absurd no_same
      by None had None body e = on (no_activity a.parts had) (no_body a.parts body) e

  pub compound_of : (k : ℕ) (d : Declaration) → HasEnd ds k d → In d ds → is_action d.sort ≡ true → (action : Declaration) (act : ActivityText) → last_content units (with_bases ds d) ≡ Some (Activity action act) → (statements : List StatementTree) × IsCompound units d statements
  compound_of zero d end there is action act e = absurd end
  compound_of (suc k) d (inl none) there is action act e =
      let a = declared_action units d there is in
      compound_by d a.action a.found None action act (sym (or_nothing (own_content units d)) ∙ (sym (ap (last_content units) (bases_alone ds (no_loops units names right) d there none)) ∙ e)) (λ x y z. absurd (none-some (Activity action act) z))
  compound_of (suc k) d (inr r) there is action act e =
      let a = declared_action units d there is in
      let t = base_there ds d r.0 r.1 in
      compound_by d a.action a.found (last_content units (with_bases ds r.0)) action act
      (sym (last_of (with_bases ds r.0) d) ∙ (sym (ap (last_content units) (bases_behind ds (no_loops units names right) d r.0 there r.1)) ∙ e))
      (λ x y z. let c = compound_of k r.0 r.2 (in_get ds t.0 r.0 t.1) (base_is_action ds d r.0 r.1) action act z in (c.0, Inherited d r.0 a.action c.0 a.found x y r.1 c.1))

  -- ---- in the model

  module _ (constants : List ConstantValue) (domains : List (List Span)) where
    abbrev s : Sources
    s = sources units names constants

    no_needs : (test : Sort → Bool) → ((so : Sort) → test so ≡ true → is_need so ≡ true) → (d : Declaration) → In d ds → (statements : List StatementTree) → IsCompound units d statements → those_that test (members ds d) ≡ []
    no_needs test wide d there statements compound = by (those_that test (members ds d)) refl
      where
        by : (xs : List Declaration) → those_that test (members ds d) ≡ xs → xs ≡ []
        by [] e = refl
        by (m ∷ more) e =
            let found = those_declared test (members ds d) m (subst (In m) (sym e) (inl refl)) in
            absurd (kept d.name.place 16 (OfDeclaration d d.name.place 16 (to_contains ds d there) (CompoundWithNeed statements (members ds d) m compound (its_members d there) (to_contains (members ds d) m found.0) (wide m.sort found.1))))

    is_compound : (d : Declaration) (o : Option Content) (activity : ActivityTree) → content s d o ≡ Compound activity → (action : Declaration) × (act : ActivityText) × (o ≡ Some (Activity action act))
    is_compound d None activity e = let no_same : ⊥ = cc in absurd no_same
    is_compound d (Some (Body action body)) activity e = let no_same : ⊥ = cc in absurd no_same
    is_compound d (Some (Activity action act)) activity e = (action, act, refl)

    pub few_needs : (d : Declaration) → In d ds → is_action d.sort ≡ true → HasFewNeeds (model_action s domains d)
    few_needs d there is =
        let members_are = its_members d there in
        let references = few units names kept d there (those_that is_reference (members ds d)) most_references (References (members ds d) members_are) in
        let claims = few units names kept d there (those_that is_claim (members ds d)) most_claims (Claims (members ds d) members_are) in
        record {
          few_references = omega (arith, references, length-map (references_of ds d) (reference ds));
          few_claims = omega (arith, claims, length-map (claims_of ds d) (claim units ds));
          compound = λ activity e.
              let a = is_compound d (content_of units d) activity e in
              let c = compound_of (length ds) d (ends ds (no_loops units names right) d there) there is a.0 a.1 a.2 in
              record { references = ap (map (reference ds)) (no_needs is_reference reference_needed d there c.0 c.1); claims = ap (map (claim units ds)) (no_needs is_claim claim_needed d there c.0 c.1) };
        }

pub needs_few : (units : List UnitTree) (names : List (List ℕ)) (model : ModelTree) → IsNone (NameBreach units names) → IsNone (TypeBreach units names) → IsModel units names model → All HasFewNeeds model.actions
needs_few units names model right kept is =
    subst (λ (m : ModelTree). All HasFewNeeds m.actions) (sym is.is)
    (All-map HasFewNeeds (model_action (sources units names is.constants) is.domains) (those_that is_action (declarations units))
    (all_in (λ d. HasFewNeeds (model_action (sources units names is.constants) is.domains d)) (those_that is_action (declarations units))
    (λ d there. let m = those_declared is_action (declarations units) d there in few_needs units names right kept is.constants is.domains d m.0 m.1)))
