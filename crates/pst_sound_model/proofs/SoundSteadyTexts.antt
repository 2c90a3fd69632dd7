-- Where the activity of an action stands, and that it is the one by the rules.
use Rattle.std.proofs.Common.{◌≡◌, inl, inr, refl, sym, ap, ◌∙◌}
use Rattle.std.specs.Prelude.{List, [], ◌∷◌, ◌++◌, Option, Some, None}
use Rattle.std.specs.List.{filter_map, flat_map}
use Rattle.std.specs.Option.{option_map, option_or, option_and_then}
use Rattle.std.proofs.lemmas.Option.{none-some, same_Some}
use Rattle.pst_base.specs.declared.position.Place.{Place}
use Rattle.pst_ast.specs.ActivityTree.{StatementTree, ActivityTree, MakeActivity}
use Rattle.pst_ast.specs.BodyTree.{BodyTree}
use Rattle.pst_ast.specs.DeclarationTree.{UnitTree, ActionPartTree, ActionPartField, ActionPartReference, ActionPartClaim, ActionPartMembers, ActionPartConstraint, ActionPartActivity, ActionPartBody, ActionPartEmpty}
use Rattle.pst_ast.specs.declared.scope_declaration.Declaration.{Declaration}
use Rattle.pst_ast.specs.Declarations.{declarations}
use Rattle.pst_ast.specs.Lookups.{base_of}
use Rattle.pst_ast.specs.NameRules.{Reaches}
use Rattle.pst_type_rules.specs.Members.{activities_in, bodies_in, IsCompound, Own, Inherited}
use Rattle.pst_type_rules.specs.Sites.{DeclaredAction, action_at}
use Rattle.pst_tree.specs.Bases.{with_bases}
use Rattle.pst_tree.specs.Contents.{Content, Activity, Body, activity_in, body_in, first_of, content_in, own_content, last_content, content_of}
use Rattle.pst_tree.proofs.InheritedDeclared.{base_there}
use Rattle.pst_sound_model.proofs.Members.{In, in_get}
use Rattle.pst_sound_model.proofs.Chains.{bases_alone, bases_behind}

-- ---- where it stands

-- the activity in the own text of an action
pub record IsTextOf (units : List UnitTree) (owner : Declaration) (activity : ActivityTree) : Type 0 where
  pub action : DeclaredAction
  pub found : action_at units owner.name.place ≡ Some action
  pub among : In (ActionPartActivity activity) action.parts
  pub own : own_content units owner ≡ Some (Activity owner activity)

first_among : (parts : List ActionPartTree) (activity : ActivityTree) → first_of (filter_map activity_in parts) ≡ Some activity → In (ActionPartActivity activity) parts
first_among [] activity e = absurd (none-some activity e)
first_among (ActionPartField field ∷ more) activity e = inr (first_among more activity e)
first_among (ActionPartReference reference ∷ more) activity e = inr (first_among more activity e)
first_among (ActionPartClaim claim ∷ more) activity e = inr (first_among more activity e)
first_among (ActionPartMembers members ∷ more) activity e = inr (first_among more activity e)
first_among (ActionPartConstraint constraint ∷ more) activity e = inr (first_among more activity e)
first_among (ActionPartActivity found ∷ more) activity e = inl (ap ActionPartActivity (same_Some found activity e))
first_among (ActionPartBody body ∷ more) activity e = inr (first_among more activity e)
first_among (ActionPartEmpty place ∷ more) activity e = inr (first_among more activity e)

no_body : (d owner : Declaration) (body : BodyTree) (activity : ActivityTree) → Some (Body d body) ≡ Some (Activity owner activity) → ⊥
no_body d owner body activity e = cc

same_owner : (d owner : Declaration) (one two : ActivityTree) → Some (Activity d one) ≡ Some (Activity owner two) → d ≡ owner
same_owner d owner one two e = cc

same_activity : (d owner : Declaration) (one two : ActivityTree) → Some (Activity d one) ≡ Some (Activity owner two) → one ≡ two
same_activity d owner one two e = cc

module _ (units : List UnitTree) where
  own_text : (d owner : Declaration) (activity : ActivityTree) → own_content units d ≡ Some (Activity owner activity) → (d ≡ owner) × IsTextOf units owner activity
  own_text d owner activity whole = by (action_at units d.name.place) refl whole
    where
      in_it : (a : DeclaredAction) → action_at units d.name.place ≡ Some a → (o : Option ActivityTree) → first_of (filter_map activity_in a.parts) ≡ o → (b : Option BodyTree)
          → option_or (option_map (Activity d) o) (option_map (Body d) b) ≡ Some (Activity owner activity) → (d ≡ owner) × IsTextOf units owner activity
      in_it a at None had None e = absurd (none-some (Activity owner activity) e)
      in_it a at None had (Some body) e = absurd (no_body d owner body activity e)
      in_it a at (Some found) had b e =
          let same = same_owner d owner found activity e in
          (same, record { action = a; found = sym (ap (λ (x : Declaration). action_at units x.name.place) same) ∙ at; among = first_among a.parts activity (had ∙ ap (λ (x : ActivityTree). Some x) (same_activity d owner found activity e)); own = sym (ap (own_content units) same) ∙ whole })

      by : (o : Option DeclaredAction) → action_at units d.name.place ≡ o → option_and_then (content_in d) o ≡ Some (Activity owner activity) → (d ≡ owner) × IsTextOf units owner activity
      by None at e = absurd (none-some (Activity owner activity) e)
      by (Some a) at e = in_it a at (first_of (filter_map activity_in a.parts)) refl (first_of (filter_map body_in a.parts)) e

  last_text : (xs : List Declaration) (owner : Declaration) (activity : ActivityTree) → last_content units xs ≡ Some (Activity owner activity) → In owner xs × IsTextOf units owner activity
  last_text [] owner activity e = absurd (none-some (Activity owner activity) e)
  last_text (d ∷ more) owner activity e = by (last_content units more) refl e (last_text more owner activity)
    where
      by : (o : Option Content) → last_content units more ≡ o → option_or o (own_content units d) ≡ Some (Activity owner activity) → (last_content units more ≡ Some (Activity owner activity) → In owner more × IsTextOf units owner activity)
          → In owner (d ∷ more) × IsTextOf units owner activity
      by None had e on = let r = own_text d owner activity e in (inl r.0, r.1)
      by (Some c) had e on = let r = on (had ∙ e) in (inr r.0, r.1)

  -- the activity of an action is in the own text of it or of one of its bases
  pub content_stands : (d owner : Declaration) (activity : ActivityTree) → content_of units d ≡ Some (Activity owner activity) → In owner (with_bases (declarations units) d) × IsTextOf units owner activity
  content_stands d owner activity e = last_text (with_bases (declarations units) d) owner activity e

  -- ---- by the rules

  first_statements : (parts : List ActionPartTree) (statements : List StatementTree) (more : List (List StatementTree)) → flat_map activities_in parts ≡ statements ∷ more
      → (word : Place) × (left : Place) × (right : Place) × (first_of (filter_map activity_in parts) ≡ Some (MakeActivity word left statements right))
  first_statements [] statements more e = let never : ⊥ = cc in absurd never
  first_statements (ActionPartField field ∷ rest) statements more e = first_statements rest statements more e
  first_statements (ActionPartReference reference ∷ rest) statements more e = first_statements rest statements more e
  first_statements (ActionPartClaim claim ∷ rest) statements more e = first_statements rest statements more e
  first_statements (ActionPartMembers members ∷ rest) statements more e = first_statements rest statements more e
  first_statements (ActionPartConstraint constraint ∷ rest) statements more e = first_statements rest statements more e
  first_statements (ActionPartActivity (MakeActivity word left found right) ∷ rest) statements more e =
      let same : found ≡ statements = cc in (word, left, right, ap (λ (x : List StatementTree). Some (MakeActivity word left x right)) same)
  first_statements (ActionPartBody body ∷ rest) statements more e = first_statements rest statements more e
  first_statements (ActionPartEmpty place ∷ rest) statements more e = first_statements rest statements more e

  no_activity : (parts : List ActionPartTree) → flat_map activities_in parts ≡ [] → first_of (filter_map activity_in parts) ≡ None
  no_activity [] e = refl
  no_activity (ActionPartField field ∷ more) e = no_activity more e
  no_activity (ActionPartReference reference ∷ more) e = no_activity more e
  no_activity (ActionPartClaim claim ∷ more) e = no_activity more e
  no_activity (ActionPartMembers members ∷ more) e = no_activity more e
  no_activity (ActionPartConstraint constraint ∷ more) e = no_activity more e
  no_activity (ActionPartActivity (MakeActivity word left found right) ∷ more) e = let never : ⊥ = cc in absurd never
  no_activity (ActionPartBody body ∷ more) e = no_activity more e
  no_activity (ActionPartEmpty place ∷ more) e = no_activity more e

  without_body : (parts : List ActionPartTree) → flat_map bodies_in parts ≡ [] → first_of (filter_map body_in parts) ≡ None
  without_body [] e = refl
  without_body (ActionPartField field ∷ more) e = without_body more e
  without_body (ActionPartReference reference ∷ more) e = without_body more e
  without_body (ActionPartClaim claim ∷ more) e = without_body more e
  without_body (ActionPartMembers members ∷ more) e = without_body more e
  without_body (ActionPartConstraint constraint ∷ more) e = without_body more e
  without_body (ActionPartActivity activity ∷ more) e = without_body more e
  without_body (ActionPartBody body ∷ more) e = let never : ⊥ = cc in absurd never
  without_body (ActionPartEmpty place ∷ more) e = without_body more e

  or_assoc : (a b c : Option Content) → option_or (option_or a b) c ≡ option_or a (option_or b c)
  or_assoc None b c = refl
  or_assoc (Some x) b c = refl

  or_nothing : (a : Option Content) → a ≡ option_or a None
  or_nothing None = refl
  or_nothing (Some x) = refl

  last_of : (xs : List Declaration) (d : Declaration) → last_content units (xs ++ d ∷ []) ≡ option_or (own_content units d) (last_content units xs)
  last_of [] d = or_nothing (own_content units d)
  last_of (x ∷ xs) d = ap (λ (o : Option Content). option_or o (own_content units x)) (last_of xs d) ∙ or_assoc (own_content units d) (last_content units xs) (own_content units x)

  module _ (never : (d : Declaration) → In d (declarations units) → Reaches (declarations units) d d → ⊥) where
    abbrev ds : List Declaration
    ds = declarations units

    content_by : (d : Declaration) → In d ds → (o : Option Declaration) → base_of ds d ≡ o → (rest : Option Content) × (content_of units d ≡ option_or (own_content units d) rest) × ((b : Declaration) → o ≡ Some b → rest ≡ content_of units b)
    content_by d there None is = (None, ap (last_content units) (bases_alone ds never d there is) ∙ last_of [] d, λ b e. absurd (none-some b e))
    content_by d there (Some b) is =
        (content_of units b, ap (last_content units) (bases_behind ds never d b there is) ∙ last_of (with_bases ds b) d, λ c e. ap (content_of units) (same_Some b c e))

    -- an activity of its own is its content
    pub own_content_is : (d : Declaration) (activity : ActivityTree) → In d ds → own_content units d ≡ Some (Activity d activity) → content_of units d ≡ Some (Activity d activity)
    own_content_is d activity there own = let c = content_by d there (base_of ds d) refl in c.1 ∙ ap (λ (o : Option Content). option_or o c.0) own

    -- the activity that an action has by the rules is its content
    pub compound_content : (d : Declaration) (statements : List StatementTree) → In d ds → IsCompound units d statements → (owner : Declaration) × (word : Place) × (left : Place) × (right : Place) × (content_of units d ≡ Some (Activity owner (MakeActivity word left statements right)))
    compound_content _ _ there (Own d a statements more at e) =
        let f = first_statements a.parts statements more e in
        let c = content_by d there (base_of ds d) refl in
        let own : own_content units d ≡ Some (Activity d (MakeActivity f.0 f.1 statements f.2)) =
        ap (option_and_then (content_in d)) at ∙ ap (λ (o : Option ActivityTree). option_or (option_map (Activity d) o) (option_map (Body d) (first_of (filter_map body_in a.parts)))) f.3 in
        (d, f.0, f.1, f.2, c.1 ∙ ap (λ (o : Option Content). option_or o c.0) own)
    compound_content _ _ there (Inherited d base a statements at none also is rest) =
        let t = base_there ds d base is in
        let r = compound_content base statements (in_get ds t.0 base t.1) rest in
        let c = content_by d there (base_of ds d) refl in
        let own : own_content units d ≡ None =
        ap (option_and_then (content_in d)) at ∙ (λ i. option_or (option_map (Activity d) (no_activity a.parts none i)) (option_map (Body d) (without_body a.parts also i))) in
        (r.0, r.1, r.2, r.3, c.1 ∙ (ap (λ (o : Option Content). option_or o c.0) own ∙ (c.2 base is ∙ r.4)))
