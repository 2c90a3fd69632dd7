-- References and claims have object types, pools too, and actions are found by their names.
use Rattle.std.proofs.Common.{◌≡◌, inl, refl, sym, ap, subst, ◌∙◌}
use Rattle.std.specs.Prelude.{ℕ, Bool, true, false, List, Option, Some, None, if◌then◌else◌, is_some, option_and_then}
use Rattle.std.specs.List.{find}
use Rattle.std.specs.Option.{option_or}
use Rattle.std.proofs.lemmas.Bool.{false≢true}
use Rattle.std.proofs.lemmas.Option.{none-some}
use Rattle.pst_base.specs.declared.position.Place.{Place}
use Rattle.pst_ast.specs.declared.leaf.Name.{Name}
use Rattle.pst_ast.specs.declared.shared.TypeName.{TypeName}
use Rattle.pst_ast.specs.declared.declaration.ReferenceWord.{ReferenceWord}
use Rattle.pst_ast.specs.declared.declaration.ClaimWord.{ClaimWord}
use Rattle.pst_ast.specs.ExpressionTree.{PartTree, MakePart}
use Rattle.pst_ast.specs.SharedTree.{NamesTree}
use Rattle.pst_ast.specs.DeclarationTree.{UnitTree, ActionPartTree, ActionPartField, ActionPartReference, ActionPartClaim, ActionPartMembers, ActionPartConstraint, ActionPartActivity, ActionPartBody, ActionPartEmpty, ObjectPartTree, ObjectPartField, ObjectPartConstraint, ObjectPartEmpty, FieldTree, MakeReference, MakeClaim, MakeMembers}
use Rattle.pst_ast.specs.Breaches.{IsNone}
use Rattle.pst_ast.specs.declared.scope_declaration.Declaration.{Declaration}
use Rattle.pst_ast.specs.declared.scope_declaration.Sort.{Sort}
use Rattle.pst_ast.specs.declared.scope_declaration.Sort.TheVariants as sort
use Rattle.pst_ast.specs.declared.referent.Finding.{Finding}
use Rattle.pst_ast.specs.Declarations.{member, action_declared, field_part, field_parts, is_output, names_of, in_action_part, in_object_part, declarations}
use Rattle.pst_ast.specs.Lookups.{declared_at, type_here, component_named, type_by, type_named, second_of, component_of, home, if_sort, type_in, is_type_for, type_of}
use Rattle.pst_ast.specs.NameRules.{unless, is_wanted, is_so, type_finding, use_finding, NameBreach, OfUse}
use Rattle.pst_ast.specs.Sorts.{is_action, is_object, is_pool, is_field, is_reference, is_claim, same_place}
use Rattle.pst_ast.specs.Uses.{Use, NamesType, Wanted, AnObject, uses}
use Rattle.pst_type_rules.specs.Sites.{DeclaredAction, actions, action_at}
use Rattle.pst_terms.specs.Sources.{Sources, declared_in}
use Rattle.pst_sound_model.proofs.Members.{In, in_find, none_found, in_map, to_contains}
use Rattle.pst_sound_model.proofs.Owned.{same_itself}
use Rattle.pst_sound_model.proofs.Facts.{AreFacts}
use Rattle.pst_sound_model.proofs.Walks.{IsActionAt, action_stands}
use Rattle.pst_sound_model.proofs.SoundTypesInside.{is_other, constraint_others, activity_others, body_others}
use Rattle.pst_sound_model.proofs.Standing.{IsComponentAt, IsStanding, AsAction, AsPool, InAction, InObject, Otherwise, standing}

-- what passes a test is found
pub some_found : {A : Type 0} (test : A → Bool) (xs : List A) (x : A) → In x xs → test x ≡ true → (y : A) × (find test xs ≡ Some y)
some_found test xs x there is = by (find test xs) refl
  where
    by : (o : Option _) → find test xs ≡ o → (y : _) × (find test xs ≡ Some y)
    by (Some y) e = (y, e)
    by None e = absurd (false≢true (sym (none_found test xs x e there) ∙ is))

-- ---- the rules of names

module _ (units : List UnitTree) (names : List (List ℕ)) (right : IsNone (NameBreach units names)) where
  pub nothing_found : (u : Use) → In u (uses units) → use_finding (declarations units) names u ≡ None
  nothing_found u there = by (use_finding (declarations units) names u) refl
    where
      by : (o : Option Finding) → use_finding (declarations units) names u ≡ o → o ≡ None
      by None e = refl
      by (Some f) e = absurd (right f.place f.rule (OfUse u f.place f.rule (to_contains (uses units) u there) e))

  unless_none : (good : Bool) (place : Place) (rule : ℕ) → unless good place rule ≡ None → good ≡ true
  unless_none true place rule e = refl
  unless_none false place rule e = absurd (none-some (record { place = place; rule = rule }) (sym e))

  so_found : (test : Sort → Bool) (o : Option Declaration) → is_so test o ≡ true → (t : Declaration) × (o ≡ Some t) × (test t.sort ≡ true)
  so_found test None e = absurd (false≢true e)
  so_found test (Some t) e = (t, refl, e)

  or_none : (a b : Option Finding) → option_or a b ≡ None → (a ≡ None) × (b ≡ None)
  or_none None b e = (refl, e)
  or_none (Some x) b e = absurd (none-some x (sym e))

  pub type_right : (component : Option Place) (wanted : Wanted) (name : TypeName) → In (NamesType component wanted name) (uses units) → (t : Declaration) × (type_named (declarations units) component name ≡ Some t) × (is_wanted wanted t.sort ≡ true)
  type_right component wanted name there = by (second_of name) (nothing_found (NamesType component wanted name) there)
    where
      by : (second : Option Name) → type_finding (declarations units) component (is_wanted wanted) name.first second ≡ None → (t : Declaration) × (type_by (declarations units) component name.first second ≡ Some t) × (is_wanted wanted t.sort ≡ true)
      by None e = so_found (is_wanted wanted) (type_here (declarations units) component name.first.id) (unless_none (is_so (is_wanted wanted) (type_here (declarations units) component name.first.id)) name.first.place 2 e)
      by (Some second) e =
          let both = or_none (unless (is_some (component_named (declarations units) component name.first)) name.first.place 2) (unless (is_so (is_wanted wanted) (type_by (declarations units) component name.first (Some second))) second.place 2) e in
          so_found (is_wanted wanted) (type_by (declarations units) component name.first (Some second)) (unless_none (is_so (is_wanted wanted) (type_by (declarations units) component name.first (Some second))) second.place 2 both.1)

-- ---- parts of actions and objects

pub data PartDeclares (type : Place) (d : Declaration) : ActionPartTree → Type 0 where
  AField : (field : FieldTree) (p : PartTree) → In p (field_parts field) → d ≡ field_part type p → PartDeclares type d (ActionPartField field)
  AReference : (word : ReferenceWord) (place : Place) (object : TypeName) (names : NamesTree) (semicolon : Place) (name : Name) → d ≡ member type (sort.Reference object (is_output word)) name
      → PartDeclares type d (ActionPartReference (MakeReference word place object names semicolon))
  AClaim : (word : ClaimWord) (place : Place) (object : TypeName) (names : NamesTree) (semicolon : Place) (name : Name) → d ≡ member type (sort.Claim object) name → PartDeclares type d (ActionPartClaim (MakeClaim word place object names semicolon))
  AHandle : (of : TypeName) (names : NamesTree) (semicolon : Place) (name : Name) → d ≡ member type (sort.Handle of) name → PartDeclares type d (ActionPartMembers (MakeMembers of names semicolon))
  AnOther : (part : ActionPartTree) → is_other d.sort ≡ true → PartDeclares type d part

pub part_declares : (type : Place) (part : ActionPartTree) (d : Declaration) → In d (in_action_part type part) → PartDeclares type d part
part_declares type (ActionPartField field) d there = let r = in_map (field_part type) (field_parts field) d there in AField field r.0 r.1 (sym r.2)
part_declares type (ActionPartReference (MakeReference word place object names semicolon)) d there =
    let r = in_map (member type (sort.Reference object (is_output word))) (names_of names) d there in AReference word place object names semicolon r.0 (sym r.2)
part_declares type (ActionPartClaim (MakeClaim word place object names semicolon)) d there = let r = in_map (member type (sort.Claim object)) (names_of names) d there in AClaim word place object names semicolon r.0 (sym r.2)
part_declares type (ActionPartMembers (MakeMembers of names semicolon)) d there = let r = in_map (member type (sort.Handle of)) (names_of names) d there in AHandle of names semicolon r.0 (sym r.2)
part_declares type (ActionPartConstraint constraint) d there = AnOther (ActionPartConstraint constraint) (constraint_others type constraint d there)
part_declares type (ActionPartActivity activity) d there = AnOther (ActionPartActivity activity) (activity_others type activity d there)
part_declares type (ActionPartBody body) d there = AnOther (ActionPartBody body) (body_others type body d there)
part_declares type (ActionPartEmpty place) d there = absurd there

field_sort : (type : Place) (p : PartTree) → is_field (field_part type p).sort ≡ true
field_sort type (MakePart name index) = refl

-- ---- what sorts exclude

-- one of the sorts that aren't others, and no field
abbrev pub is_apart : (Sort → Bool) → Type 0
is_apart test = (so : Sort) → test so ≡ true → (is_other so ≡ true → ⊥) × (is_field so ≡ true → ⊥)

pub object_part_none : (test : Sort → Bool) → is_apart test → (type : Place) (part : ObjectPartTree) (d : Declaration) → In d (in_object_part type part) → test d.sort ≡ true → ⊥
object_part_none test far type (ObjectPartField field) d there is =
    let r = in_map (field_part type) (field_parts field) d there in (far d.sort is).1 (subst (λ (x : Declaration). is_field x.sort ≡ true) r.2 (field_sort type r.0))
object_part_none test far type (ObjectPartConstraint constraint) d there is = (far d.sort is).0 (constraint_others type constraint d there)
object_part_none test far type (ObjectPartEmpty place) d there is = absurd there

reference_apart : is_apart is_reference
reference_apart sort.Component e = absurd (false≢true e)
reference_apart (sort.Action base) e = absurd (false≢true e)
reference_apart (sort.Object word) e = absurd (false≢true e)
reference_apart sort.Enumeration e = absurd (false≢true e)
reference_apart sort.Function e = absurd (false≢true e)
reference_apart (sort.Instance of) e = absurd (false≢true e)
reference_apart (sort.Pool of) e = absurd (false≢true e)
reference_apart (sort.Item level) e = absurd (false≢true e)
reference_apart (sort.Field array) e = absurd (false≢true e)
reference_apart (sort.Reference of output) e = (λ h. false≢true h, λ h. false≢true h)
reference_apart (sort.Claim of) e = absurd (false≢true e)
reference_apart (sort.Handle of) e = absurd (false≢true e)
reference_apart sort.Constraint e = absurd (false≢true e)
reference_apart sort.Parameter e = absurd (false≢true e)
reference_apart sort.Local e = absurd (false≢true e)
reference_apart sort.Index e = absurd (false≢true e)

claim_apart : is_apart is_claim
claim_apart sort.Component e = absurd (false≢true e)
claim_apart (sort.Action base) e = absurd (false≢true e)
claim_apart (sort.Object word) e = absurd (false≢true e)
claim_apart sort.Enumeration e = absurd (false≢true e)
claim_apart sort.Function e = absurd (false≢true e)
claim_apart (sort.Instance of) e = absurd (false≢true e)
claim_apart (sort.Pool of) e = absurd (false≢true e)
claim_apart (sort.Item level) e = absurd (false≢true e)
claim_apart (sort.Field array) e = absurd (false≢true e)
claim_apart (sort.Reference of output) e = absurd (false≢true e)
claim_apart (sort.Claim of) e = (λ h. false≢true h, λ h. false≢true h)
claim_apart (sort.Handle of) e = absurd (false≢true e)
claim_apart sort.Constraint e = absurd (false≢true e)
claim_apart sort.Parameter e = absurd (false≢true e)
claim_apart sort.Local e = absurd (false≢true e)
claim_apart sort.Index e = absurd (false≢true e)

action_apart : is_apart is_action
action_apart sort.Component e = absurd (false≢true e)
action_apart (sort.Action base) e = (λ h. false≢true h, λ h. false≢true h)
action_apart (sort.Object word) e = absurd (false≢true e)
action_apart sort.Enumeration e = absurd (false≢true e)
action_apart sort.Function e = absurd (false≢true e)
action_apart (sort.Instance of) e = absurd (false≢true e)
action_apart (sort.Pool of) e = absurd (false≢true e)
action_apart (sort.Item level) e = absurd (false≢true e)
action_apart (sort.Field array) e = absurd (false≢true e)
action_apart (sort.Reference of output) e = absurd (false≢true e)
action_apart (sort.Claim of) e = absurd (false≢true e)
action_apart (sort.Handle of) e = absurd (false≢true e)
action_apart sort.Constraint e = absurd (false≢true e)
action_apart sort.Parameter e = absurd (false≢true e)
action_apart sort.Local e = absurd (false≢true e)
action_apart sort.Index e = absurd (false≢true e)

pub pool_apart : is_apart is_pool
pool_apart sort.Component e = absurd (false≢true e)
pool_apart (sort.Action base) e = absurd (false≢true e)
pool_apart (sort.Object word) e = absurd (false≢true e)
pool_apart sort.Enumeration e = absurd (false≢true e)
pool_apart sort.Function e = absurd (false≢true e)
pool_apart (sort.Instance of) e = absurd (false≢true e)
pool_apart (sort.Pool of) e = (λ h. false≢true h, λ h. false≢true h)
pool_apart (sort.Item level) e = absurd (false≢true e)
pool_apart (sort.Field array) e = absurd (false≢true e)
pool_apart (sort.Reference of output) e = absurd (false≢true e)
pool_apart (sort.Claim of) e = absurd (false≢true e)
pool_apart (sort.Handle of) e = absurd (false≢true e)
pool_apart sort.Constraint e = absurd (false≢true e)
pool_apart sort.Parameter e = absurd (false≢true e)
pool_apart sort.Local e = absurd (false≢true e)
pool_apart sort.Index e = absurd (false≢true e)

-- an action is nothing else
pub action_is_no : (test : Sort → Bool) → ((base : _) → test (sort.Action base) ≡ false) → (so : Sort) → is_action so ≡ true → test so ≡ true → ⊥
action_is_no test never sort.Component a h = false≢true a
action_is_no test never (sort.Action base) a h = false≢true (sym (never base) ∙ h)
action_is_no test never (sort.Object word) a h = false≢true a
action_is_no test never sort.Enumeration a h = false≢true a
action_is_no test never sort.Function a h = false≢true a
action_is_no test never (sort.Instance of) a h = false≢true a
action_is_no test never (sort.Pool of) a h = false≢true a
action_is_no test never (sort.Item level) a h = false≢true a
action_is_no test never (sort.Field array) a h = false≢true a
action_is_no test never (sort.Reference of output) a h = false≢true a
action_is_no test never (sort.Claim of) a h = false≢true a
action_is_no test never (sort.Handle of) a h = false≢true a
action_is_no test never sort.Constraint a h = false≢true a
action_is_no test never sort.Parameter a h = false≢true a
action_is_no test never sort.Local a h = false≢true a
action_is_no test never sort.Index a h = false≢true a

pub field_is_field : (type : Place) (p : PartTree) (d : Declaration) → d ≡ field_part type p → is_field d.sort ≡ true
field_is_field type p d e = ap (λ (x : Declaration). is_field x.sort) e ∙ field_sort type p

-- ---- actions

-- the action in the sources, with its component
pub record IsDeclaredAction (units : List UnitTree) (d : Declaration) : Type 0 where
  pub component : Declaration
  pub is_component : IsComponentAt units component
  pub inside : d.inside ≡ Some component.name.place
  pub action : DeclaredAction
  pub found : action_at units d.name.place ≡ Some action

pub declared_action : (units : List UnitTree) (d : Declaration) → In d (declarations units) → is_action d.sort ≡ true → IsDeclaredAction units d
unfolding action_at
declared_action units d there is = by (standing units d there)
  where
    in_part : (type : Place) (part : ActionPartTree) → PartDeclares type d part → ⊥
    in_part type _ (AField field p at e) = (action_apart d.sort is).1 (field_is_field type p d e)
    in_part type _ (AReference word place object names semicolon name e) = absurd (false≢true (sym (ap (λ (x : Declaration). is_action x.sort) e) ∙ is))
    in_part type _ (AClaim word place object names semicolon name e) = absurd (false≢true (sym (ap (λ (x : Declaration). is_action x.sort) e) ∙ is))
    in_part type _ (AHandle of names semicolon name e) = absurd (false≢true (sym (ap (λ (x : Declaration). is_action x.sort) e) ∙ is))
    in_part type part (AnOther _ other) = (action_apart d.sort is).0 other

    by : IsStanding units d → IsDeclaredAction units d
    by (AsAction component a at among same inside action) =
        let f = some_found (λ a. same_place a.name.place d.name.place) (actions units) a among (ap (λ (n : Name). same_place n.place d.name.place) same ∙ same_itself d) in
        record { component = component; is_component = at; inside = inside; action = f.0; found = f.1 }
    by (AsPool component p object at among same e used sized) = absurd (false≢true (sym (ap (λ (x : Declaration). is_action x.sort) e) ∙ is))
    by (InAction a part among at has) = absurd (in_part a.name.place part (part_declares a.name.place part d has))
    by (InObject o part among at has) = absurd (object_part_none is_action action_apart o.name.place part d has is)
    by (Otherwise other) = absurd ((action_apart d.sort is).0 other)

-- ---- types of members

module _ (s : Sources) (facts : AreFacts s) (right : IsNone (NameBreach s.units s.names)) where
  abbrev ds : List Declaration
  ds = declared_in s

  -- what is declared at the place of a declaration
  pub at_place : (d : Declaration) → In d ds → declared_at ds d.name.place ≡ Some d
  unfolding declared_at
  at_place d there =
      let f = some_found (λ e. same_place e.name.place d.name.place) ds d there (same_itself d) in
      let found = in_find (λ e. same_place e.name.place d.name.place) ds f.0 f.1 in
      f.1 ∙ ap (λ (x : Declaration). Some x) (facts.places d f.0 there found.0 found.1)

  -- in the text of an action names are looked up in its component
  home_of : (a : DeclaredAction) (at : IsActionAt s.units a) (d : Declaration) → d.inside ≡ Some a.name.place → home ds d ≡ Some at.component
  home_of a at d e = ap (λ (o : Option Place). option_and_then component_of (option_and_then (declared_at ds) o)) e ∙ ap (option_and_then component_of) (at_place (action_declared at.component at.base a.name) at.itself)

  pub typed_by : (component : Option Place) (wanted : Wanted) (name : TypeName) (d : Declaration) → In (NamesType component wanted name) (uses s.units) → home ds d ≡ component → type_in d.sort ≡ Some name → ((so : Sort) → is_wanted wanted so ≡ is_type_for d.sort so)
      → (t : Declaration) × (type_of ds d ≡ Some t) × (is_wanted wanted t.sort ≡ true)
  unfolding type_of
  typed_by component wanted name d used at named same =
      let t = type_right s.units s.names right component wanted name used in (
        t.0,
        ap (λ (o : Option TypeName). option_and_then (if_sort (is_type_for d.sort)) (option_and_then (type_named ds (home ds d)) o)) named
            ∙ (ap (λ (c : Option Place). option_and_then (if_sort (is_type_for d.sort)) (type_named ds c name)) at
            ∙ (ap (option_and_then (if_sort (is_type_for d.sort))) t.1
            ∙ ap (λ (b : Bool). if b then Some t.0 else None) (sym (same t.0.sort) ∙ t.2))),
        t.2,
      )

  abbrev HasObject : Declaration → Type 0
  HasObject d = (t : Declaration) × (type_of ds d ≡ Some t) × (is_object t.sort ≡ true)

  pub reference_typed : (d : Declaration) → In d ds → is_reference d.sort ≡ true → HasObject d
  reference_typed d there is = by (standing s.units d there)
    where
      in_part : (a : DeclaredAction) (part : ActionPartTree) → IsActionAt s.units a → In part a.parts → PartDeclares a.name.place d part → HasObject d
      in_part a _ at among (AField field p inside e) = absurd ((reference_apart d.sort is).1 (field_is_field a.name.place p d e))
      in_part a _ at among (AReference word place object names semicolon name e) =
          subst HasObject (sym e) (typed_by (Some at.component) AnObject object (member a.name.place (sort.Reference object (is_output word)) name)
          (at.used (ActionPartReference (MakeReference word place object names semicolon)) among (NamesType (Some at.component) AnObject object) (inl refl))
          (home_of a at (member a.name.place (sort.Reference object (is_output word)) name) refl) refl (λ so. refl))
      in_part a _ at among (AClaim word place object names semicolon name e) = absurd (false≢true (sym (ap (λ (x : Declaration). is_reference x.sort) e) ∙ is))
      in_part a _ at among (AHandle of names semicolon name e) = absurd (false≢true (sym (ap (λ (x : Declaration). is_reference x.sort) e) ∙ is))
      in_part a part at among (AnOther _ other) = absurd ((reference_apart d.sort is).0 other)

      by : IsStanding s.units d → HasObject d
      by (AsAction component a at among same inside action) = absurd (action_is_no is_reference (λ base. refl) d.sort action is)
      by (AsPool component p object at among same e used sized) = absurd (false≢true (sym (ap (λ (x : Declaration). is_reference x.sort) e) ∙ is))
      by (InAction a part among at has) = in_part a part (action_stands s.units a among) at (part_declares a.name.place part d has)
      by (InObject o part among at has) = absurd (object_part_none is_reference reference_apart o.name.place part d has is)
      by (Otherwise other) = absurd ((reference_apart d.sort is).0 other)

  pub claim_typed : (d : Declaration) → In d ds → is_claim d.sort ≡ true → HasObject d
  claim_typed d there is = by (standing s.units d there)
    where
      in_part : (a : DeclaredAction) (part : ActionPartTree) → IsActionAt s.units a → In part a.parts → PartDeclares a.name.place d part → HasObject d
      in_part a _ at among (AField field p inside e) = absurd ((claim_apart d.sort is).1 (field_is_field a.name.place p d e))
      in_part a _ at among (AReference word place object names semicolon name e) = absurd (false≢true (sym (ap (λ (x : Declaration). is_claim x.sort) e) ∙ is))
      in_part a _ at among (AClaim word place object names semicolon name e) =
          subst HasObject (sym e) (typed_by (Some at.component) AnObject object (member a.name.place (sort.Claim object) name)
          (at.used (ActionPartClaim (MakeClaim word place object names semicolon)) among (NamesType (Some at.component) AnObject object) (inl refl))
          (home_of a at (member a.name.place (sort.Claim object) name) refl) refl (λ so. refl))
      in_part a _ at among (AHandle of names semicolon name e) = absurd (false≢true (sym (ap (λ (x : Declaration). is_claim x.sort) e) ∙ is))
      in_part a part at among (AnOther _ other) = absurd ((claim_apart d.sort is).0 other)

      by : IsStanding s.units d → HasObject d
      by (AsAction component a at among same inside action) = absurd (action_is_no is_claim (λ base. refl) d.sort action is)
      by (AsPool component p object at among same e used sized) = absurd (false≢true (sym (ap (λ (x : Declaration). is_claim x.sort) e) ∙ is))
      by (InAction a part among at has) = in_part a part (action_stands s.units a among) at (part_declares a.name.place part d has)
      by (InObject o part among at has) = absurd (object_part_none is_claim claim_apart o.name.place part d has is)
      by (Otherwise other) = absurd ((claim_apart d.sort is).0 other)
