-- The constraints of action types are sound.
use Rattle.std.proofs.Common.{◌≡◌, ◌<◌, inl, inr, refl, sym, ap, subst, ◌∙◌}
use Rattle.std.specs.Prelude.{ℕ, ◌+◌, Bool, true, false, not, List, [], ◌∷◌, map, All, Option, Some, None, is_some}
use Rattle.std.specs.List.{flat_map, filter_map}
use Rattle.std.specs.Option.{option_map_or}
use Rattle.std.proofs.lemmas.List.Elements.{All-nil, All-map, All-append}
use Rattle.std.proofs.lemmas.Option.{none-some, same_Some}
use Rattle.pst_base.specs.declared.position.Place.{Place}
use Rattle.pst_ast.specs.declared.leaf.Name.{Name}
use Rattle.pst_ast.specs.ExpressionTree.{PathTree, PathDotted, PathItem, PathLongItem}
use Rattle.pst_ast.specs.ConstraintTree.{ConstraintDeclarationTree}
use Rattle.pst_ast.specs.ActivityTree.{MakeActivity}
use Rattle.pst_ast.specs.DeclarationTree.{UnitTree, ActionPartTree, ActionPartField, ActionPartReference, ActionPartClaim, ActionPartMembers, ActionPartConstraint, ActionPartActivity, ActionPartBody, ActionPartEmpty}
use Rattle.pst_ast.specs.declared.instance.Instance.{Instance}
use Rattle.pst_expr.specs.declared.ranges.Span.{Span}
use Rattle.pst_model.specs.ConstraintTree.{ConstraintTree, SlotTree, Own, Object, First, ClaimId, ClaimField, Prev, IsFirst, Id, Index, Local, Through, Outer}
use Rattle.pst_model.specs.ModelTree.{ModelTree}
use Rattle.pst_model.specs.SoundConstraint.{IsSoundConstraint}
use Rattle.pst_model.specs.SoundSlots.{IsActionSlot, IsConstraintSlot, handle_type, handles_of as model_handles, activity_of}
use Rattle.pst_model.specs.Traversals as model
use Rattle.pst_ast.specs.Breaches.{IsNone}
use Rattle.pst_ast.specs.declared.scope_declaration.Declaration.{Declaration}
use Rattle.pst_ast.specs.declared.environment.Environment.{Environment}
use Rattle.pst_ast.specs.declared.referent.Owner.{Owner}
use Rattle.pst_ast.specs.declared.referent.Owner.TheVariants.{OfAction}
use Rattle.pst_ast.specs.declared.referent.Traversal.{Traversal}
use Rattle.pst_ast.specs.declared.referent.Referent.TheVariants.{Declared}
use Rattle.pst_ast.specs.declared.referent.PathPart.{PathPart}
use Rattle.pst_ast.specs.declared.referent.PathReferent.{PathReferent}
use Rattle.pst_ast.specs.declared.referent.Checked.{Checked}
use Rattle.pst_ast.specs.declared.referent.Checked.TheVariants.{Is, Breaks}
use Rattle.pst_ast.specs.Declarations.{action_declared, index, in_action_part, declarations}
use Rattle.pst_ast.specs.Lookups.{value_named, stands_for}
use Rattle.pst_ast.specs.NameRules.{NameBreach, Reaches, item_by}
use Rattle.pst_ast.specs.Paths.{is_value, read_path}
use Rattle.pst_ast.specs.Sorts.{is_action, is_handle, same_place}
use Rattle.pst_ast.specs.Uses.{Judges, Reads, Constrains, part_of, parts_of, path_uses, action_part_uses, environment}
use Rattle.pst_type_rules.specs.Handles.{mention, is_member_constraint, ByDerived}
use Rattle.pst_type_rules.specs.Members.{those_that}
use Rattle.pst_type_rules.specs.Sites.{DeclaredAction, actions, action_at}
use Rattle.pst_type_rules.specs.TypeRules.{TypeBreach}
use Rattle.pst_tree.specs.Bases.{with_bases, handle_number}
use Rattle.pst_tree.specs.Contents.{Content, Activity, Body, content_of}
use Rattle.pst_terms.specs.Sources.{Sources, declared_in}
use Rattle.pst_terms.specs.Terms.{Term}
use Rattle.pst_terms.specs.Slots.{constraint_of}
use Rattle.pst_terms.specs.Readings.{Setting, AtNumber, item_reading, owner_reading, checked_reading, reading_of}
use Rattle.pst_elab_rules.specs.Constraints.{with_turn, declaration_terms}
use Rattle.pst_elab_rules.specs.Model.{sources, model_by, IsModel}
use Rattle.pst_elab_rules.specs.Types.{setting_of, constraint_in, own_constraints, handle_types, content, model_action, model_objects}
use Rattle.pst_sound_model.specs.Blocks.{with_field}
use Rattle.pst_sound_model.specs.Used.{IsGood, AllBlocks}
use Rattle.pst_sound_model.specs.SoundExpressionsConditions.{HaveOwnPlaces}
use Rattle.pst_sound_model.proofs.Members.{In, in_find, to_contains}
use Rattle.pst_sound_model.proofs.Owned.{of_sort, member_is, those_declared}
use Rattle.pst_sound_model.proofs.TermsOf.{Each}
use Rattle.pst_sound_model.proofs.SetTerms.{IsUsed, declarations_blocks}
use Rattle.pst_sound_model.proofs.PathsRead.{path_of}
use Rattle.pst_sound_model.proofs.Meanings.{without_traversal}
use Rattle.pst_sound_model.proofs.Facts.{AreFacts}
use Rattle.pst_sound_model.proofs.FactsOf.{facts_of}
use Rattle.pst_sound_model.proofs.ObjectReadings.{AreNumbers}
use Rattle.pst_sound_model.proofs.Plain.{plain_reading, all_sound, in_filter_map, number_more}
use Rattle.pst_sound_model.proofs.Walks.{IsActionAt, action_stands}
use Rattle.pst_sound_model.proofs.ActionReadings.{IsActionRow, OfItself, OfHandle, action_path}
use Rattle.pst_sound_model.proofs.ActionRows.{own_slot, some_and}
use Rattle.pst_sound_model.proofs.ActionsSound.{all_lift, handle_numbered, no_loops}
use Rattle.pst_sound_model.proofs.RowsApart.{action_rows, row_derived}
use Rattle.pst_sound_model.proofs.NeedsSound.{all_in}
use Rattle.pst_sound_model.proofs.Named.{same_names}
use Rattle.pst_sound_model.proofs.Numbers.{named_member, among_derived}
use Rattle.pst_sound_model.proofs.Traversing.{IsText, text_more}
use Rattle.pst_sound_model.proofs.Judged.{derives_from, base_action, SteadyIn, judged_steady, path_mention, first_text}

none_once : ◌≡◌ {A = List Bool} [] (false ∷ []) → ⊥
none_once e = cc

all_flat : {X Y : Type 0} (P : Y → Type 0) (f : X → List Y) (xs : List X) → ((x : X) → In x xs → All P (f x)) → All P (flat_map f xs)
all_flat P f [] h = All-nil P
all_flat P f (x ∷ more) h = All-append P (f x) (flat_map f more) (h x (inl refl)) (all_flat P f more (λ y there. h y (inr there)))

module _ (s : Sources) (facts : AreFacts s) (own : HaveOwnPlaces (declarations s.units)) (right : IsNone (NameBreach s.units s.names)) (kept : IsNone (TypeBreach s.units s.names)) (never : (d : Declaration) → In d (declared_in s) → Reaches (declared_in s) d d → ⊥) where
  abbrev ds : List Declaration
  ds = declared_in s

  abbrev pub Steady : Declaration → Declaration → Type 0
  Steady x h = SteadyIn s facts own right kept never x h

  -- ---- slots

  module _ (domains : List (List Span)) (instances : List Instance) (x : Declaration) (there : In x ds) (is : is_action x.sort ≡ true) where
    abbrev model_of : ModelTree
    model_of = model_by s domains instances

    to_constraint : (slot : SlotTree) → IsActionSlot (model_objects s domains) (model_action s domains x) slot → IsConstraintSlot model_of (model_action s domains x) slot
    to_constraint (Own field) h = h
    to_constraint (Object r field) h = h
    to_constraint (First r) h = h
    to_constraint (ClaimId c) h = h
    to_constraint (ClaimField c field) h = h
    to_constraint (Prev field) h = h
    to_constraint IsFirst h = h
    to_constraint Id h = h
    to_constraint (Index level) h = h
    to_constraint (Local local) h = h
    to_constraint (Through handle slot) h = absurd h
    to_constraint (Outer slot) h = h

    -- an action whose activity traverses a handle has its handles
    compound_handles : (n : ℕ) (o : Option Content) → model.IsSteady n (activity_of (content s x o)) → model_handles (content s x o) ≡ handle_types ds x
    compound_handles n None e = absurd (none_once e)
    compound_handles n (Some (Body action body)) e = absurd (none_once e)
    compound_handles n (Some (Activity action (MakeActivity word left statements close))) e = refl

    pub constraint_slot : (slot : SlotTree) (first count k : ℕ) → IsActionRow s (Steady x) x slot first count → k < count → IsConstraintSlot model_of (model_action s domains x) (with_field slot (first + k))
    constraint_slot slot first count k (OfItself row) less = to_constraint (with_field slot (first + k)) (own_slot s facts domains x slot first count k row less)
    constraint_slot slot first count k (OfHandle h a inner here typed steady row e) less =
        subst (λ (z : SlotTree). IsConstraintSlot model_of (model_action s domains x) (with_field z (first + k))) (sym e) (
          steady,
          some_and (handle_type model_of (model_handles (content s x (content_of s.units x))) (handle_number ds x h)) (model_action s domains a) (λ traversed. IsActionSlot (model_objects s domains) traversed (with_field inner (first + k)))
              (ap (λ (hs : List ℕ). handle_type model_of hs (handle_number ds x h)) (compound_handles (handle_number ds x h) (content_of s.units x) steady) ∙ handle_numbered s facts domains instances never x there is h a here typed)
              (own_slot s facts domains a inner first count k row less),
        )

  -- ---- constraints in the text of a base

  module _ (x : Declaration) (x_there : In x ds) (x_is : is_action x.sort ≡ true) (base : Declaration) (has : In base (with_bases ds x)) (there : In base ds) (is : is_action base.sort ≡ true) where
    record IsRight (setting : Setting) : Type 0 where
      numbers : AreNumbers setting.turns
      text : IsText ds base setting.at

    steady : (at : Environment) → IsText ds base at → (p : PathPart) (ps : List PathPart) → IsUsed s.units Constrains at (Reads at p ps) → (h : Declaration) → stands_for ds s.names at p.name.id ≡ Some (Declared h) → is_handle h.sort ≡ true → Steady x h
    steady at text p ps u h e handle =
        let value : value_named ds s.names at p.name.id ≡ Some (Declared h) = sym (without_traversal ds s.names at p.name.id text.plain) ∙ e in
        let member = named_member s.units s.names own right base at p.name.id h text.owner text.indices value handle in
        judged_steady s facts own right kept never (Judges at Constrains u.expr) (mention at (is_member_constraint at) p.name) h x u.judged (path_mention s facts own right kept never at p ps u) e handle x_there x_is
        (ByDerived base x text.owner (ap (λ (t : Option Traversal). not (is_some t)) text.plain) (to_contains ds x x_there) (derives_from ds x base has))
        (among_derived s.units s.names own right never x base x_there has is_handle h (of_sort ds base p.name.id h is_handle member handle)) (same_names h.name.id p.name.id (member_is ds base p.name.id h member).named)

    good_item : (o : Option Declaration) → IsGood (IsActionRow s (Steady x) base) (item_reading s o)
    good_item None = tt
    good_item (Some d) = tt

    good : (setting : Setting) → IsRight setting → (path : PathTree) → Each (IsUsed s.units Constrains setting.at) (path_uses setting.at path) → IsGood (IsActionRow s (Steady x) base) (reading_of s setting path)
    unfolding reading_of
    good setting r (PathDotted first rest) all = by (read_path ds s.names setting.at is_value (part_of first) (parts_of rest)) refl
      where
        by : (c : Checked PathReferent) → read_path ds s.names setting.at is_value (part_of first) (parts_of rest) ≡ c → IsGood (IsActionRow s (Steady x) base) (checked_reading s setting (part_of first).name c)
        by (Is path) e =
            subst (IsGood (IsActionRow s (Steady x) base)) (sym (plain_reading s setting (part_of first).name path r.text.plain ∙ ap (λ (o : Owner). owner_reading s setting o path) r.text.owner))
            (action_path s facts base there is (Steady x) setting r.numbers r.text.indices r.text.owner r.text.plain (part_of first) path.before path.last (path_of ds s.names setting.at (part_of first) (parts_of rest) path e)
            (steady setting.at r.text (part_of first) (parts_of rest) (all (Reads setting.at (part_of first) (parts_of rest)) (inl refl))))
        by (Breaks place rule) e = tt
    good setting r (PathItem enum colons item) all = good_item (item_by ds setting.at.component None enum item)
    good setting r (PathLongItem component colons enum more_colons item) all = good_item (item_by ds setting.at.component (Some component) enum item)

    stays : (type : Place) (setting : Setting) (name : Name) (i : ℕ) → In (index type name) ds → IsRight setting → IsRight (with_turn setting name (AtNumber i))
    stays type setting name i itself r = record { numbers = number_more setting.turns name.place i r.numbers; text = text_more s facts type base setting.at name itself r.text }

    first : IsRight (setting_of base (OfAction base))
    first = record { numbers = λ y h. absurd h; text = first_text s facts own right kept never base }

    is_constraint : (part : ActionPartTree) (c : ConstraintDeclarationTree) → constraint_in part ≡ Some c → part ≡ ActionPartConstraint c
    is_constraint (ActionPartField field) c e = absurd (none-some c e)
    is_constraint (ActionPartReference reference) c e = absurd (none-some c e)
    is_constraint (ActionPartClaim claim) c e = absurd (none-some c e)
    is_constraint (ActionPartMembers members) c e = absurd (none-some c e)
    is_constraint (ActionPartConstraint constraint) c e = ap ActionPartConstraint (same_Some constraint c e)
    is_constraint (ActionPartActivity activity) c e = absurd (none-some c e)
    is_constraint (ActionPartBody body) c e = absurd (none-some c e)
    is_constraint (ActionPartEmpty place) c e = absurd (none-some c e)

    abbrev terms_in : DeclaredAction → List (Term SlotTree)
    terms_in a = flat_map (declaration_terms s (setting_of base (OfAction base))) (filter_map constraint_in a.parts)

    blocks_in : (a : DeclaredAction) → (at : IsActionAt s.units a) → action_declared at.component at.base a.name ≡ base → AllBlocks (IsActionRow s (Steady x) base) (terms_in a)
    blocks_in a at same =
        declarations_blocks (IsActionRow s (Steady x) base) s s.units ds a.name.place IsRight (stays a.name.place) good (setting_of base (OfAction base)) first (filter_map constraint_in a.parts)
        (λ c here u has.
        let part = in_filter_map constraint_in a.parts c here in
        let e = is_constraint part.0 c part.2 in
        at.used part.0 part.1 u (subst (λ (d : Declaration). In u (action_part_uses (environment d.inside (OfAction d)) part.0)) (sym same) (subst (λ (p : ActionPartTree). In u (action_part_uses (environment base.inside (OfAction base)) p)) (sym e) has)))
        (λ c here d has.
        let part = in_filter_map constraint_in a.parts c here in
        let e = is_constraint part.0 c part.2 in
        at.declared part.0 part.1 d (subst (λ (p : ActionPartTree). In d (in_action_part a.name.place p)) (sym e) has))

    module _ (domains : List (List Span)) (instances : List Instance) where
      abbrev Sound : List ConstraintTree → Type 0
      Sound constraints = All (IsSoundConstraint (IsConstraintSlot (model_by s domains instances) (model_action s domains x))) constraints

      terms_sound : (ts : List (Term SlotTree)) → AllBlocks (IsActionRow s (Steady x) base) ts → Sound (map constraint_of ts)
      terms_sound ts blocks =
          all_sound (IsConstraintSlot (model_by s domains instances) (model_action s domains x)) (IsActionRow s (Steady x) x)
          (action_rows s facts (Steady x) x (IsConstraintSlot (model_by s domains instances) (model_action s domains x)) (constraint_slot domains instances x x_there x_is)) ts
          (all_lift (IsActionRow s (Steady x) base) (IsActionRow s (Steady x) x) (row_derived s facts never x base x_there has (Steady x)) ts blocks)

      pub base_sound : Sound (own_constraints s base)
      unfolding action_at
      base_sound = by (action_at s.units base.name.place) refl
        where
          by : (o : Option DeclaredAction) → action_at s.units base.name.place ≡ o → Sound (option_map_or (λ a. map constraint_of (flat_map (declaration_terms s (setting_of base (OfAction base))) (filter_map constraint_in a.parts))) o [])
          by None e = All-nil (IsSoundConstraint (IsConstraintSlot (model_by s domains instances) (model_action s domains x)))
          by (Some a) e =
              let found = in_find (λ a. same_place a.name.place base.name.place) (actions s.units) a e in
              let at = action_stands s.units a found.0 in
              terms_sound (terms_in a) (blocks_in a at (facts.places base (action_declared at.component at.base a.name) there at.itself found.1))

  pub its_constraints : (domains : List (List Span)) (instances : List Instance) (x : Declaration) → In x ds → is_action x.sort ≡ true
      → All (IsSoundConstraint (IsConstraintSlot (model_by s domains instances) (model_action s domains x))) (flat_map (own_constraints s) (with_bases ds x))
  its_constraints domains instances x there is =
      all_flat (IsSoundConstraint (IsConstraintSlot (model_by s domains instances) (model_action s domains x))) (own_constraints s) (with_bases ds x)
      (λ base has. let b = base_action ds x base there is has in base_sound x there is base has b.0 b.1 domains instances)

pub constraints_sound : (units : List UnitTree) (names : List (List ℕ)) (model : ModelTree) → HaveOwnPlaces (declarations units) → IsNone (NameBreach units names) → IsNone (TypeBreach units names) → IsModel units names model
    → All (λ action. All (IsSoundConstraint (IsConstraintSlot model action)) action.constraints) model.actions
constraints_sound units names model own right kept is =
    let s = sources units names is.constants in
    let facts = facts_of units names is.constants is.are_constants kept own in
    subst (λ (m : ModelTree). All (λ action. All (IsSoundConstraint (IsConstraintSlot m action)) action.constraints) m.actions) (sym is.is)
    (All-map (λ action. All (IsSoundConstraint (IsConstraintSlot (model_by s is.domains is.instances) action)) action.constraints) (model_action s is.domains) (those_that is_action (declared_in s))
    (all_in (λ d. All (IsSoundConstraint (IsConstraintSlot (model_by s is.domains is.instances) (model_action s is.domains d))) (flat_map (own_constraints s) (with_bases (declared_in s) d))) (those_that is_action (declared_in s))
    (λ d there. let both = those_declared is_action (declared_in s) d there in its_constraints s facts own right kept (no_loops units names right) is.domains is.instances d both.0 both.1)))
