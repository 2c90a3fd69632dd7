-- The constraints of object types are sound.
use Rattle.std.proofs.Common.{◌≡◌, refl, sym, ap, subst, ◌∙◌}
use Rattle.std.specs.Prelude.{ℕ, List, [], map, get_or, All, Option, Some, None}
use Rattle.std.specs.List.{flat_map, filter_map}
use Rattle.std.specs.Option.{option_map_or}
use Rattle.std.proofs.lemmas.List.Elements.{All-nil, All-map, Contains-get_or}
use Rattle.std.proofs.lemmas.Option.{none-some, same_Some}
use Rattle.pst_base.specs.declared.position.Place.{Place}
use Rattle.pst_ast.specs.declared.leaf.Name.{Name}
use Rattle.pst_ast.specs.ExpressionTree.{PathTree, PathDotted, PathItem, PathLongItem}
use Rattle.pst_ast.specs.ConstraintTree.{ConstraintDeclarationTree}
use Rattle.pst_ast.specs.DeclarationTree.{UnitTree, ObjectPartTree, ObjectPartField, ObjectPartConstraint, ObjectPartEmpty}
use Rattle.pst_expr.specs.declared.ranges.Span.{Span}
use Rattle.pst_model.specs.ConstraintTree.{ConstraintTree}
use Rattle.pst_model.specs.ModelTree.{ModelTree}
use Rattle.pst_model.specs.SoundConstraint.{IsSoundConstraint}
use Rattle.pst_model.specs.SoundSlots.{IsObjectSlot}
use Rattle.pst_ast.specs.Breaches.{IsNone}
use Rattle.pst_ast.specs.declared.scope_declaration.Declaration.{Declaration}
use Rattle.pst_ast.specs.declared.scope_declaration.Sort.TheVariants as sort
use Rattle.pst_ast.specs.declared.referent.Owner.{Owner}
use Rattle.pst_ast.specs.declared.referent.Owner.TheVariants.{OfObject}
use Rattle.pst_ast.specs.declared.referent.PathReferent.{PathReferent}
use Rattle.pst_ast.specs.declared.referent.Checked.{Checked}
use Rattle.pst_ast.specs.declared.referent.Checked.TheVariants.{Is, Breaks}
use Rattle.pst_ast.specs.Declarations.{type_declared, index, in_object_part, declarations}
use Rattle.pst_ast.specs.NameRules.{item_by}
use Rattle.pst_ast.specs.Paths.{is_value, read_path}
use Rattle.pst_ast.specs.Sorts.{is_object, same_place}
use Rattle.pst_ast.specs.Uses.{Constrains, part_of, parts_of, path_uses, object_part_uses, environment}
use Rattle.pst_type_rules.specs.Members.{those_that}
use Rattle.pst_type_rules.specs.Sites.{items_of}
use Rattle.pst_type_rules.specs.TypeRules.{TypeBreach}
use Rattle.pst_terms.specs.Sources.{Sources, declared_in}
use Rattle.pst_terms.specs.Readings.{Setting, AtNumber, item_reading, owner_reading, checked_reading, reading_of}
use Rattle.pst_terms.specs.Slots.{constraint_of}
use Rattle.pst_elab_rules.specs.Constraints.{with_turn, declaration_terms}
use Rattle.pst_elab_rules.specs.Model.{sources, IsModel}
use Rattle.pst_elab_rules.specs.Types.{DeclaredObject, setting_of, objects_in_item, object_at, object_constraint_in, object_constraints, model_object}
use Rattle.pst_sound_model.specs.Used.{IsGood}
use Rattle.pst_sound_model.specs.SoundExpressionsConditions.{HaveOwnPlaces}
use Rattle.pst_sound_model.proofs.Members.{In, in_find, from_contains}
use Rattle.pst_sound_model.proofs.Owned.{those_declared}
use Rattle.pst_sound_model.proofs.TermsOf.{Each}
use Rattle.pst_sound_model.proofs.SetTerms.{IsUsed, declarations_blocks}
use Rattle.pst_sound_model.proofs.PathsRead.{path_of}
use Rattle.pst_sound_model.proofs.Meanings.{AreIndices}
use Rattle.pst_sound_model.proofs.Facts.{AreFacts}
use Rattle.pst_sound_model.proofs.FactsOf.{facts_of}
use Rattle.pst_sound_model.proofs.ObjectReadings.{AreNumbers, IsObjectRow, object_rows, object_path}
use Rattle.pst_sound_model.proofs.Plain.{plain_reading, all_sound, in_filter_map, index_more, number_more}
use Rattle.pst_sound_model.proofs.Walks.{IsObjectAt, object_stands}

module _ (s : Sources) (facts : AreFacts s) (object : Declaration) where
  -- in the text of the object, within indices alone
  record IsRight (setting : Setting) : Type 0 where
    numbers : AreNumbers setting.turns
    indices : AreIndices (declared_in s) setting.at
    owner : setting.at.owner ≡ OfObject object
    plain : setting.at.traversal ≡ None

  good_item : (o : Option Declaration) → IsGood (IsObjectRow s object) (item_reading s o)
  good_item None = tt
  good_item (Some d) = tt

  good : (setting : Setting) → IsRight setting → (path : PathTree) → Each (IsUsed s.units Constrains setting.at) (path_uses setting.at path) → IsGood (IsObjectRow s object) (reading_of s setting path)
  unfolding reading_of
  good setting right (PathDotted first rest) all = by (read_path (declared_in s) s.names setting.at is_value (part_of first) (parts_of rest)) refl
    where
      by : (c : Checked PathReferent) → read_path (declared_in s) s.names setting.at is_value (part_of first) (parts_of rest) ≡ c → IsGood (IsObjectRow s object) (checked_reading s setting (part_of first).name c)
      by (Is path) e =
          subst (IsGood (IsObjectRow s object)) (sym (plain_reading s setting (part_of first).name path right.plain ∙ ap (λ (o : Owner). owner_reading s setting o path) right.owner))
          (object_path s object setting right.numbers right.indices right.owner right.plain (part_of first) path.before path.last (path_of (declared_in s) s.names setting.at (part_of first) (parts_of rest) path e))
      by (Breaks place rule) e = tt
  good setting right (PathItem enum colons item) all = good_item (item_by (declared_in s) setting.at.component None enum item)
  good setting right (PathLongItem component colons enum more_colons item) all = good_item (item_by (declared_in s) setting.at.component (Some component) enum item)

  stays : (type : Place) (setting : Setting) (name : Name) (i : ℕ) → In (index type name) (declared_in s) → IsRight setting → IsRight (with_turn setting name (AtNumber i))
  stays type setting name i itself right = record {
    numbers = number_more setting.turns name.place i right.numbers;
    indices = index_more s facts type setting.at name itself right.indices;
    owner = right.owner;
    plain = right.plain;
  }

  first : IsRight (setting_of object (OfObject object))
  first = record { numbers = λ x there. absurd there; indices = λ n there d e. absurd there; owner = refl; plain = refl }

  is_constraint : (part : ObjectPartTree) (c : ConstraintDeclarationTree) → object_constraint_in part ≡ Some c → part ≡ ObjectPartConstraint c
  is_constraint (ObjectPartField field) c e = absurd (none-some c e)
  is_constraint (ObjectPartConstraint constraint) c e = ap ObjectPartConstraint (same_Some constraint c e)
  is_constraint (ObjectPartEmpty place) c e = absurd (none-some c e)

  module _ (domains : List (List Span)) where
    abbrev Sound : List ConstraintTree → Type 0
    Sound constraints = All (IsSoundConstraint (IsObjectSlot (model_object s domains object))) constraints

    of_object : (o : DeclaredObject) → (at : IsObjectAt s.units o) → type_declared at.component (sort.Object at.word) o.name ≡ object
        → Sound (map constraint_of (flat_map (declaration_terms s (setting_of object (OfObject object))) (filter_map object_constraint_in o.parts)))
    of_object o at same =
        all_sound (IsObjectSlot (model_object s domains object)) (IsObjectRow s object) (object_rows s object facts domains) (flat_map (declaration_terms s (setting_of object (OfObject object))) (filter_map object_constraint_in o.parts))
        (declarations_blocks (IsObjectRow s object) s s.units (declared_in s) o.name.place IsRight (stays o.name.place) good (setting_of object (OfObject object)) first (filter_map object_constraint_in o.parts)
        (λ c there u has.
        let part = in_filter_map object_constraint_in o.parts c there in
        let e = is_constraint part.0 c part.2 in
        at.used part.0 part.1 u (subst (λ (d : Declaration). In u (object_part_uses (environment d.inside (OfObject d)) part.0)) (sym same) (subst (λ (p : ObjectPartTree). In u (object_part_uses (environment object.inside (OfObject object)) p)) (sym e) has)))
        (λ c there d has.
        let part = in_filter_map object_constraint_in o.parts c there in
        let e = is_constraint part.0 c part.2 in
        at.declared part.0 part.1 d (subst (λ (p : ObjectPartTree). In d (in_object_part o.name.place p)) (sym e) has)))

    pub object_sound : In object (declared_in s) → Sound (object_constraints s object)
    object_sound there = by (object_at s.units object.name.place) refl
      where
        by : (o : Option DeclaredObject) → object_at s.units object.name.place ≡ o
            → Sound (option_map_or (λ o. map constraint_of (flat_map (declaration_terms s (setting_of object (OfObject object))) (filter_map object_constraint_in o.parts))) o [])
        by None e = All-nil (IsSoundConstraint (IsObjectSlot (model_object s domains object)))
        by (Some o) e =
            let found = in_find (λ o. same_place o.name.place object.name.place) (flat_map objects_in_item (flat_map items_of s.units)) o e in
            let at = object_stands s.units o found.0 in
            of_object o at (facts.places object (type_declared at.component (sort.Object at.word) o.name) there at.itself found.1)

pub objects_sound : (units : List UnitTree) (names : List (List ℕ)) (model : ModelTree) → HaveOwnPlaces (declarations units) → IsNone (TypeBreach units names) → IsModel units names model
    → All (λ object. All (IsSoundConstraint (IsObjectSlot object)) object.constraints) model.objects
objects_sound units names model own kept is =
    let s = sources units names is.constants in
    let facts = facts_of units names is.constants is.are_constants kept own in
    subst (λ (m : ModelTree). All (λ object. All (IsSoundConstraint (IsObjectSlot object)) object.constraints) m.objects) (sym is.is)
    (All-map (λ object. All (IsSoundConstraint (IsObjectSlot object)) object.constraints) (model_object s is.domains) (those_that is_object (declared_in s))
    (λ k d within. let c = Contains-get_or (those_that is_object (declared_in s)) k d within in
    let there = from_contains (those_that is_object (declared_in s)) (get_or (those_that is_object (declared_in s)) k d) c.0 c.1 c.2 in
    object_sound s facts (get_or (those_that is_object (declared_in s)) k d) is.domains (those_declared is_object (declared_in s) (get_or (those_that is_object (declared_in s)) k d) there).0))
