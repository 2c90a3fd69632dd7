-- The constraints of action types have blocks of slots of the action.
use Rattle.std.proofs.Common.{◌≡◌, ◌<◌, inl, inr, refl, sym, ap, subst, ◌∙◌}
use Rattle.std.specs.Prelude.{ℕ, ◌+◌, true, List, [], ◌∷◌, map, length, get_or, slice_get, All, Option, Some, None, option_and_then}
use Rattle.std.specs.List.{flat_map, filter_map}
use Rattle.std.specs.Option.{option_map_or}
use Rattle.std.proofs.lemmas.List.Elements.{All-nil, All-map, All-append, Contains-get_or}
use Rattle.std.proofs.lemmas.Option.{none-some, same_Some}
use Rattle.pst_base.specs.declared.position.Place.{Place}
use Rattle.pst_ast.specs.declared.leaf.Name.{Name}
use Rattle.pst_ast.specs.ActivityTree.{MakeActivity}
use Rattle.pst_ast.specs.ExpressionTree.{PathTree, PathDotted, PathItem, PathLongItem}
use Rattle.pst_ast.specs.ConstraintTree.{ConstraintDeclarationTree}
use Rattle.pst_ast.specs.DeclarationTree.{UnitTree, ActionPartTree, ActionPartField, ActionPartReference, ActionPartClaim, ActionPartMembers, ActionPartConstraint, ActionPartActivity, ActionPartBody, ActionPartEmpty}
use Rattle.pst_expr.specs.declared.ranges.Span.{Span}
use Rattle.pst_model.specs.ConstraintTree.{SlotTree, Own, Object, First, ClaimId, ClaimField, Prev, IsFirst, Id, Index, Local, Through, Outer}
use Rattle.pst_model.specs.ActivityTree.{ActivityTree}
use Rattle.pst_model.specs.ModelTree.{Atomic, Compound, ModelTree}
use Rattle.pst_model.specs.SoundConstraint.{IsSoundConstraint}
use Rattle.pst_model.specs.SoundSlots.{IsActionSlot, handle_type}
use Rattle.pst_ast.specs.Breaches.{IsNone}
use Rattle.pst_ast.specs.declared.scope_declaration.Declaration.{Declaration}
use Rattle.pst_ast.specs.declared.environment.Environment.{Environment}
use Rattle.pst_ast.specs.declared.referent.Owner.{Owner}
use Rattle.pst_ast.specs.declared.referent.Owner.TheVariants.{OfAction}
use Rattle.pst_ast.specs.declared.referent.Referent.TheVariants.{Declared}
use Rattle.pst_ast.specs.declared.referent.PathPart.{PathPart}
use Rattle.pst_ast.specs.declared.referent.PathReferent.{PathReferent}
use Rattle.pst_ast.specs.declared.referent.Checked.{Checked}
use Rattle.pst_ast.specs.declared.referent.Checked.TheVariants.{Is, Breaks}
use Rattle.pst_ast.specs.Declarations.{action_declared, index, in_action_part, declarations}
use Rattle.pst_ast.specs.Lookups.{type_of, stands_for}
use Rattle.pst_ast.specs.NameRules.{item_by, Reaches, Loops, NameBreach, OfDeclaration}
use Rattle.pst_ast.specs.Paths.{is_value, read_path}
use Rattle.pst_ast.specs.Sorts.{is_action, is_handle, same_place}
use Rattle.pst_ast.specs.Uses.{Reads, Constrains, part_of, parts_of, path_uses, action_part_uses, environment}
use Rattle.pst_type_rules.specs.Members.{those_that}
use Rattle.pst_type_rules.specs.Sites.{DeclaredAction, actions, action_at}
use Rattle.pst_type_rules.specs.TypeRules.{TypeBreach}
use Rattle.pst_tree.specs.Bases.{with_bases, handles_of, handle_number, action_number}
use Rattle.pst_tree.specs.Contents.{Content, Activity, Body, content_of}
use Rattle.pst_terms.specs.Sources.{Sources, declared_in}
use Rattle.pst_terms.specs.Terms.{Term, Number, Leaf, Prefix, Infix, Indexed}
use Rattle.pst_terms.specs.Readings.{Setting, AtNumber, item_reading, owner_reading, checked_reading, reading_of}
use Rattle.pst_terms.specs.Slots.{constraint_of}
use Rattle.pst_elab_rules.specs.Constraints.{with_turn, declaration_terms}
use Rattle.pst_elab_rules.specs.Model.{sources, model_by, IsModel}
use Rattle.pst_elab_rules.specs.Types.{setting_of, constraint_in, own_constraints, handle_types, content, model_objects, model_action, model_actions}
use Rattle.pst_ast.specs.declared.instance.Instance.{Instance}
use Rattle.pst_sound_model.specs.Blocks.{with_field, IsBlock, HasBlocks}
use Rattle.pst_sound_model.specs.Used.{IsGood, AllBlocks}
use Rattle.pst_sound_model.specs.SoundExpressionsConditions.{HaveOwnPlaces}
use Rattle.pst_sound_model.specs.SoundExpressionsLaws.{IsNamedSlot, HasNamedConstraints}
use Rattle.pst_sound_model.proofs.Members.{In, in_find, from_contains, to_contains}
use Rattle.pst_sound_model.proofs.Owned.{numbered, those_declared, member_declared}
use Rattle.pst_sound_model.proofs.TermsOf.{Each}
use Rattle.pst_sound_model.proofs.SetTerms.{IsUsed, declarations_blocks}
use Rattle.pst_sound_model.proofs.PathsRead.{path_of}
use Rattle.pst_sound_model.proofs.Meanings.{AreIndices}
use Rattle.pst_sound_model.proofs.Facts.{AreFacts, own_place}
use Rattle.pst_sound_model.proofs.FactsOf.{facts_of}
use Rattle.pst_sound_model.proofs.ObjectReadings.{AreNumbers}
use Rattle.pst_sound_model.proofs.Plain.{plain_reading, all_sound, in_filter_map, index_more, number_more}
use Rattle.pst_sound_model.proofs.Walks.{IsActionAt, action_stands}
use Rattle.pst_sound_model.proofs.ActionReadings.{IsActionRow, OfItself, OfHandle, bases_are_actions, action_path}
use Rattle.pst_sound_model.proofs.ActionRows.{own_slot, action_numbered, some_and, got_map, handle_to, type_is_for, type_declared}
use Rattle.pst_sound_model.proofs.RowsApart.{action_rows, row_derived}

-- rows of one kind among those of another
module _ (Inner Outer : SlotTree → ℕ → ℕ → Type 0) (lift : (slot : SlotTree) (first count : ℕ) → Inner slot first count → Outer slot first count) where
  block_lift : (b : List SlotTree) → IsBlock Inner b → IsBlock Outer b
  block_lift b k = record { slot = k.slot; first = k.first; count = k.count; row = lift k.slot k.first k.count k.row; is = k.is }

  pub blocks_lift : (t : Term SlotTree) → HasBlocks Inner t → HasBlocks Outer t
  blocks_lift (Number n) h = tt
  blocks_lift (Leaf slot) h = block_lift (slot ∷ []) h
  blocks_lift (Prefix operator operand) h = blocks_lift operand h
  blocks_lift (Infix operator left right) h = (blocks_lift left h.0, blocks_lift right h.1)
  blocks_lift (Indexed elements index) h = (block_lift elements h.0, blocks_lift index h.1)

  pub all_lift : (ts : List (Term SlotTree)) → AllBlocks Inner ts → AllBlocks Outer ts
  all_lift [] h = tt
  all_lift (t ∷ more) h = (blocks_lift t h.0, all_lift more h.1)

module _ (s : Sources) (facts : AreFacts s) (Steady : Declaration → Type 0) (base : Declaration) (there : In base (declared_in s)) (is : is_action base.sort ≡ true)
    (steady : (at : Environment) → at.owner ≡ OfAction base → at.traversal ≡ None → (p : PathPart) (ps : List PathPart) → IsUsed s.units Constrains at (Reads at p ps) → (h : Declaration) → stands_for (declared_in s) s.names at p.name.id ≡ Some (Declared h)
    → is_handle h.sort ≡ true → Steady h) where
  record IsRight (setting : Setting) : Type 0 where
    numbers : AreNumbers setting.turns
    indices : AreIndices (declared_in s) setting.at
    owner : setting.at.owner ≡ OfAction base
    plain : setting.at.traversal ≡ None

  good_item : (o : Option Declaration) → IsGood (IsActionRow s Steady base) (item_reading s o)
  good_item None = tt
  good_item (Some d) = tt

  good : (setting : Setting) → IsRight setting → (path : PathTree) → Each (IsUsed s.units Constrains setting.at) (path_uses setting.at path) → IsGood (IsActionRow s Steady base) (reading_of s setting path)
  unfolding reading_of
  good setting right (PathDotted first rest) all = by (read_path (declared_in s) s.names setting.at is_value (part_of first) (parts_of rest)) refl
    where
      by : (c : Checked PathReferent) → read_path (declared_in s) s.names setting.at is_value (part_of first) (parts_of rest) ≡ c → IsGood (IsActionRow s Steady base) (checked_reading s setting (part_of first).name c)
      by (Is path) e =
          subst (IsGood (IsActionRow s Steady base)) (sym (plain_reading s setting (part_of first).name path right.plain ∙ ap (λ (o : Owner). owner_reading s setting o path) right.owner))
          (action_path s facts base there is Steady setting right.numbers right.indices right.owner right.plain (part_of first) path.before path.last (path_of (declared_in s) s.names setting.at (part_of first) (parts_of rest) path e)
          (steady setting.at right.owner right.plain (part_of first) (parts_of rest) (all (Reads setting.at (part_of first) (parts_of rest)) (inl refl))))
      by (Breaks place rule) e = tt
  good setting right (PathItem enum colons item) all = good_item (item_by (declared_in s) setting.at.component None enum item)
  good setting right (PathLongItem component colons enum more_colons item) all = good_item (item_by (declared_in s) setting.at.component (Some component) enum item)

  stays : (type : Place) (setting : Setting) (name : Name) (i : ℕ) → In (index type name) (declared_in s) → IsRight setting → IsRight (with_turn setting name (AtNumber i))
  stays type setting name i itself right = record {
    numbers = number_more setting.turns name.place i right.numbers;
    indices = index_more s facts type setting.at name itself right.indices;
    owner = right.owner;
    plain = right.plain;
  }

  first : IsRight (setting_of base (OfAction base))
  first = record { numbers = λ x h. absurd h; indices = λ n h d e. absurd h; owner = refl; plain = refl }

  is_constraint : (part : ActionPartTree) (c : ConstraintDeclarationTree) → constraint_in part ≡ Some c → part ≡ ActionPartConstraint c
  is_constraint (ActionPartField field) c e = absurd (none-some c e)
  is_constraint (ActionPartReference reference) c e = absurd (none-some c e)
  is_constraint (ActionPartClaim claim) c e = absurd (none-some c e)
  is_constraint (ActionPartMembers members) c e = absurd (none-some c e)
  is_constraint (ActionPartConstraint constraint) c e = ap ActionPartConstraint (same_Some constraint c e)
  is_constraint (ActionPartActivity activity) c e = absurd (none-some c e)
  is_constraint (ActionPartBody body) c e = absurd (none-some c e)
  is_constraint (ActionPartEmpty place) c e = absurd (none-some c e)

  abbrev pub terms_in : DeclaredAction → List (Term SlotTree)
  terms_in a = flat_map (declaration_terms s (setting_of base (OfAction base))) (filter_map constraint_in a.parts)

  pub blocks_in : (a : DeclaredAction) → (at : IsActionAt s.units a) → action_declared at.component at.base a.name ≡ base → AllBlocks (IsActionRow s Steady base) (terms_in a)
  blocks_in a at same =
      declarations_blocks (IsActionRow s Steady base) s s.units (declared_in s) a.name.place IsRight (stays a.name.place) good (setting_of base (OfAction base)) first (filter_map constraint_in a.parts)
      (λ c here u has.
      let part = in_filter_map constraint_in a.parts c here in
      let e = is_constraint part.0 c part.2 in
      at.used part.0 part.1 u (subst (λ (d : Declaration). In u (action_part_uses (environment d.inside (OfAction d)) part.0)) (sym same) (subst (λ (p : ActionPartTree). In u (action_part_uses (environment base.inside (OfAction base)) p)) (sym e) has)))
      (λ c here d has.
      let part = in_filter_map constraint_in a.parts c here in
      let e = is_constraint part.0 c part.2 in
      at.declared part.0 part.1 d (subst (λ (p : ActionPartTree). In d (in_action_part a.name.place p)) (sym e) has))

  -- where rows have a meaning, the constraints in the own text of the action are sound
  pub own_sound : (IsSlot : SlotTree → Type 0) → ((ts : List (Term SlotTree)) → AllBlocks (IsActionRow s Steady base) ts → All (IsSoundConstraint IsSlot) (map constraint_of ts)) → All (IsSoundConstraint IsSlot) (own_constraints s base)
  unfolding action_at
  own_sound IsSlot sound = by (action_at s.units base.name.place) refl
    where
      by : (o : Option DeclaredAction) → action_at s.units base.name.place ≡ o → All (IsSoundConstraint IsSlot) (option_map_or (λ a. map constraint_of (flat_map (declaration_terms s (setting_of base (OfAction base))) (filter_map constraint_in a.parts))) o [])
      by None e = All-nil (IsSoundConstraint IsSlot)
      by (Some a) e =
          let found = in_find (λ a. same_place a.name.place base.name.place) (actions s.units) a e in
          let at = action_stands s.units a found.0 in
          sound (terms_in a) (blocks_in a at (facts.places base (action_declared at.component at.base a.name) there at.itself found.1))

-- ---- the slots name entries of the model

all_flat : {X Y : Type 0} (P : Y → Type 0) (f : X → List Y) (xs : List X) → ((x : X) → In x xs → All P (f x)) → All P (flat_map f xs)
all_flat P f [] h = All-nil P
all_flat P f (x ∷ more) h = All-append P (f x) (flat_map f more) (h x (inl refl)) (all_flat P f more (λ y there. h y (inr there)))

no_compound : (body : _) (activity : ActivityTree) → Atomic body ≡ Compound activity → ⊥
no_compound body activity e = cc

same_compound : (one two : ActivityTree) → Compound one ≡ Compound two → one ≡ two
same_compound one two e = cc

module _ (s : Sources) (facts : AreFacts s) (domains : List (List Span)) (instances : List Instance) (never : (d : Declaration) → In d (declared_in s) → Reaches (declared_in s) d d → ⊥) (d : Declaration) (there : In d (declared_in s)) (is : is_action d.sort ≡ true) where
  abbrev model : ModelTree
  model = model_by s domains instances

  abbrev Always : Declaration → Type 0
  Always h = Unit {0}

  to_named : (slot : SlotTree) → IsActionSlot (model_objects s domains) (model_action s domains d) slot → IsNamedSlot model (handle_types (declared_in s) d) (model_action s domains d) slot
  to_named (Own field) h = h
  to_named (Object r field) h = h
  to_named (First r) h = h
  to_named (ClaimId c) h = h
  to_named (ClaimField c field) h = h
  to_named (Prev field) h = h
  to_named IsFirst h = h
  to_named Id h = h
  to_named (Index level) h = h
  to_named (Local local) h = h
  to_named (Through handle slot) h = absurd h
  to_named (Outer slot) h = h

  -- the action type of a handle, by their numbers
  pub handle_numbered : (h a : Declaration) → In h (handles_of (declared_in s) d) → type_of (declared_in s) h ≡ Some a → handle_type model (handle_types (declared_in s) d) (handle_number (declared_in s) d h) ≡ Some (model_action s domains a)
  handle_numbered h a here typed =
      let declared = member_declared is_handle (declared_in s) d h here in
      let action : is_action a.sort ≡ true = sym (handle_to h.sort a.sort declared.1) ∙ type_is_for (declared_in s) h a typed in
      ap (option_and_then (slice_get (model_actions s domains)))
      (got_map (λ h. option_map_or (action_number (declared_in s)) (type_of (declared_in s) h) 0) (handles_of (declared_in s) d) (handle_number (declared_in s) d h) h (numbered (handles_of (declared_in s) d) h here (own_place s facts is_handle d h here))
      ∙ ap (λ (o : Option Declaration). Some (option_map_or (action_number (declared_in s)) o 0)) typed)
      ∙ action_numbered s facts domains a (type_declared (declared_in s) h a typed) action

  named_sound : (slot : SlotTree) (first count k : ℕ) → IsActionRow s Always d slot first count → k < count → IsNamedSlot model (handle_types (declared_in s) d) (model_action s domains d) (with_field slot (first + k))
  named_sound slot first count k (OfItself row) less = to_named (with_field slot (first + k)) (own_slot s facts domains d slot first count k row less)
  named_sound slot first count k (OfHandle h a inner here typed steady row e) less =
      subst (λ (x : SlotTree). IsNamedSlot model (handle_types (declared_in s) d) (model_action s domains d) (with_field x (first + k))) (sym e)
      (some_and (handle_type model (handle_types (declared_in s) d) (handle_number (declared_in s) d h)) (model_action s domains a) (λ traversed. IsActionSlot (model_objects s domains) traversed (with_field inner (first + k)))
      (handle_numbered h a here typed) (own_slot s facts domains a inner first count k row less))

  base_sound : (base : Declaration) → In base (with_bases (declared_in s) d) → All (IsSoundConstraint (IsNamedSlot model (handle_types (declared_in s) d) (model_action s domains d))) (own_constraints s base)
  unfolding with_bases
  base_sound base has =
      let b = bases_are_actions (declared_in s) (length (declared_in s)) d base there is has in
      own_sound s facts Always base b.0 b.1 (λ at o t p ps u h e k. tt) (IsNamedSlot model (handle_types (declared_in s) d) (model_action s domains d))
      (λ ts blocks. all_sound (IsNamedSlot model (handle_types (declared_in s) d) (model_action s domains d)) (IsActionRow s Always d)
      (action_rows s facts Always d (IsNamedSlot model (handle_types (declared_in s) d) (model_action s domains d)) named_sound) ts
      (all_lift (IsActionRow s Always base) (IsActionRow s Always d) (row_derived s facts never d base there has Always) ts blocks))

  its_handles : (o : Option Content) (activity : ActivityTree) → content s d o ≡ Compound activity → activity.handles ≡ handle_types (declared_in s) d
  its_handles None activity e = absurd (no_compound _ activity e)
  its_handles (Some (Body action body)) activity e = absurd (no_compound _ activity e)
  its_handles (Some (Activity action (MakeActivity word left statements right))) activity e = sym (ap (λ (a : ActivityTree). a.handles) (same_compound _ activity e))

  pub action_named : HasNamedConstraints model (model_action s domains d)
  action_named = record {
    handles = handle_types (declared_in s) d;
    compound = its_handles (content_of s.units d);
    constraints = all_flat (IsSoundConstraint (IsNamedSlot model (handle_types (declared_in s) d) (model_action s domains d))) (own_constraints s) (with_bases (declared_in s) d) base_sound;
  }

pub no_loops : (units : List UnitTree) (names : List (List ℕ)) → IsNone (NameBreach units names) → (d : Declaration) → In d (declarations units) → Reaches (declarations units) d d → ⊥
no_loops units names kept d there r = kept d.name.place 5 (OfDeclaration d 5 (to_contains (declarations units) d there) (Loops r))

pub actions_named : (units : List UnitTree) (names : List (List ℕ)) (model : ModelTree) → HaveOwnPlaces (declarations units) → IsNone (NameBreach units names) → IsNone (TypeBreach units names) → IsModel units names model
    → All (HasNamedConstraints model) model.actions
actions_named units names model own right kept is =
    let s = sources units names is.constants in
    let facts = facts_of units names is.constants is.are_constants kept own in
    subst (λ (m : ModelTree). All (HasNamedConstraints m) m.actions) (sym is.is)
    (All-map (HasNamedConstraints (model_by s is.domains is.instances)) (model_action s is.domains) (those_that is_action (declared_in s))
    (λ k d within. let c = Contains-get_or (those_that is_action (declared_in s)) k d within in
    let there = from_contains (those_that is_action (declared_in s)) (get_or (those_that is_action (declared_in s)) k d) c.0 c.1 c.2 in
    let both = those_declared is_action (declared_in s) (get_or (those_that is_action (declared_in s)) k d) there in
    action_named s facts is.domains is.instances (no_loops units names right) (get_or (those_that is_action (declared_in s)) k d) both.0 both.1))
