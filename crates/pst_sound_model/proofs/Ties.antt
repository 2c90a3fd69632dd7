-- The binds of activities are sound.
use Rattle.std.proofs.Common.{◌≡◌, ◌≢◌, inl, inr, refl, sym, ap, subst, arith, ◌∙◌, append_assoc}
use Rattle.std.specs.Prelude.{ℕ, Bool, true, false, nat_eq, List, [], ◌∷◌, ◌++◌, slice_get, All, AllPairs, Option, Some, None, option_and_then}
use Rattle.std.specs.Option.{IsSomeAnd, option_map_or}
use Rattle.std.proofs.lemmas.Bool.{false≢true, eqb-true, eq-eqb}
use Rattle.std.proofs.lemmas.List.Elements.{All-map}
use Rattle.std.proofs.lemmas.List.Kept.{AllPairs-cons}
use Rattle.std.proofs.lemmas.Option.{same_Some}
use Rattle.pst_base.specs.declared.position.Place.{Place}
use Rattle.pst_ast.specs.declared.activity.EndNode.{EndNode}
use Rattle.pst_ast.specs.declared.declaration.ObjectWord.TheVariants as word
use Rattle.pst_ast.specs.declared.instance.Instance.{Instance}
use Rattle.pst_ast.specs.ActivityTree.{ActivityTree, MakeActivity}
use Rattle.pst_ast.specs.DeclarationTree.{UnitTree, ActionPartActivity}
use Rattle.pst_expr.specs.declared.ranges.Span.{Span}
use Rattle.pst_model.specs.declared.activity.Tie.{Tie}
use Rattle.pst_model.specs.declared.action.Reference.{Reference}
use Rattle.pst_model.specs.declared.object.ObjectKind.TheVariants.{Stream}
use Rattle.pst_model.specs.ActivityTree as step
use Rattle.pst_model.specs.ModelTree.{ContentTree, Atomic, Compound, ModelTree}
use Rattle.pst_model.specs.SoundActivity.{reference_of, AreEnds, IsSoundTie, IsStreamTie, AreTiesApart}
use Rattle.pst_model.specs.SoundSlots.{IsOfKind, activity_of, handles_of as model_handles}
use Rattle.pst_model.specs.Traversals as model
use Rattle.pst_ast.specs.Breaches.{IsNone}
use Rattle.pst_ast.specs.declared.scope_declaration.Declaration.{Declaration}
use Rattle.pst_ast.specs.declared.scope_declaration.Sort.{Sort}
use Rattle.pst_ast.specs.declared.scope_declaration.Sort.TheVariants as sort
use Rattle.pst_ast.specs.declared.environment.Environment.{Environment}
use Rattle.pst_ast.specs.declared.referent.Owner.TheVariants.{OfAction}
use Rattle.pst_ast.specs.Declarations.{declarations}
use Rattle.pst_ast.specs.Lookups.{type_of, traversed, member_of}
use Rattle.pst_ast.specs.NameRules.{NameBreach, Reaches}
use Rattle.pst_ast.specs.Sorts.{is_action, is_handle, is_reference, same_place}
use Rattle.pst_ast.specs.Uses.{Ties, Ends, uses}
use Rattle.pst_type_rules.specs.declared.typed.ConstantValue.{ConstantValue}
use Rattle.pst_type_rules.specs.Binds.{Pair, pairs, is_input, is_stream, BindTwice, Input, StreamOutput, IsSameEnd, IsStreamEnd}
use Rattle.pst_type_rules.specs.Binds as rule
use Rattle.pst_type_rules.specs.Handles.{mention, ByOwner}
use Rattle.pst_type_rules.specs.Members.{those_that}
use Rattle.pst_type_rules.specs.Sites.{actions, action_at}
use Rattle.pst_type_rules.specs.TypeRules.{TypeBreach, OfUse, UnfitEnds, OneHandle, BoundTwice}
use Rattle.pst_type_rules.specs.Typed.{AreConstants}
use Rattle.pst_tree.specs.Bases.{with_bases, references_of, handle_number, reference_number, object_number}
use Rattle.pst_tree.specs.Contents.{Content, Activity, Body, content_of}
use Rattle.pst_terms.specs.Sources.{Sources, declared_in}
use Rattle.pst_terms.specs.Readings.{Setting}
use Rattle.pst_elab_rules.specs.Model.{sources, model_by, IsModel}
use Rattle.pst_elab_rules.specs.Ties.{tie_of, end_handle, end_number, ties_in}
use Rattle.pst_elab_rules.specs.Types.{setting_of, handle_types, content, is_output, object_of, reference, kind_in, model_object, model_objects, model_action}
use Rattle.pst_sound_model.specs.SoundExpressionsConditions.{HaveOwnPlaces}
use Rattle.pst_sound_model.proofs.Members.{In, in_find, to_right, to_contains}
use Rattle.pst_sound_model.proofs.Owned.{member_declared, member_is, those_declared}
use Rattle.pst_sound_model.proofs.Facts.{AreFacts}
use Rattle.pst_sound_model.proofs.FactsOf.{facts_of}
use Rattle.pst_sound_model.proofs.ActionRows.{object_numbered, object_of_typed, some_and, type_declared}
use Rattle.pst_sound_model.proofs.ActionsSound.{no_loops}
use Rattle.pst_sound_model.proofs.NeedsSound.{all_in}
use Rattle.pst_sound_model.proofs.Typed.{reference_typed}
use Rattle.pst_sound_model.proofs.Named.{same_names}
use Rattle.pst_sound_model.proofs.Numbers.{number_one}
use Rattle.pst_sound_model.proofs.SoundSteadyTexts.{content_stands}
use Rattle.pst_sound_model.proofs.Traversing.{IsText}
use Rattle.pst_sound_model.proofs.Judged.{steady_derived, judged_steady, activity_is, first_text}
use Rattle.pst_sound_model.specs.SoundTiesLaws.{HasSoundTies}
use Rattle.pst_sound_model.proofs.Follows.{Follows, comes_from, come}
use Rattle.pst_sound_model.proofs.Binds.{IsTieOf, list_come, in_sources}
use Rattle.pst_sound_model.proofs.Ends.{IsEnd, end_is, number_there, reference_there}

-- ---- lists

split_at : {A : Type 0} (xs : List A) (x : A) → In x xs → (front : List A) × (more : List A) × (xs ≡ front ++ x ∷ more)
split_at [] x there = absurd there
split_at (y ∷ ys) x (inl e) = ([], ys, ap (λ (z : _). z ∷ ys) e)
split_at (y ∷ ys) x (inr h) = let r = split_at ys x h in (y ∷ r.0, r.1, ap (λ (l : List _). y ∷ l) r.2)

all_pairs : {A : Type 0} (R : A → A → Type 0) (done xs : List A) → ((front more : List A) (earlier later : A) → done ++ xs ≡ front ++ later ∷ more → In earlier front → R earlier later) → AllPairs R xs
all_pairs R done [] all = λ i j d less within. absurd (omega (arith, within))
all_pairs R done (x ∷ xs) all =
    AllPairs-cons R x xs
    (all_in (R x) xs (λ y there.
    let r = split_at xs y there in
    all (done ++ x ∷ r.0) r.1 x y (ap (λ (l : List _). done ++ x ∷ l) r.2 ∙ sym (append_assoc done (x ∷ r.0) (y ∷ r.1))) (to_right done (x ∷ r.0) x (inl refl))))
    (all_pairs R (done ++ x ∷ []) xs (λ front more earlier later e there. all front more earlier later (sym (append_assoc done (x ∷ []) xs) ∙ e) there))

some_gave : {A : Type 0} (o : Option A) (x : A) (P : A → Type 0) → o ≡ Some x → IsSomeAnd o P → P x
some_gave o x P e h = subst (λ (z : Option _). IsSomeAnd z P) e h

-- ---- sorts

output_by : (so : Sort) → rule.is_output so ≡ is_output so
output_by sort.Component = refl
output_by (sort.Action base) = refl
output_by (sort.Object word) = refl
output_by sort.Enumeration = refl
output_by sort.Function = refl
output_by (sort.Instance of) = refl
output_by (sort.Pool of) = refl
output_by (sort.Item level) = refl
output_by (sort.Field array) = refl
output_by (sort.Reference of output) = refl
output_by (sort.Claim of) = refl
output_by (sort.Handle of) = refl
output_by sort.Constraint = refl
output_by sort.Parameter = refl
output_by sort.Local = refl
output_by sort.Index = refl

no_input : (so : Sort) → is_output so ≡ true → is_input so ≡ true → ⊥
no_input sort.Component e f = false≢true e
no_input (sort.Action base) e f = false≢true e
no_input (sort.Object word) e f = false≢true e
no_input sort.Enumeration e f = false≢true e
no_input sort.Function e f = false≢true e
no_input (sort.Instance of) e f = false≢true e
no_input (sort.Pool of) e f = false≢true e
no_input (sort.Item level) e f = false≢true e
no_input (sort.Field array) e f = false≢true e
no_input (sort.Reference of true) e f = false≢true f
no_input (sort.Reference of false) e f = false≢true e
no_input (sort.Claim of) e f = false≢true e
no_input (sort.Handle of) e f = false≢true e
no_input sort.Constraint e f = false≢true e
no_input sort.Parameter e f = false≢true e
no_input sort.Local e f = false≢true e
no_input sort.Index e f = false≢true e

stream_kind : (so : Sort) → kind_in so ≡ Stream → is_stream so ≡ true
stream_kind sort.Component e = absurd (cc)
stream_kind (sort.Action base) e = absurd (cc)
stream_kind (sort.Object word.Buffer) e = absurd (cc)
stream_kind (sort.Object word.Stream) e = refl
stream_kind (sort.Object word.State) e = absurd (cc)
stream_kind (sort.Object word.Resource) e = absurd (cc)
stream_kind sort.Enumeration e = absurd (cc)
stream_kind sort.Function e = absurd (cc)
stream_kind (sort.Instance of) e = absurd (cc)
stream_kind (sort.Pool of) e = absurd (cc)
stream_kind (sort.Item level) e = absurd (cc)
stream_kind (sort.Field array) e = absurd (cc)
stream_kind (sort.Reference of output) e = absurd (cc)
stream_kind (sort.Claim of) e = absurd (cc)
stream_kind (sort.Handle of) e = absurd (cc)
stream_kind sort.Constraint e = absurd (cc)
stream_kind sort.Parameter e = absurd (cc)
stream_kind sort.Local e = absurd (cc)
stream_kind sort.Index e = absurd (cc)

module _ (s : Sources) (facts : AreFacts s) (own : HaveOwnPlaces (declarations s.units)) (right : IsNone (NameBreach s.units s.names)) (kept : IsNone (TypeBreach s.units s.names)) (never : (d : Declaration) → In d (declared_in s) → Reaches (declared_in s) d d → ⊥)
    (domains : List (List Span)) (instances : List Instance) (x o : Declaration) (there : In x (declared_in s)) (is : is_action x.sort ≡ true) (has : In o (with_bases (declared_in s) x)) (o_there : In o (declared_in s)) (o_is : is_action o.sort ≡ true)
    (activity : ActivityTree) (x_content : content_of s.units x ≡ Some (Activity o activity)) (o_content : content_of s.units o ≡ Some (Activity o activity)) (type : Place)
    -- the activity in the model
    (act : step.ActivityTree) (handles_are : act.handles ≡ handle_types (declared_in s) x) (steps_are : activity_of (content s x (content_of s.units x)) ≡ act.steps) where
  abbrev ds : List Declaration
  ds = declared_in s

  abbrev setting : Setting
  setting = setting_of o (OfAction o)

  abbrev model_of : ModelTree
  model_of = model_by s domains instances

  abbrev End : Environment → EndNode → Type 0
  End at end = IsEnd s facts own right never o at end

  abbrev Of : Tie → Pair → Type 0
  Of = IsTieOf s facts o setting type

  its_first : (t : Tie) (p : Pair) → Of t p → End p.at p.first
  its_first t p r = end_is s facts own right never o p.at p.first r.text r.first_used

  its_other : (t : Tie) (p : Pair) → Of t p → End p.at p.other
  its_other t p r = end_is s facts own right never o p.at p.other r.text r.other_used

  -- ---- an end

  steady_end : (at : Environment) (end : EndNode) → IsText ds o at → In (Ends at end.handle end.name) (uses s.units) → (e : End at end) → model.IsSteady (end_handle s setting end) act.steps
  steady_end at end text used e =
      let h = e.handle.handle in
      let st = judged_steady s facts own right kept never (Ends at end.handle end.name) (mention at false end.handle) h o used (inl refl) e.stands e.handle.is o_there o_is
      (ByOwner o text.owner (ap (λ (t : Option _). option_and_then (λ t. option_and_then (λ a. member_of ds a end.handle.id) (traversed ds s.names at t)) t) text.plain)) e.handle.among e.handle.named in
      moved (handle_number ds x h) (end_handle s setting end) (activity_of (content s x (content_of s.units x))) act.steps (sym (number_there s facts own right never o domains instances x there is has at end e)) steps_are
      (steady_derived s facts own right kept never x o h there has activity x_content o_content e.handle.among st)
    where
      moved : (n m : ℕ) (a b : List step.StepTree) → n ≡ m → a ≡ b → model.IsSteady n a → model.IsSteady m b
      moved n m a b e f st = subst (λ (k : ℕ). model.IsSteady k b) e (subst (λ (l : List step.StepTree). model.IsSteady n l) f st)

  reference_is : (at : Environment) (end : EndNode) → (e : End at end) → reference_of model_of act.handles (end_handle s setting end) (end_number s setting end) ≡ Some (reference ds e.reference)
  reference_is at end e = ap (λ (hs : List ℕ). reference_of model_of hs (end_handle s setting end) (end_number s setting end)) handles_are ∙ reference_there s facts own right never o domains instances x there is has at end e

  -- ends of one number of handle are of one handle
  one_handle : (at bt : Environment) (a b : EndNode) → (e : End at a) → (f : End bt b) → end_handle s setting a ≡ end_handle s setting b → e.handle.handle ≡ f.handle.handle
  one_handle at bt a b e f same = number_one s.units s.names own right is_handle o e.handle.handle f.handle.handle e.handle.among f.handle.among (sym e.handle_number_is ∙ (same ∙ f.handle_number_is))

  same_handle : (at bt : Environment) (a b : EndNode) → (e : End at a) → (f : End bt b) → end_handle s setting a ≡ end_handle s setting b → a.handle.id ≡ b.handle.id
  same_handle at bt a b e f same = sym e.handle.named ∙ (ap (λ (d : Declaration). d.name.id) (one_handle at bt a b e f same) ∙ f.handle.named)

  one_action : (at bt : Environment) (a b : EndNode) → (e : End at a) → (f : End bt b) → end_handle s setting a ≡ end_handle s setting b → e.action ≡ f.action
  one_action at bt a b e f same = same_Some e.action f.action (sym e.typed ∙ (ap (type_of ds) (one_handle at bt a b e f same) ∙ f.typed))

  -- and of one reference too
  one_reference : (at bt : Environment) (a b : EndNode) → (e : End at a) → (f : End bt b) → end_handle s setting a ≡ end_handle s setting b → end_number s setting a ≡ end_number s setting b → e.reference ≡ f.reference
  one_reference at bt a b e f same number =
      let action = one_action at bt a b e f same in
      number_one s.units s.names own right is_reference e.action e.reference f.reference e.among (subst (λ (d : Declaration). In f.reference (references_of ds d)) (sym action) f.among)
      (sym e.reference_number_is ∙ (number ∙ (f.reference_number_is ∙ ap (λ (d : Declaration). reference_number ds d f.reference) (sym action))))

  same_end : (at bt : Environment) (a b : EndNode) → End at a → End bt b → end_handle s setting a ≡ end_handle s setting b → end_number s setting a ≡ end_number s setting b → IsSameEnd a b
  same_end at bt a b e f same number = record { handle = same_handle at bt a b e f same; reference = named a e ∙ (ap (λ (d : Declaration). d.name.id) (one_reference at bt a b e f same number) ∙ sym (named' b f)) }
    where
      named : (a : EndNode) → (e : End at a) → a.name.id ≡ e.reference.name.id
      named a e = sym (same_names e.reference.name.id a.name.id (member_is ds e.action a.name.id e.reference e.member).named)

      named' : (b : EndNode) → (f : End bt b) → b.name.id ≡ f.reference.name.id
      named' b f = sym (same_names f.reference.name.id b.name.id (member_is ds f.action b.name.id f.reference f.member).named)

  -- ---- a tie

  module _ (t : Tie) (p : Pair) (r : Of t p) where
    first : End p.at p.first
    first = its_first t p r

    other : End p.at p.other
    other = its_other t p r

    refused : (rule.AreEnds ds first.reference other.reference → ⊥) → ⊥
    refused h =
        kept p.other.handle.place 20 (OfUse (Ties p.at p.first r.others) p.other.handle.place 20 (to_contains (uses s.units) (Ties p.at p.first r.others) r.bind)
        (UnfitEnds p.at p.first p.other r.others first.reference other.reference (to_contains r.others p.other r.among) first.named other.named h))

    gives : is_output first.reference.sort ≡ true
    gives = by (is_output first.reference.sort) refl
      where
        by : (b : Bool) → is_output first.reference.sort ≡ b → b ≡ true
        by true e = refl
        by false e = absurd (refused (λ ends. false≢true (sym e ∙ (sym (output_by first.reference.sort) ∙ ends.gives))))

    takes : is_output other.reference.sort ≡ false
    takes = by (is_output other.reference.sort) refl
      where
        by : (b : Bool) → is_output other.reference.sort ≡ b → b ≡ false
        by false e = refl
        by true e = absurd (refused (λ ends. no_input other.reference.sort e ends.takes))

    same_object : object_of ds first.reference ≡ object_of ds other.reference
    same_object = by (nat_eq (object_of ds first.reference) (object_of ds other.reference)) refl
      where
        by : (b : Bool) → nat_eq (object_of ds first.reference) (object_of ds other.reference) ≡ b → object_of ds first.reference ≡ object_of ds other.reference
        by true e = eqb-true (object_of ds first.reference) (object_of ds other.reference) e
        by false e =
            absurd (refused (λ ends. false≢true (sym e ∙ eq-eqb (object_of ds first.reference) (object_of ds other.reference) (ap (λ (d : Option Declaration). option_map_or (object_number ds) d 0) (ends.given ∙ sym ends.taken)))))

    fit : AreEnds (reference ds first.reference) (reference ds other.reference)
    fit = record { gives = gives; takes = takes; same = same_object }

    apart_handles : end_handle s setting p.first ≢ end_handle s setting p.other
    apart_handles same =
        kept p.other.handle.place 20 (OfUse (Ties p.at p.first r.others) p.other.handle.place 20 (to_contains (uses s.units) (Ties p.at p.first r.others) r.bind)
        (OneHandle p.at p.first p.other r.others (to_contains r.others p.other r.among) (same_handle p.at p.at p.first p.other first other same)))

    tie_sound : IsSoundTie model_of act (tie_of s setting p.first p.other)
    tie_sound = record {
      different = apart_handles;
      producer = steady_end p.at p.first r.text r.first_used first;
      consumer = steady_end p.at p.other r.text r.other_used other;
      ends = some_and (reference_of model_of act.handles (end_handle s setting p.first) (end_number s setting p.first)) (reference ds first.reference)
          (λ output. IsSomeAnd (reference_of model_of act.handles (end_handle s setting p.other) (end_number s setting p.other)) (AreEnds output)) (reference_is p.at p.first first)
          (some_and (reference_of model_of act.handles (end_handle s setting p.other) (end_number s setting p.other)) (reference ds other.reference) (AreEnds (reference ds first.reference)) (reference_is p.at p.other other) fit);
    }

    pub is_sound : IsSoundTie model_of act t
    is_sound = subst (IsSoundTie model_of act) (sym r.is) tie_sound

    -- the output is of a stream
    stream_end : IsStreamTie model_of act (tie_of s setting p.first p.other) → IsStreamEnd ds s.names p.at p.first
    stream_end h =
        let m = member_declared is_reference ds first.action first.reference first.among in
        let u = reference_typed s facts right first.reference m.0 m.1 in
        let kind = some_gave (reference_of model_of act.handles (end_handle s setting p.first) (end_number s setting p.first)) (reference ds first.reference) (λ output. IsOfKind model_of.objects Stream output.object) (reference_is p.at p.first first) h in
        let found : slice_get (model_objects s domains) (object_of ds first.reference) ≡ Some (model_object s domains u.0) =
        ap (slice_get (model_objects s domains)) (object_of_typed s facts domains first.reference u.0 u.1) ∙ object_numbered s facts domains u.0 (type_declared ds first.reference u.0 u.1) u.2 in
        record {
          reference = first.reference;
          type = u.0;
          named = first.named;
          typed = u.1;
          stream = stream_kind u.0.sort (some_gave (slice_get (model_objects s domains) (object_of ds first.reference)) (model_object s domains u.0) (λ type. type.kind ≡ Stream) found kind);
        }

  -- ---- two ties

  module _ (front more : List Pair) (earlier later : Pair) (at : pairs s.units ≡ front ++ later ∷ more) (before : In earlier front) (t u : Tie) (r : Of t earlier) (q : Of u later) where
    twice : BindTwice ds s.names earlier later → ⊥
    twice b = kept later.other.handle.place 20 (BoundTwice front more earlier later at (to_contains front earlier before) b)

    one_owner : earlier.at.owner ≡ later.at.owner
    one_owner = r.text.owner ∙ sym q.text.owner

    inputs_apart : end_handle s setting earlier.other ≡ end_handle s setting later.other → end_number s setting earlier.other ≡ end_number s setting later.other → ⊥
    inputs_apart same number = twice (Input one_owner (same_end earlier.at later.at earlier.other later.other (its_other t earlier r) (its_other u later q) same number))

    outputs_apart : end_handle s setting earlier.first ≡ end_handle s setting later.first → end_number s setting earlier.first ≡ end_number s setting later.first → IsStreamTie model_of act (tie_of s setting earlier.first earlier.other) → ⊥
    outputs_apart same number stream =
        twice (StreamOutput one_owner (same_end earlier.at later.at earlier.first later.first (its_first t earlier r) (its_first u later q) same number)
        (stream_end u later q (moved (end_handle s setting earlier.first) (end_handle s setting later.first) (end_number s setting earlier.first) (end_number s setting later.first) same number stream)))
      where
        moved : (h k n m : ℕ) → h ≡ k → n ≡ m → IsSomeAnd (reference_of model_of act.handles h n) (λ output. IsOfKind model_of.objects Stream output.object) → IsSomeAnd (reference_of model_of act.handles k m) (λ output. IsOfKind model_of.objects Stream output.object)
        moved h k n m e f st =
            subst (λ (i : ℕ). IsSomeAnd (reference_of model_of act.handles i m) (λ output. IsOfKind model_of.objects Stream output.object)) e
            (subst (λ (i : ℕ). IsSomeAnd (reference_of model_of act.handles h i) (λ output. IsOfKind model_of.objects Stream output.object)) f st)

    pub are_apart : AreTiesApart model_of act t u
    are_apart = subst (λ (v : Tie). AreTiesApart model_of act v u) (sym r.is) (subst (AreTiesApart model_of act (tie_of s setting earlier.first earlier.other)) (sym q.is) (record { inputs = inputs_apart; outputs = outputs_apart }))

  -- ---- all of them

  module _ (ts : List Tie) (follows : Follows Of ts (pairs s.units)) where
    pub all_sound : All (IsSoundTie model_of act) ts
    all_sound = all_in (IsSoundTie model_of act) ts (λ t h. let r = comes_from Of ts (pairs s.units) follows t h in is_sound t r.0 r.1)

    pub all_apart : AllPairs (AreTiesApart model_of act) ts
    all_apart =
        all_pairs (AreTiesApart model_of act) [] ts (λ front more t u e h.
        let c = come Of front more t u (pairs s.units) ts follows e h in are_apart c.front c.more c.before c.from c.is c.among t u c.before_of c.of)

-- ---- in the model

no_compound : (body : _) (activity : step.ActivityTree) → Atomic body ≡ Compound activity → ⊥
no_compound body activity e = cc

module _ (units : List UnitTree) (names : List (List ℕ)) (constants : List ConstantValue) (are : AreConstants units names constants) (own : HaveOwnPlaces (declarations units)) (right : IsNone (NameBreach units names)) (kept : IsNone (TypeBreach units names))
    (domains : List (List Span)) (instances : List Instance) (x : Declaration) (there : In x (declarations units)) (is : is_action x.sort ≡ true) where
  abbrev its : Sources
  its = sources units names constants

  its_facts : AreFacts its
  its_facts = facts_of units names constants are kept own

  its_never : (d : Declaration) → In d (declarations units) → Reaches (declarations units) d d → ⊥
  its_never = no_loops units names right

  abbrev Sound : step.ActivityTree → Type 0
  Sound a = All (IsSoundTie (model_by its domains instances) a) a.binds × AllPairs (AreTiesApart (model_by its domains instances) a) a.binds

  of_content : (c : Option Content) → content_of units x ≡ c → (a : step.ActivityTree) → content its x c ≡ Compound a → Sound a
  unfolding action_at
  of_content None e a same = absurd (no_compound _ a same)
  of_content (Some (Body o body)) e a same = absurd (no_compound _ a same)
  of_content (Some (Activity o (MakeActivity word left statements close))) e a same =
      let i = activity_is its its_facts own right kept its_never x o word left close statements there is e in
      let c = content_stands units x o (MakeActivity word left statements close) e in
      let found = in_find (λ a. same_place a.name.place o.name.place) (actions units) c.1.action c.1.found in
      let setting = setting_of o (OfAction o) in
      let ts : List Tie = ties_in its setting statements in
      let follows = in_sources its its_facts o setting i.type ts i.there c.1.action found.1 (ActionPartActivity (MakeActivity word left statements close)) c.1.among
      (list_come its its_facts o setting i.type setting.at (first_text its its_facts own right kept its_never o) statements i.used i.declared) found.0 in
      let handles : a.handles ≡ handle_types (declarations units) x = sym (ap model_handles same) in
      let steps : activity_of (content its x (content_of units x)) ≡ a.steps = ap (λ (z : Option Content). activity_of (content its x z)) e ∙ ap activity_of same in
      let binds : ts ≡ a.binds = ap binds_of same in
      subst (λ (l : List Tie). All (IsSoundTie (model_by its domains instances) a) l × AllPairs (AreTiesApart (model_by its domains instances) a) l) binds (
        all_sound its its_facts own right kept its_never domains instances x o there is i.base i.there i.is (MakeActivity word left statements close) e i.itself i.type a handles steps ts follows,
        all_apart its its_facts own right kept its_never domains instances x o there is i.base i.there i.is (MakeActivity word left statements close) e i.itself i.type a handles steps ts follows,
      )
    where
      binds_of : ContentTree → List Tie
      binds_of (Compound a) = a.binds
      binds_of (Atomic body) = []

  pub its_ties : (a : step.ActivityTree) → content its x (content_of units x) ≡ Compound a → Sound a
  its_ties a same = of_content (content_of units x) refl a same

pub ties_sound : (units : List UnitTree) (names : List (List ℕ)) (model : ModelTree) → HaveOwnPlaces (declarations units) → IsNone (NameBreach units names) → IsNone (TypeBreach units names) → IsModel units names model
    → All (λ action. (activity : step.ActivityTree) → action.content ≡ Compound activity → HasSoundTies model activity) model.actions
ties_sound units names model own right kept is =
    let s = sources units names is.constants in
    subst (λ (m : ModelTree). All (λ action. (activity : step.ActivityTree) → action.content ≡ Compound activity → HasSoundTies m activity) m.actions) (sym is.is)
    (All-map (λ action. (activity : step.ActivityTree) → action.content ≡ Compound activity → HasSoundTies (model_by s is.domains is.instances) activity) (model_action s is.domains) (those_that is_action (declared_in s))
    (all_in (λ d. (activity : step.ActivityTree) → content s d (content_of units d) ≡ Compound activity → HasSoundTies (model_by s is.domains is.instances) activity) (those_that is_action (declared_in s))
    (λ d there activity same.
    let both = those_declared is_action (declared_in s) d there in
    let h = its_ties units names is.constants is.are_constants own right kept is.domains is.instances d both.0 both.1 activity same in record { ties = h.0; apart = h.1 })))
