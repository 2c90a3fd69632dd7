-- The ends of binds: what they name, and their numbers.
use Rattle.std.proofs.Common.{◌≡◌, ◌≢◌, refl, sym, ap, ◌∙◌}
use Rattle.std.specs.Prelude.{ℕ, Bool, true, false, List, slice_get, Option, Some, None, if◌then◌else◌, option_and_then}
use Rattle.std.specs.Option.{option_map, option_or}
use Rattle.std.proofs.lemmas.Bool.{false≢true}
use Rattle.std.proofs.lemmas.Option.{none-some}
use Rattle.pst_base.specs.declared.position.Place.{Place}
use Rattle.pst_base.specs.declared.table.NameId.{NameId}
use Rattle.pst_ast.specs.declared.activity.EndNode.{EndNode}
use Rattle.pst_ast.specs.declared.instance.Instance.{Instance}
use Rattle.pst_expr.specs.declared.ranges.Span.{Span}
use Rattle.pst_model.specs.ModelTree.{ModelTree}
use Rattle.pst_model.specs.SoundActivity.{reference_of}
use Rattle.pst_ast.specs.Breaches.{IsNone}
use Rattle.pst_ast.specs.declared.scope_declaration.Declaration.{Declaration}
use Rattle.pst_ast.specs.declared.environment.Environment.{Environment}
use Rattle.pst_ast.specs.declared.referent.Finding.{Finding}
use Rattle.pst_ast.specs.declared.referent.Owner.TheVariants.{OfAction}
use Rattle.pst_ast.specs.declared.referent.Referent.TheVariants.{Declared}
use Rattle.pst_ast.specs.Declarations.{declarations}
use Rattle.pst_ast.specs.Lookups.{item_here, referent, member_of, type_of, handled, value_named, stands_for}
use Rattle.pst_ast.specs.NameRules.{NameBreach, Reaches, unless, is_so, is_handle_name, end_named}
use Rattle.pst_ast.specs.Sorts.{is_action, is_handle, is_reference}
use Rattle.pst_ast.specs.Uses.{Ends, uses}
use Rattle.pst_type_rules.specs.Binds.{reference_at}
use Rattle.pst_tree.specs.Bases.{with_bases, handles_of, references_of, handle_number, reference_number}
use Rattle.pst_terms.specs.Sources.{Sources, declared_in}
use Rattle.pst_terms.specs.Readings.{Setting}
use Rattle.pst_elab_rules.specs.Model.{model_by}
use Rattle.pst_elab_rules.specs.Steps.{or_zero, handle_in}
use Rattle.pst_elab_rules.specs.Ties.{end_reference, end_handle, end_number}
use Rattle.pst_elab_rules.specs.Types.{setting_of, handle_types, reference}
use Rattle.pst_sound_model.specs.SoundExpressionsConditions.{HaveOwnPlaces}
use Rattle.pst_sound_model.proofs.Members.{In}
use Rattle.pst_sound_model.proofs.Owned.{of_sort, numbered, member_declared}
use Rattle.pst_sound_model.proofs.Facts.{AreFacts}
use Rattle.pst_sound_model.proofs.Meanings.{without_traversal}
use Rattle.pst_sound_model.proofs.ActionRows.{got_map}
use Rattle.pst_sound_model.proofs.ActionsSound.{handle_numbered}
use Rattle.pst_sound_model.proofs.Typed.{nothing_found}
use Rattle.pst_sound_model.proofs.Handles.{handle_typed}
use Rattle.pst_sound_model.proofs.Numbers.{IsHandleOf, handle_named_is, own_place_of, among_derived, number_derived}
use Rattle.pst_sound_model.proofs.Traversing.{IsText, handle_of_is}

unless_true : (good : Bool) (place : Place) (rule : ℕ) → unless good place rule ≡ None → good ≡ true
unless_true true place rule e = refl
unless_true false place rule e = let never : ⊥ = cc in absurd never

or_none : (a b : Option Finding) → option_or a b ≡ None → (a ≡ None) × (b ≡ None)
or_none None b e = (refl, e)
or_none (Some x) b e = absurd (none-some x (sym e))

so_found : (o : Option Declaration) → is_so is_reference o ≡ true → (r : Declaration) × (o ≡ Some r) × (is_reference r.sort ≡ true)
so_found None e = absurd (false≢true e)
so_found (Some r) e = (r, refl, e)

and_then_gave : {A B : Type 0} (f : A → Option B) (o : Option A) (y : B) → option_and_then f o ≡ Some y → (x : A) × (o ≡ Some x) × (f x ≡ Some y)
and_then_gave f None y e = absurd (none-some y e)
and_then_gave f (Some x) y e = (x, refl, e)

module _ (s : Sources) (facts : AreFacts s) (own : HaveOwnPlaces (declarations s.units)) (right : IsNone (NameBreach s.units s.names)) (never : (d : Declaration) → In d (declared_in s) → Reaches (declared_in s) d d → ⊥) (o : Declaration) where
  abbrev ds : List Declaration
  ds = declared_in s

  abbrev setting : Setting
  setting = setting_of o (OfAction o)

  -- what an end names, by numbers
  pub record IsEnd (at : Environment) (end : EndNode) : Type 0 where
    pub handle : IsHandleOf s.units s.names own right o at end.handle.id
    pub action : Declaration
    pub typed : type_of ds handle.handle ≡ Some action
    pub action_is : is_action action.sort ≡ true
    pub reference : Declaration
    pub member : member_of ds action end.name.id ≡ Some reference
    pub reference_is : is_reference reference.sort ≡ true
    pub among : In reference (references_of ds action)
    pub named : reference_at ds s.names at end ≡ Some reference
    pub stands : stands_for ds s.names at end.handle.id ≡ Some (Declared handle.handle)
    pub handle_number_is : end_handle s setting end ≡ handle_number ds o handle.handle
    pub reference_number_is : end_number s setting end ≡ reference_number ds action reference

  -- in the text of the action, outside of all indices, the name of a handle stands for the same
  value_there : (name : NameId) (h : Declaration) → member_of ds o name ≡ Some h → value_named ds s.names setting.at name ≡ Some (Declared h)
  unfolding value_named
  value_there name h e = ap (λ (d : Option Declaration). option_or (referent d) (referent (item_here ds o.inside name))) e

  abbrev handle_there : (at : Environment) (name : NameId) → (k : IsHandleOf s.units s.names own right o at name) → IsHandleOf s.units s.names own right o setting.at name
  handle_there at name k = record { handle = k.handle; is = k.is; value = value_there name k.handle k.member; member = k.member; among = k.among; named = k.named }

  pub end_is : (at : Environment) (end : EndNode) → IsText ds o at → In (Ends at end.handle end.name) (uses s.units) → IsEnd at end
  end_is at end text used =
      let both = or_none (unless (is_handle_name ds s.names at end.handle) end.handle.place 3) (unless (is_so is_reference (end_named ds s.names at end.handle end.name.id)) end.name.place 6) (nothing_found s.units s.names right (Ends at end.handle end.name) used) in
      let k = handle_named_is s.units s.names own right o at end.handle text.owner text.indices text.plain (unless_true (is_handle_name ds s.names at end.handle) end.handle.place 3 both.0) in
      let r = so_found (end_named ds s.names at end.handle end.name.id) (unless_true (is_so is_reference (end_named ds s.names at end.handle end.name.id)) end.name.place 6 both.1) in
      let stands : stands_for ds s.names at end.handle.id ≡ Some (Declared k.handle) = without_traversal ds s.names at end.handle.id text.plain ∙ k.value in
      let m = member_declared is_handle ds o k.handle k.among in
      let a = handle_typed s facts right k.handle m.0 m.1 in
      let its : handled ds (stands_for ds s.names at end.handle.id) ≡ Some a.0 = ap (handled ds) stands ∙ (ap (λ (b : Bool). if b then type_of ds k.handle else None) k.is ∙ a.1) in
      let member : member_of ds a.0 end.name.id ≡ Some r.0 = sym (ap (option_and_then (λ action. member_of ds action end.name.id)) its) ∙ r.1 in
      let there = handle_there at end.handle.id k in
      record {
        handle = k;
        action = a.0;
        typed = a.1;
        action_is = a.2;
        reference = r.0;
        member = member;
        reference_is = r.2;
        among = of_sort ds a.0 end.name.id r.0 is_reference member r.2;
        named = r.1;
        stands = stands;
        handle_number_is = ap or_zero (handle_of_is s own right o setting end.handle refl there);
        reference_number_is =
            ap (λ (h : Option Declaration). or_zero (option_map (end_reference s end) (option_and_then (type_of ds) h))) (ap handle_in there.value ∙ ap (λ (b : Bool). if b then Some k.handle else None) k.is)
            ∙ (ap (λ (d : Option Declaration). or_zero (option_map (end_reference s end) d)) a.1 ∙ ap (λ (d : Option Declaration). or_zero (option_map (reference_number ds a.0) d)) member);
      }

  -- ---- in an action that has the activity

  module _ (domains : List (List Span)) (instances : List Instance) (x : Declaration) (there : In x ds) (is : is_action x.sort ≡ true) (has : In o (with_bases ds x)) where
    abbrev model_of : ModelTree
    model_of = model_by s domains instances

    pub number_there : (at : Environment) (end : EndNode) → (e : IsEnd at end) → end_handle s setting end ≡ handle_number ds x e.handle.handle
    number_there at end e = e.handle_number_is ∙ number_derived s.units s.names own right never x o there has is_handle e.handle.handle e.handle.among

    among_handles : (h : Declaration) → In h (handles_of ds o) → In h (handles_of ds x)
    among_handles h here = among_derived s.units s.names own right never x o there has is_handle h here

    -- the reference that an end names, in the model
    pub reference_there : (at : Environment) (end : EndNode) → (e : IsEnd at end) → reference_of model_of (handle_types ds x) (end_handle s setting end) (end_number s setting end) ≡ Some (reference ds e.reference)
    reference_there at end e =
        (λ i. reference_of model_of (handle_types ds x) (number_there at end e i) (e.reference_number_is i))
        ∙ (ap (option_and_then (λ action. slice_get action.references (reference_number ds e.action e.reference)))
        (handle_numbered s facts domains instances never x there is e.handle.handle e.action (among_handles e.handle.handle e.handle.among) e.typed)
        ∙ got_map (reference ds) (references_of ds e.action) (reference_number ds e.action e.reference) e.reference
        (numbered (references_of ds e.action) e.reference e.among (own_place_of s.units s.names own right is_reference e.action e.reference e.among)))
