-- The slots of all constraints, from those of atomic actions and of objects.
use Rattle.std.proofs.Common.{◌≡◌, ℕ, ◌<◌, ℤ, List, length, Contains, true, pos, Option, Some, None, refl, sym, ap, ◌∙◌, subst}
use Rattle.std.specs.Prelude.{slice_get}
use Rattle.std.specs.Option.{option_and_then}
use Rattle.std.proofs.lemmas.List.Elements.{All-contains}
use Rattle.std.proofs.lemmas.Option.{same_Some, option_and_then_some, slice_get_within}
use Rattle.pst_model.specs.declared.model.Pool.{Pool}
use Rattle.pst_model.specs.ConstraintTree.{SlotTree, Own, Object, First as Initial-of, ClaimId, ClaimField, Prev, IsFirst, Id, Index, Local, Through, Outer, ConstraintTree}
use Rattle.pst_model.specs.ActivityTree.{Traverse, ActivityTree}
use Rattle.pst_model.specs.ModelTree.{ModelTree, ActionTree, ObjectTree}
use Rattle.pst_model.specs.SoundSlots.{IsActionSlot, IsConstraintSlot, IsInlineSlot, IsObjectSlot, activity_of, handles_of, handle_type}
use Rattle.pst_model.specs.Traversals.{IsSteady}
use Rattle.pst_model.specs.SoundConstraint.{IsSoundConstraint}
use Rattle.pst_model.specs.SoundActivity.{IsTraversed}
use Rattle.pst_model.specs.Sound.{IsSoundObject, IsSoundAction, IsSound}
use Rattle.pst_scen.specs.declared.tree.Node.{Node}
use Rattle.pst_scen.specs.declared.tree.Fill.{Fill}
use Rattle.pst_scen.specs.declared.tree.Fill.TheVariants as fill
use Rattle.pst_scen.specs.declared.act.Act.{Act}
use Rattle.pst_scen.specs.declared.act.Filled.{Filled}
use Rattle.pst_scen.specs.declared.scenario.Scenario.{Scenario}
use Rattle.pst_scen.specs.Scenarios.{reference_at}
use Rattle.pst_legal.specs.Types.{type_of, action_field, action_activity, activity_in, pool_object, is_output, is_state_pool}
use Rattle.pst_legal.specs.Growing.{nothing_yet, most_levels}
use Rattle.pst_legal.specs.Pieces.{Action, IsValueOf}
use Rattle.pst_legal.specs.Fits.{FillsRoot}
use Rattle.pst_legal.specs.Standing.{Standing, Known, Lacking, value_or, number_or_lacking, unread, field_span}
use Rattle.pst_legal.specs.Slots.{behind, traversed_type, unread_slot, act_slot, output_slot, resource_slot, first_object_slot, compound_slot, maybe_act_slot, fill_slot, maybe_fill_slot, compound_in, compound_at as type_at, node_behind, type_behind, node_slot, inline_slot}
use Rattle.pst_legal.specs.Statements.{handle_node, node_on, way_in, StandsFor}
use Rattle.pst_legal.specs.Constraints.{HasConstraint, OfCompound, OfAct, OfOutput, OfClaim, OfFirst, Inline}
use Rattle.pst_built.proofs.SoundActs.{all_get, some_and}
use Rattle.pst_slots.proofs.Kept.{stands_at}
use Rattle.pst_slots.specs.Decided.{IsDecided}
use Rattle.pst_slots.proofs.Lists.{decided_or, nothing_unread, zip_past}
use Rattle.pst_slots.proofs.Owned.{no_span}
use Rattle.pst_slots.proofs.Parts.{PartOf, grows}
use Rattle.pst_slots.proofs.Stood.{IsStood, whole_stood}
use Rattle.pst_slots.proofs.Compounds.{IsCompoundAt, compound_at, same_type}
use Rattle.pst_slots.proofs.Statements.{is_statement}
use Rattle.pst_slots.proofs.Handles.{steady_node}
use Rattle.pst_slots.proofs.Sounds.{sound_in}

-- a slot without a handle
abbrev IsPlain : SlotTree → Type 0
IsPlain (Through handle slot) = ⊥
IsPlain _ = Unit {0}

of_action : (objects : List ObjectTree) (type : ActionTree) (slot : SlotTree) → IsActionSlot objects type slot → IsPlain slot
of_action objects type (Through handle slot) is = is
of_action objects type (Own field) is = tt
of_action objects type (Object reference field) is = tt
of_action objects type (Initial-of reference) is = tt
of_action objects type (ClaimId claim) is = tt
of_action objects type (ClaimField claim field) is = tt
of_action objects type (Prev field) is = tt
of_action objects type IsFirst is = tt
of_action objects type Id is = tt
of_action objects type (Index level) is = tt
of_action objects type (Local local) is = tt
of_action objects type (Outer slot) is = tt

-- an object of a pool is one of the model's
pool_of : {P : Type 0} (m : ModelTree) (pool : ℕ) (object : ObjectTree) → pool_object m pool ≡ Some object → ((k : ℕ) → slice_get m.objects k ≡ Some object → P) → P
pool_of m pool object e go = option_and_then_some (λ (p : Pool). slice_get m.objects p.object) (slice_get m.pools pool) object e (λ p is has. go p.object has)

-- What holds of what is decided, and of the slots of atomic actions and of objects, holds of each slot of each constraint.
module _ (m : ModelTree) (root : ℕ) (s : Scenario) (sound : IsSound m) (tree : FillsRoot m root s) (P : Standing → Type 0) (decided_is : (x : Standing) → IsDecided x → P x)
    (acts : (a : ℕ) (act : Act) → slice_get s.actions a ≡ Some act → (slot : SlotTree) → P (act_slot m s a act slot))
    (outputs : (a r : ℕ) (filled : Filled) (object : ObjectTree) → reference_at s.actions a r ≡ Some filled → is_output filled.flow ≡ true → pool_object m filled.pool ≡ Some object
    → (slot : SlotTree) → IsObjectSlot object slot → P (output_slot m s a r filled slot))
    (resources : (a : ℕ) (act : Act) → slice_get s.actions a ≡ Some act → (c : ℕ) (slot : SlotTree) → P (resource_slot m a act c slot))
    (firsts : (a r : ℕ) (filled : Filled) (object : ObjectTree) → reference_at s.actions a r ≡ Some filled → is_state_pool m filled.pool ≡ true → pool_object m filled.pool ≡ Some object
    → (slot : SlotTree) → P (first_object_slot m s filled.pool slot)) where
  lacking : P Lacking
  lacking = decided_is Lacking tt

  -- the number of a turn, if there is one
  numbered : (o : Option ℕ) → P (number_or_lacking o)
  numbered None = lacking
  numbered (Some n) = decided_is (Known (pos n)) tt

  part : PartOf m most_levels (Action root None) None 0 s.nodes
  part =
      let g = grows m most_levels (Action root None) None (nothing_yet s.level) tree.tree tree.fills in
      subst (PartOf m most_levels (Action root None) None 0) (sym (tree.nodes ∙ g.all)) g.part

  each_stands : (i : ℕ) → i < length s.nodes → IsStood m s.nodes i
  each_stands i l = whole_stood m s.nodes most_levels (Action root None) part i l

  stood_at : (n : ℕ) (node : Node) → slice_get s.nodes n ≡ Some node → IsStood m s.nodes n
  stood_at n node is = each_stands n (slice_get_within s.nodes n node is)

  whole_at : (n : ℕ) (node : Node) (action instance : ℕ) (fields : List ℤ) → slice_get s.nodes n ≡ Some node → node.fill ≡ fill.Compound action instance fields → IsCompoundAt m s.nodes n action fields
  whole_at n node action instance fields is of = compound_at m s.nodes n node action instance fields is of (stood_at n node is)

  -- ---- slots without a handle

  by_act : (a : ℕ) (act : Option Act) (slot : SlotTree) → slice_get s.actions a ≡ act → P (maybe_act_slot m s a act slot)
  by_act a None slot is = lacking
  by_act a (Some act) slot is = acts a act is slot

  by_compound : (n : ℕ) (node : Node) (action instance : ℕ) (fields : List ℤ) (slot : SlotTree) → slice_get s.nodes n ≡ Some node → node.fill ≡ fill.Compound action instance fields → P (compound_slot m action fields slot)
  by_compound n node action instance fields (Own field) is of =
      let whole = whole_at n node action instance fields is of in
      decided_is (value_or (slice_get fields field) (unread (field_span (action_field m action field)))) (decided_or (slice_get fields field) (unread (field_span (action_field m action field)))
      (λ none. nothing_unread (field_span (action_field m action field))
      (no_span (action_field m action field) (ap (option_and_then (λ (x : ActionTree). slice_get x.fields field)) whole.is ∙ zip_past IsValueOf whole.type.fields fields field whole.values none))))
  by_compound n node action instance fields (Object reference field) is of = lacking
  by_compound n node action instance fields (Initial-of reference) is of = lacking
  by_compound n node action instance fields (ClaimId claim) is of = lacking
  by_compound n node action instance fields (ClaimField claim field) is of = lacking
  by_compound n node action instance fields (Prev field) is of = lacking
  by_compound n node action instance fields IsFirst is of = lacking
  by_compound n node action instance fields Id is of = lacking
  by_compound n node action instance fields (Index level) is of = lacking
  by_compound n node action instance fields (Local local) is of = lacking
  by_compound n node action instance fields (Through handle slot) is of = lacking
  by_compound n node action instance fields (Outer slot) is of = lacking

  by_fill : (n : ℕ) (node : Node) (f : Fill) (slot : SlotTree) → slice_get s.nodes n ≡ Some node → node.fill ≡ f → P (fill_slot m s f slot)
  by_fill n node (fill.Leaf act) slot is of = by_act act (slice_get s.actions act) slot refl
  by_fill n node (fill.Compound action instance fields) slot is of = by_compound n node action instance fields slot is of
  by_fill n node fill.Sequence slot is of = lacking
  by_fill n node fill.Parallel slot is of = lacking
  by_fill n node fill.Schedule slot is of = lacking
  by_fill n node (fill.Joined parallel joined) slot is of = lacking
  by_fill n node (fill.Select branch) slot is of = lacking
  by_fill n node fill.Repeat slot is of = lacking
  by_fill n node (fill.Turn index) slot is of = lacking
  by_fill n node (fill.If taken) slot is of = lacking
  by_fill n node (fill.Match arm) slot is of = lacking

  by_node : (n : ℕ) (node : Option Node) (slot : SlotTree) → slice_get s.nodes n ≡ node → P (maybe_fill_slot m s node slot)
  by_node n None slot is = lacking
  by_node n (Some node) slot is = by_fill n node node.fill slot is refl

  plain : (n : ℕ) (slot : SlotTree) → IsPlain slot → P (node_slot m s n slot)
  plain n (Through handle slot) is = absurd is
  plain n (Own field) is = by_node n (slice_get s.nodes n) (Own field) refl
  plain n (Object reference field) is = by_node n (slice_get s.nodes n) (Object reference field) refl
  plain n (Initial-of reference) is = by_node n (slice_get s.nodes n) (Initial-of reference) refl
  plain n (ClaimId claim) is = by_node n (slice_get s.nodes n) (ClaimId claim) refl
  plain n (ClaimField claim field) is = by_node n (slice_get s.nodes n) (ClaimField claim field) refl
  plain n (Prev field) is = by_node n (slice_get s.nodes n) (Prev field) refl
  plain n IsFirst is = by_node n (slice_get s.nodes n) IsFirst refl
  plain n Id is = by_node n (slice_get s.nodes n) Id refl
  plain n (Index level) is = by_node n (slice_get s.nodes n) (Index level) refl
  plain n (Local local) is = by_node n (slice_get s.nodes n) (Local local) refl
  plain n (Outer slot) is = by_node n (slice_get s.nodes n) (Outer slot) refl

  -- ---- slots behind a handle

  through : (n : ℕ) (node : Node) (action instance : ℕ) (fields : List ℤ) (type : ActionTree) (handle : ℕ) (slot : SlotTree) → slice_get s.nodes n ≡ Some node → node.fill ≡ fill.Compound action instance fields → type_of m action ≡ Some type
      → IsConstraintSlot m type (Through handle slot) → P (node_slot m s n (Through handle slot))
  through n node action instance fields type handle slot is of typed (steady, traversed) =
      let whole = whole_at n node action instance fields is of in
      let same : type ≡ whole.type = same_Some type whole.type (sym typed ∙ whole.is) in
      let once : IsSteady handle whole.activity.steps = subst (λ c. IsSteady handle (activity_of c)) (ap (λ (t : ActionTree). t.content) same ∙ whole.content) steady in
      let k = steady_node m s.nodes handle whole.context whole.levels n whole.activity.steps once whole.children in
      let active : action_activity m action ≡ Some whole.activity = ap (option_and_then (λ (t : ActionTree). activity_in t.content)) whole.is ∙ ap activity_in whole.content in
      let at : type_at s.nodes n ≡ Some action = ap (option_and_then (λ (x : Node). compound_in x.fill)) is ∙ ap compound_in of in
      let there : node_behind m s.nodes n handle ≡ Some k.0 =
      ap (option_and_then (λ a. handle_node m s.nodes n a handle)) at
      ∙ ap (option_and_then (λ (x : ActivityTree). option_and_then (node_on s.nodes n) (way_in handle 0 x.steps))) active ∙ k.1 in
      let some = some_and (handle_type m (handles_of type.content) handle) (λ (t : ActionTree). IsActionSlot m.objects t slot) traversed in
      let inner : P (node_slot m s k.0 slot) = plain k.0 slot (of_action m.objects some.0 slot some.2) in
      subst (λ o. P (behind (λ j. node_slot m s j slot) o (behind (λ t. unread_slot m t slot) (type_behind m s.nodes n handle) Lacking))) (sym there) inner

  of_node : (n : ℕ) (node : Node) (action instance : ℕ) (fields : List ℤ) (type : ActionTree) (slot : SlotTree) → slice_get s.nodes n ≡ Some node → node.fill ≡ fill.Compound action instance fields → type_of m action ≡ Some type
      → IsConstraintSlot m type slot → P (node_slot m s n slot)
  of_node n node action instance fields type (Through handle slot) is of typed means = through n node action instance fields type handle slot is of typed means
  of_node n node action instance fields type (Own field) is of typed means = plain n (Own field) tt
  of_node n node action instance fields type (Object reference field) is of typed means = plain n (Object reference field) tt
  of_node n node action instance fields type (Initial-of reference) is of typed means = plain n (Initial-of reference) tt
  of_node n node action instance fields type (ClaimId claim) is of typed means = plain n (ClaimId claim) tt
  of_node n node action instance fields type (ClaimField claim field) is of typed means = plain n (ClaimField claim field) tt
  of_node n node action instance fields type (Prev field) is of typed means = absurd means
  of_node n node action instance fields type IsFirst is of typed means = absurd means
  of_node n node action instance fields type Id is of typed means = absurd means
  of_node n node action instance fields type (Index level) is of typed means = absurd means
  of_node n node action instance fields type (Local local) is of typed means = absurd means
  of_node n node action instance fields type (Outer slot) is of typed means = absurd means

  -- nothing stands behind a handle of what is no compound action
  no_handles : (n : ℕ) (node : Node) (handle : ℕ) (slot : SlotTree) → slice_get s.nodes n ≡ Some node → compound_in node.fill ≡ None → P (node_slot m s n (Through handle slot))
  no_handles n node handle slot is none =
      let at : type_at s.nodes n ≡ None = ap (option_and_then (λ (x : Node). compound_in x.fill)) is ∙ none in
      subst
      (λ o. P (behind (λ j. node_slot m s j slot) (option_and_then (λ a. handle_node m s.nodes n a handle) o) (behind (λ t. unread_slot m t slot) (option_and_then (λ a. traversed_type m a handle) o) Lacking)))
      (sym at) lacking

  behind_handle : (n : ℕ) (node : Node) (f : Fill) (of : ℕ) (type : ActionTree) (handle : ℕ) (slot : SlotTree) → slice_get s.nodes n ≡ Some node → node.fill ≡ f → type_of m of ≡ Some type
      → ((action instance : ℕ) (fields : List ℤ) → node.fill ≡ fill.Compound action instance fields → of ≡ action) → IsConstraintSlot m type (Through handle slot) → P (node_slot m s n (Through handle slot))
  behind_handle n node (fill.Compound action instance fields) of type handle slot is filled typed same means =
      through n node action instance fields type handle slot is filled (ap (type_of m) (sym (same action instance fields filled)) ∙ typed) means
  behind_handle n node (fill.Leaf act) of type handle slot is filled typed same means = no_handles n node handle slot is (ap compound_in filled)
  behind_handle n node fill.Sequence of type handle slot is filled typed same means = no_handles n node handle slot is (ap compound_in filled)
  behind_handle n node fill.Parallel of type handle slot is filled typed same means = no_handles n node handle slot is (ap compound_in filled)
  behind_handle n node fill.Schedule of type handle slot is filled typed same means = no_handles n node handle slot is (ap compound_in filled)
  behind_handle n node (fill.Joined parallel joined) of type handle slot is filled typed same means = no_handles n node handle slot is (ap compound_in filled)
  behind_handle n node (fill.Select branch) of type handle slot is filled typed same means = no_handles n node handle slot is (ap compound_in filled)
  behind_handle n node fill.Repeat of type handle slot is filled typed same means = no_handles n node handle slot is (ap compound_in filled)
  behind_handle n node (fill.Turn index) of type handle slot is filled typed same means = no_handles n node handle slot is (ap compound_in filled)
  behind_handle n node (fill.If taken) of type handle slot is filled typed same means = no_handles n node handle slot is (ap compound_in filled)
  behind_handle n node (fill.Match arm) of type handle slot is filled typed same means = no_handles n node handle slot is (ap compound_in filled)

  -- ---- inline constraints

  of_inline : (n top of : ℕ) (handle : Option ℕ) (inline : List ConstraintTree) (indices : List ℕ) → StandsFor m s.nodes top n (Traverse of handle inline) indices
      → (k : ConstraintTree) → Contains inline k → (slot : SlotTree) → Contains k.slots slot → P (inline_slot m s n top indices slot)
  of_inline n top of handle inline indices stands k has slot among =
      let here = sound_in m s.nodes sound top stands in
      let it = is_statement m s.nodes each_stands top stands in
      let traversed = some_and (slice_get m.actions of) (IsTraversed m here.type here.levels inline) here.each.1 in
      let means = All-contains (IsInlineSlot m here.type traversed.0 here.levels) k.slots slot (All-contains (IsSoundConstraint (IsInlineSlot m here.type traversed.0 here.levels)) inline k traversed.2.constraints has).slots among in
      let at = stands_at m s.nodes top stands in
      go here.node here.action here.instance here.fields here.type traversed.0 here.levels at.0 slot here.is_node here.filled here.is traversed.1 at.1
      (λ action instance fields filled. same_type m s.nodes n it.levels of it.context handle inline at.0 action instance fields at.1 filled it.stood) means
    where
      go : (above : Node) (action instance : ℕ) (fields : List ℤ) (type traversed : ActionTree) (levels : ℕ) (node : Node) (slot : SlotTree) → slice_get s.nodes top ≡ Some above → above.fill ≡ fill.Compound action instance fields
          → type_of m action ≡ Some type → slice_get m.actions of ≡ Some traversed → slice_get s.nodes n ≡ Some node
          → ((action instance : ℕ) (fields : List ℤ) → node.fill ≡ fill.Compound action instance fields → of ≡ action)
          → IsInlineSlot m type traversed levels slot → P (inline_slot m s n top indices slot)
      go above action instance fields type traversed levels node (Outer slot) is filled typed found at same means = of_node top above action instance fields type slot is filled typed means
      go above action instance fields type traversed levels node (Index level) is filled typed found at same means = numbered (slice_get indices level)
      go above action instance fields type traversed levels node (Through handle slot) is filled typed found at same means = behind_handle n node node.fill of traversed handle slot at refl found same means
      go above action instance fields type traversed levels node (Own field) is filled typed found at same means = plain n (Own field) tt
      go above action instance fields type traversed levels node (Object reference field) is filled typed found at same means = plain n (Object reference field) tt
      go above action instance fields type traversed levels node (Initial-of reference) is filled typed found at same means = plain n (Initial-of reference) tt
      go above action instance fields type traversed levels node (ClaimId claim) is filled typed found at same means = plain n (ClaimId claim) tt
      go above action instance fields type traversed levels node (ClaimField claim field) is filled typed found at same means = plain n (ClaimField claim field) tt
      go above action instance fields type traversed levels node (Prev field) is filled typed found at same means = absurd means
      go above action instance fields type traversed levels node IsFirst is filled typed found at same means = absurd means
      go above action instance fields type traversed levels node Id is filled typed found at same means = absurd means
      go above action instance fields type traversed levels node (Local local) is filled typed found at same means = absurd means

  -- ---- all constraints

  pub each_slot : {k : ConstraintTree} {standing : SlotTree → Standing} → HasConstraint m s k standing → (slot : SlotTree) → Contains k.slots slot → P (standing slot)
  each_slot (OfCompound n action instance fields node type k is of typed has) slot among =
      let whole = all_get (IsSoundAction m) m.actions action type sound.actions typed in
      of_node n node action instance fields type slot is of typed
      (All-contains (IsConstraintSlot m type) k.slots slot (All-contains (IsSoundConstraint (IsConstraintSlot m type)) type.constraints k whole.constraints has).slots among)
  each_slot (OfAct a act type k is has) slot among = acts a act is.is slot
  each_slot (OfOutput a r filled object k is output of has) slot among =
      pool_of m filled.pool object of
      (λ i at.
      let whole = all_get IsSoundObject m.objects i object sound.objects at in
      outputs a r filled object is output of slot
      (All-contains (IsObjectSlot object) k.slots slot (All-contains (IsSoundConstraint (IsObjectSlot object)) object.constraints k whole.constraints has).slots among))
  each_slot (OfClaim a c act type claim object k is at of has) slot among = resources a act is.is c slot
  each_slot (OfFirst a r filled object k is state of has) slot among = firsts a r filled object is state of slot
  each_slot (Inline n top action handle inline indices k stands has) slot among = of_inline n top action handle inline indices stands k has slot among
