-- Constraints that look behind handles are as they were, where nothing below was touched.
use Rattle.std.proofs.Common.{◌≡◌, ◌⊎◌, ℕ, ℤ, ◌<◌, List, map, length, Contains, false, Option, Some, None, refl, sym, ap, ◌∙◌, subst, inl, inr, ⊎_elim, arith}
use Rattle.std.specs.Prelude.{slice_get}
use Rattle.std.specs.List.{list_any}
use Rattle.std.specs.Option.{option_and_then}
use Rattle.std.proofs.lemmas.Bool.{cases_lt}
use Rattle.std.proofs.lemmas.Option.{slice_get_within, option_and_then_some}
use Rattle.pst_model.specs.ConstraintTree.{SlotTree, ConstraintTree}
use Rattle.pst_model.specs.ActivityTree.{Traverse}
use Rattle.pst_model.specs.ModelTree.{ModelTree, ActionTree}
use Rattle.pst_scen.specs.declared.tree.Node.{Node}
use Rattle.pst_scen.specs.declared.tree.Fill.{Fill}
use Rattle.pst_scen.specs.declared.tree.Fill.TheVariants as fill
use Rattle.pst_scen.specs.declared.act.Act.{Act}
use Rattle.pst_scen.specs.declared.scenario.Scenario.{Scenario}
use Rattle.pst_legal.specs.Types.{type_of}
use Rattle.pst_legal.specs.Statements.{StandsFor}
use Rattle.pst_legal.specs.Standing.{Standing, bound_of}
use Rattle.pst_legal.specs.Slots.{node_slot, inline_slot, act_slot}
use Rattle.pst_legal.specs.Constraints.{HasConstraint, OfCompound, OfAct, OfOutput, OfClaim, OfFirst, Inline, is_refused_at}
use Rattle.pst_legal.specs.First.{NoneRefused}
use Rattle.pst_built.proofs.Members.{In, in_get, none_any, to_map}
use Rattle.pst_slots.specs.Stated.{Stated, statement_of}
use Rattle.pst_slots.specs.Listed.{stating, of_fill, of_stated}
use Rattle.pst_slots.proofs.Kept.{all_found, stands_at}
use Rattle.pst_slots.proofs.Listed.{in_contains}
use Rattle.pst_refusals.specs.Failing.{fails}
use Rattle.pst_refusals.specs.Inlines.{has_inlines}
use Rattle.pst_refusals.specs.Made.{made_slot, of_made}
use Rattle.pst_new_refusals.specs.Since.{IsUnread, IsFresh, IsSince}
use Rattle.pst_new_refusals.specs.Newly.{so_far, is_leaf, of_own, is_own_refused, ArePlainFree, AreInlinesFree}
use Rattle.pst_refusals.proofs.Without.{none_inline}
use Rattle.pst_new_refusals.proofs.Stated.{IsCompoundAt, top_before, top_is, stood}
use Rattle.pst_new_refusals.proofs.Traversed.{leaf_node}
use Rattle.pst_new_refusals.proofs.Same.{same_act, refused_each, refused_same}
use Rattle.pst_model.specs.ConstraintTree.{Own, Object, First as Initial-of, ClaimId, ClaimField, Prev, IsFirst, Id, Index, Local, Through, Outer}
use Rattle.pst_legal.specs.Standing.{Lacking}
use Rattle.pst_legal.specs.Statements.{handle_node}
use Rattle.pst_legal.specs.Slots.{behind, traversed_type, unread_slot, compound_in, fill_slot, maybe_fill_slot, maybe_act_slot}
use Rattle.pst_touched.specs.Touched.{IsTouched, Has, HasTouched}
use Rattle.pst_touched.proofs.Behind.{same_slot}
use Rattle.pst_touched.proofs.Untouched.{has_or, untouched_node, untouched_down, untouched_kids, untouched_act}
use Rattle.pst_new_refusals.specs.Named.{named_of}
use Rattle.pst_new_refusals.specs.Newly.{AreFreeAt, AreStatedFreeAt, AreBehindFree}
use Rattle.pst_new_refusals.proofs.Passed.{passed, of_type_in}
use Rattle.pst_new_refusals.proofs.BehindOuter.{all_or, outer_same, looking_free, named_untouched}
use Rattle.pst_new_refusals.proofs.Acts.{by_act, by_output, by_claim, by_first}

-- what belongs to the action of a leaf, which has no handles
pub leaf_all : (m : ModelTree) (s : Scenario) (n a : ℕ) (node : Node) (act : Act) (slot : SlotTree) → slice_get s.nodes n ≡ Some node → node.fill ≡ fill.Leaf a → slice_get s.actions a ≡ Some act → node_slot m s n slot ≡ act_slot m s a act slot
leaf_all m s n a node act (Through handle slot) is of at =
    ap (λ (o : Option ℕ). behind (λ k. node_slot m s k slot) (option_and_then (λ action. handle_node m s.nodes n action handle) o) (behind (λ type. unread_slot m type slot) (option_and_then (λ action. traversed_type m action handle) o) Lacking))
    (ap (option_and_then (λ (x : Node). compound_in x.fill)) is ∙ ap compound_in of)
leaf_all m s n a node act (Own field) is of at = leaf_node m s n a node act (Own field) is of at refl
leaf_all m s n a node act (Object reference field) is of at = leaf_node m s n a node act (Object reference field) is of at refl
leaf_all m s n a node act (Initial-of reference) is of at = leaf_node m s n a node act (Initial-of reference) is of at refl
leaf_all m s n a node act (ClaimId claim) is of at = leaf_node m s n a node act (ClaimId claim) is of at refl
leaf_all m s n a node act (ClaimField claim field) is of at = leaf_node m s n a node act (ClaimField claim field) is of at refl
leaf_all m s n a node act (Prev field) is of at = leaf_node m s n a node act (Prev field) is of at refl
leaf_all m s n a node act IsFirst is of at = leaf_node m s n a node act IsFirst is of at refl
leaf_all m s n a node act Id is of at = leaf_node m s n a node act Id is of at refl
leaf_all m s n a node act (Index level) is of at = leaf_node m s n a node act (Index level) is of at refl
leaf_all m s n a node act (Local local) is of at = leaf_node m s n a node act (Local local) is of at refl
leaf_all m s n a node act (Outer slot) is of at =
    ap (λ (o : Option Node). maybe_fill_slot m s o (Outer slot)) is ∙ ap (λ (f : Fill). fill_slot m s f (Outer slot)) of ∙ ap (λ (o : Option Act). maybe_act_slot m s a o (Outer slot)) at

module _ (m : ModelTree) (s u : Scenario) (n top : ℕ) (indices : List ℕ) where
  -- all slots of an inline constraint
  all_inline : ((slot : SlotTree) → bound_of (node_slot m s top slot) ≡ bound_of (node_slot m u top slot)) → ((slot : SlotTree) → bound_of (node_slot m s n slot) ≡ bound_of (node_slot m u n slot)) → (slot : SlotTree) → bound_of (inline_slot m s n top indices slot) ≡ bound_of (inline_slot m u n top indices slot)
  all_inline outer own (Outer slot) = outer slot
  all_inline outer own (Index level) = refl
  all_inline outer own (Through handle slot) = own (Through handle slot)
  all_inline outer own (Own field) = own (Own field)
  all_inline outer own (Object reference field) = own (Object reference field)
  all_inline outer own (Initial-of reference) = own (Initial-of reference)
  all_inline outer own (ClaimId claim) = own (ClaimId claim)
  all_inline outer own (ClaimField claim field) = own (ClaimField claim field)
  all_inline outer own (Prev field) = own (Prev field)
  all_inline outer own IsFirst = own IsFirst
  all_inline outer own Id = own Id
  all_inline outer own (Local local) = own (Local local)

  -- and those of a list
  each_inline : (Other : Type 0) (slots : List SlotTree) → ((slot : SlotTree) → In (Outer slot) slots → (bound_of (node_slot m s top slot) ≡ bound_of (node_slot m u top slot)) ⊎ Other) → ((slot : SlotTree) → bound_of (node_slot m s n slot) ≡ bound_of (node_slot m u n slot))
      → (slot : SlotTree) → In slot slots → (bound_of (inline_slot m s n top indices slot) ≡ bound_of (inline_slot m u n top indices slot)) ⊎ Other
  each_inline Other slots outer own (Outer slot) has = outer slot has
  each_inline Other slots outer own (Index level) has = inl refl
  each_inline Other slots outer own (Through handle slot) has = inl (own (Through handle slot))
  each_inline Other slots outer own (Own field) has = inl (own (Own field))
  each_inline Other slots outer own (Object reference field) has = inl (own (Object reference field))
  each_inline Other slots outer own (Initial-of reference) has = inl (own (Initial-of reference))
  each_inline Other slots outer own (ClaimId claim) has = inl (own (ClaimId claim))
  each_inline Other slots outer own (ClaimField claim field) has = inl (own (ClaimField claim field))
  each_inline Other slots outer own (Prev field) has = inl (own (Prev field))
  each_inline Other slots outer own IsFirst has = inl (own IsFirst)
  each_inline Other slots outer own Id has = inl (own Id)
  each_inline Other slots outer own (Local local) has = inl (own (Local local))

  -- and of an action that is looked at by itself
  all_made : ((slot : SlotTree) → bound_of (node_slot m s top slot) ≡ bound_of (node_slot m u top slot)) → (act : Act) → ((slot : SlotTree) → bound_of (node_slot m s n slot) ≡ bound_of (act_slot m u 0 act slot)) → (slot : SlotTree) → bound_of (inline_slot m s n top indices slot) ≡ bound_of (made_slot m u act top indices slot)
  all_made outer act own (Outer slot) = outer slot
  all_made outer act own (Index level) = refl
  all_made outer act own (Through handle slot) = own (Through handle slot)
  all_made outer act own (Own field) = own (Own field)
  all_made outer act own (Object reference field) = own (Object reference field)
  all_made outer act own (Initial-of reference) = own (Initial-of reference)
  all_made outer act own (ClaimId claim) = own (ClaimId claim)
  all_made outer act own (ClaimField claim field) = own (ClaimField claim field)
  all_made outer act own (Prev field) = own (Prev field)
  all_made outer act own IsFirst = own IsFirst
  all_made outer act own Id = own Id
  all_made outer act own (Local local) = own (Local local)

module _ (m : ModelTree) (s t : Scenario) (from : ℕ) (fresh : List Act) (since : IsSince s t from fresh) (none : NoneRefused m s) (list : List ℕ) (all : HasTouched t.nodes from fresh list) where
  abbrev u : Scenario
  u = so_far t.nodes t.actions

  unread : IsUnread u
  unread = record { outputs = since.new.outputs; firsts = refl }

  abbrev IsUntouched : ℕ → Type 0
  IsUntouched n = IsTouched t.nodes from fresh n → ⊥

  -- ---- the same slots

  -- of a node that wasn't touched, in the scenario before
  same_old : (slot : SlotTree) (n : ℕ) → IsUntouched n → bound_of (node_slot m t n slot) ≡ bound_of (node_slot m s n slot)
  same_old =
      same_slot m s t IsUntouched (untouched_node s.nodes t.nodes from fresh since.nodes since.more) (untouched_kids s.nodes t.nodes from fresh since.nodes since.more) (untouched_down s.nodes t.nodes from fresh since.nodes since.more)
      (λ n a node slot not is of.
      let x = since.leaves n a node is of in
      ⊎_elim
      (λ old. ap (λ (o : Option Act). bound_of (maybe_act_slot m t a o slot)) x.1 ∙ same_act m t s since.new since.old a a x.0 slot ∙ sym (ap (λ (o : Option Act). bound_of (maybe_act_slot m s a o slot)) old))
      (λ new. absurd (untouched_act s.nodes t.nodes from fresh since.nodes since.more n new.0 x.0 not new.1 x.2))
      (since.acts a x.0 x.1))

  -- and of any node, in the one that is looked at
  same_now : (slot : SlotTree) (n : ℕ) → bound_of (node_slot m t n slot) ≡ bound_of (node_slot m u n slot)
  same_now slot n = same_slot m u t (λ k. Unit {0}) (λ k is. refl) (λ k is. refl) (λ k index j is at. tt) (λ k a node other is at of. by a other (slice_get t.actions a)) slot n tt
    where
      by : (a : ℕ) (other : SlotTree) (o : Option Act) → bound_of (maybe_act_slot m t a o other) ≡ bound_of (maybe_act_slot m u a o other)
      by a other None = refl
      by a other (Some act) = same_act m t u since.new unread a a act other

  -- ---- constraints of compound actions

  module _ (free : ArePlainFree m u from fresh) (above : AreFreeAt m u list) where
    by_node : (n action instance : ℕ) (fields : List ℤ) (node : Node) (type : ActionTree) (k : ConstraintTree) → slice_get t.nodes n ≡ Some node → node.fill ≡ fill.Compound action instance fields → type_of m action ≡ Some type → Contains type.constraints k
        → is_refused_at k (node_slot m t n) ≡ false
    by_node n action instance fields node type k is leaf of has = ⊎_elim (λ below. old below (has_or list n)) (λ over. looked (free.nodes n node over (slice_get_within t.nodes n node is) is)) (cases_lt n from)
      where
        looked : list_any (fails false) (of_fill m u n node.fill) ≡ false → is_refused_at k (node_slot m t n) ≡ false
        looked passes =
            let inside : In (stating (node_slot m u n) k) (of_fill m u n node.fill) = subst (λ f. In (stating (node_slot m u n) k) (of_fill m u n f)) (sym leaf) (of_type_in m (node_slot m u n) action type k of has) in
            refused_same k (node_slot m t n) (node_slot m u n) (λ slot. same_now slot n) (passed (of_fill m u n node.fill) (node_slot m u n) k passes inside)

        old : n < from → Has list n ⊎ (Has list n → ⊥) → is_refused_at k (node_slot m t n) ≡ false
        old below (inl there) = looked (above n there node is)
        old below (inr other) =
            refused_same k (node_slot m t n) (node_slot m s n) (λ slot. same_old slot n (λ touched. other (all n below touched)))
            (none k (node_slot m s n) (OfCompound n action instance fields node type k (since.nodes n node below is) leaf of has))

  -- ---- inline constraints

  module _ (n top action : ℕ) (handle : Option ℕ) (inline : List ConstraintTree) (indices : List ℕ) (k : ConstraintTree) (stands : StandsFor m t.nodes top n (Traverse action handle inline) indices) (has : Contains inline k)
      (named : List (List ℕ)) (of_types : named ≡ map named_of m.actions) (looked_behind : AreBehindFree m u named from list) (tests : AreInlinesFree m u from fresh) (stated : AreStatedFreeAt m u list) where
    abbrev found : Stated
    found = record { top = top; step = Traverse action handle inline; indices = indices }

    is_found : statement_of m u.nodes n ≡ Some found
    is_found = all_found m t.nodes since.earlier n top (Traverse action handle inline) indices stands

    -- the inline constraints at the node are looked at
    by_looked : list_any (fails false) (of_stated m u n (statement_of m u.nodes n)) ≡ false → is_refused_at k (inline_slot m t n top indices) ≡ false
    by_looked passes =
        let one = stating (inline_slot m u n top indices) k in
        let inside : In one (of_stated m u n (statement_of m u.nodes n)) = subst (λ o. In one (of_stated m u n o)) (sym is_found) (to_map (stating (inline_slot m u n top indices)) inline k (in_contains inline k has)) in
        refused_same k (inline_slot m t n top indices) (inline_slot m u n top indices) (all_inline m t u n top indices (λ slot. same_now slot top) (λ slot. same_now slot n))
        (passed (of_stated m u n (statement_of m u.nodes n)) (inline_slot m u n top indices) k passes inside)

    abbrev IsFree : Type 0
    IsFree = is_refused_at k (inline_slot m t n top indices) ≡ false

    -- the node stood for the statement before
    by_old : n < length s.nodes → ((slot : SlotTree) → bound_of (node_slot m t n slot) ≡ bound_of (node_slot m s n slot)) → IsFree
    by_old l own =
        ⊎_elim (λ same. refused_each k (inline_slot m t n top indices) (inline_slot m s n top indices) same free_before) (λ free. free)
        (all_or (λ slot. bound_of (inline_slot m t n top indices slot) ≡ bound_of (inline_slot m s n top indices slot)) IsFree k.slots (each_inline m t s n top indices IsFree k.slots outer own))
      where
        up : IsCompoundAt t.nodes top
        up = top_is m t.nodes top stands

        before : top < from
        before = let lower = top_before m t.nodes since.earlier top stands in let few = since.few in omega (arith, lower, l, few)

        free_before : is_refused_at k (inline_slot m s n top indices) ≡ false
        free_before = none k (inline_slot m s n top indices) (Inline n top action handle inline indices k (stood m s.nodes t.nodes since.more since.earlier top n (Traverse action handle inline) indices l stands) has)

        behind_it : Has list top → (name : ℕ) (inner : SlotTree) → In (Outer (Through name inner)) k.slots → (j : ℕ) → handle_node m t.nodes top up.action name ≡ Some j → IsUntouched j ⊎ IsFree
        behind_it there name inner looks j at =
            ⊎_elim (λ not_touched. inl not_touched) (λ free. inr (by_looked (looking_free m u since.earlier n top action handle inline indices k stands has name inner looks free)))
            (named_untouched m u since.earlier n top action handle inline indices k stands has name inner looks s.nodes from fresh since.nodes since.more list all there up named of_types looked_behind j at)

        outer : (slot : SlotTree) → In (Outer slot) k.slots → (bound_of (node_slot m t top slot) ≡ bound_of (node_slot m s top slot)) ⊎ IsFree
        outer slot looks =
            ⊎_elim
            (λ there. outer_same m s t from fresh since same_old top up (since.nodes top up.node before up.is) IsFree slot (λ name inner same. behind_it there name inner (subst (λ x. In (Outer x) k.slots) same looks)))
            (λ other. inl (same_old slot top (λ touched. other (all top before touched))))
            (has_or list top)

    by_leaf : (a : ℕ) (node : Node) (act : Act) → slice_get t.nodes n ≡ Some node → node.fill ≡ fill.Leaf a → slice_get t.actions a ≡ Some act → act.node ≡ Some n → (slice_get s.actions a ≡ Some act) ⊎ IsFresh fresh act → is_refused_at k (inline_slot m t n top indices) ≡ false
    by_leaf a node act is leaf at home (inl old) =
        let x = since.homes a n act old home in
        by_old (slice_get_within s.nodes n x.0 x.1)
        (λ slot. ap bound_of (leaf_all m t n a node act slot is leaf at) ∙ same_act m t s since.new since.old a a act slot ∙ ap bound_of (sym (leaf_all m s n a x.0 act slot x.1 x.2 old)))
    by_leaf a node act is leaf at home (inr new) =
        let one = stating (made_slot m u act top indices) k in
        let made : of_own m u act act.node ≡ of_made m u act (Some found) = ap (of_own m u act) home ∙ ap (of_made m u act) is_found in
        let inside : In one (of_own m u act act.node) = subst (In one) (sym made) (to_map (stating (made_slot m u act top indices)) inline k (in_contains inline k has)) in
        refused_same k (inline_slot m t n top indices) (made_slot m u act top indices)
        (all_made m t u n top indices (λ slot. same_now slot top) act (λ slot. ap bound_of (leaf_all m t n a node act slot is leaf at) ∙ same_act m t u since.new unread a 0 act slot))
        (passed (of_own m u act act.node) (made_slot m u act top indices) k (none_any (is_own_refused m u) fresh act (tests.acts since.earlier) (in_get fresh new.0 act new.1)) inside)

    by_other : (node : Node) → slice_get t.nodes n ≡ Some node → is_leaf node.fill ≡ false → is_refused_at k (inline_slot m t n top indices) ≡ false
    by_other node is other =
        ⊎_elim
        (λ below. ⊎_elim
        (λ there. by_looked (stated n there since.earlier))
        (λ without. by_old (slice_get_within s.nodes n node (since.nodes n node below is)) (λ slot. same_old slot n (λ touched. without (all n below touched))))
        (has_or list n))
        (λ above. by_looked (tests.nodes since.earlier n node above (slice_get_within t.nodes n node is) is other))
        (cases_lt n from)

    by_fill : (node : Node) (f : Fill) → slice_get t.nodes n ≡ Some node → node.fill ≡ f → is_refused_at k (inline_slot m t n top indices) ≡ false
    by_fill node (fill.Leaf a) is of = let x = since.leaves n a node is of in by_leaf a node x.0 is of x.1 x.2 (since.acts a x.0 x.1)
    by_fill node (fill.Compound action instance fields) is of = by_other node is (ap is_leaf of)
    by_fill node fill.Sequence is of = by_other node is (ap is_leaf of)
    by_fill node fill.Parallel is of = by_other node is (ap is_leaf of)
    by_fill node fill.Schedule is of = by_other node is (ap is_leaf of)
    by_fill node (fill.Joined parallel joined) is of = by_other node is (ap is_leaf of)
    by_fill node (fill.Select branch) is of = by_other node is (ap is_leaf of)
    by_fill node fill.Repeat is of = by_other node is (ap is_leaf of)
    by_fill node (fill.Turn index) is of = by_other node is (ap is_leaf of)
    by_fill node (fill.If taken) is of = by_other node is (ap is_leaf of)
    by_fill node (fill.Match arm) is of = by_other node is (ap is_leaf of)

    pub by_any : is_refused_at k (inline_slot m t n top indices) ≡ false
    by_any = let at = stands_at m t.nodes top stands in by_fill at.0 at.0.fill at.1 refl

  -- ---- all constraints

  module _ (free : ArePlainFree m u from fresh) (above : AreFreeAt m u list)
      (named : List (List ℕ)) (of_types : named ≡ map named_of m.actions) (looked_behind : AreBehindFree m u named from list)
      (inlines : (has_inlines m ≡ false) ⊎ (AreInlinesFree m u from fresh × AreStatedFreeAt m u list)) where
    by_inline : (n top action : ℕ) (handle : Option ℕ) (inline : List ConstraintTree) (indices : List ℕ) (k : ConstraintTree) → StandsFor m t.nodes top n (Traverse action handle inline) indices → Contains inline k
        → (has_inlines m ≡ false) ⊎ (AreInlinesFree m u from fresh × AreStatedFreeAt m u list) → is_refused_at k (inline_slot m t n top indices) ≡ false
    by_inline n top action handle inline indices k stands has (inl without) = absurd (none_inline m without t.nodes top n action handle inline indices k stands has)
    by_inline n top action handle inline indices k stands has (inr tests) =
        by_any n top action handle inline indices k stands has named of_types looked_behind tests.0 tests.1

    each : {k : ConstraintTree} {standing : SlotTree → Standing} → HasConstraint m t k standing → is_refused_at k standing ≡ false
    each (OfCompound n action instance fields node type k is leaf of has) = by_node free above n action instance fields node type k is leaf of has
    each (OfAct a act type k is has) = by_act m s t from fresh since none t.actions unread free.acts a act type k is.of_type has (since.acts a act is.is)
    each (OfOutput a r filled object k is output of has) =
        option_and_then_some (λ (x : Act). slice_get x.references r) (slice_get t.actions a) filled is (λ act there at. by_output m s t from fresh since none t.actions unread free.acts a r act filled object k at output of has (since.acts a act there))
    each (OfClaim a c act type claim object k is at of has) = by_claim m s t from fresh since none t.actions unread free.acts a c act type claim object k is.of_type at of has (since.acts a act is.is)
    each (OfFirst a r filled object k is state of has) =
        option_and_then_some (λ (x : Act). slice_get x.references r) (slice_get t.actions a) filled is (λ act there at. by_first m s t from fresh since none t.actions unread free.acts a r act filled object k at state of has (since.acts a act there))
    each (Inline n top action handle inline indices k stands has) = by_inline n top action handle inline indices k stands has inlines

    pub kept_far : NoneRefused m t
    kept_far k standing has = each has
