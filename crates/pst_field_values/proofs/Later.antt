-- What later scenarios keep of a site: its constraints, what its slots stand for, and that more is known of them.
use Rattle.std.proofs.Common.{◌≡◌, ◌⊎◌, ℕ, ℤ, List, length, Contains, Option, Some, None, refl, sym, ap, ◌∙◌, subst, inl, inr, arith}
use Rattle.std.specs.Prelude.{slice_get}
use Rattle.std.proofs.lemmas.Option.{none-some, same_Some, option_and_then_some}
use Rattle.pst_expr.specs.declared.ranges.Span.{Span}
use Rattle.pst_domain.specs.Bounds.{Holds as HoldsIn, IsInside}
use Rattle.pst_model.specs.ConstraintTree.{SlotTree, Own, ConstraintTree}
use Rattle.pst_model.specs.ActivityTree.{StepTree, Traverse}
use Rattle.pst_model.specs.ModelTree.{ModelTree, ActionTree}
use Rattle.pst_model.specs.Sound.{IsSound}
use Rattle.pst_scen.specs.declared.tree.Node.{Node}
use Rattle.pst_scen.specs.declared.tree.Fill.{Fill}
use Rattle.pst_scen.specs.declared.tree.Fill.TheVariants as fill
use Rattle.pst_scen.specs.declared.scenario.Scenario.{Scenario}
use Rattle.pst_legal.specs.Types.{type_of, action_field}
use Rattle.pst_legal.specs.Statements.{StandsFor, handle_node}
use Rattle.pst_legal.specs.Standing.{Standing, Known, Lacking, Open, Unread, value_of, bound_of, value_or, unread, field_span}
use Rattle.pst_legal.specs.Slots.{behind, unread_slot, type_behind, node_behind, compound_at, compound_in, node_slot, inline_slot, fill_slot, maybe_fill_slot}
use Rattle.pst_legal.specs.Constraints.{HasConstraint, OfCompound, Inline}
use Rattle.pst_built.specs.Onward.{MoreValues}
use Rattle.pst_built.proofs.Inside.{Narrower}
use Rattle.pst_built.proofs.Children.{behind_more, stands_more, stands_there}
use Rattle.pst_built.proofs.MoreKnownNodes.{HandlesFit, node_inside, inline_inside}
use Rattle.pst_built.proofs.Unread.{handles_fit}
use Rattle.pst_built.proofs.Sound.{pools_are_small}
use Rattle.pst_slots.specs.Stated.{Stated, statement_of}
use Rattle.pst_slots.specs.Listed.{action_constraints}
use Rattle.pst_slots.proofs.Found.{found}
use Rattle.pst_constraint_sites.specs.Sites.{SiteTree, AtNode, AtTraversal, AtAct, AtOutput, AtClaim, AtFirst, slot_at}
use Rattle.pst_constraint_sites.specs.Laws.{HasAt}
use Rattle.pst_field_values.specs.declared.subject.Subject.{Subject}
use Rattle.pst_field_values.specs.declared.subject.Position.{Position}
use Rattle.pst_field_values.specs.declared.subject.Position.TheVariants as position
use Rattle.pst_field_values.specs.Fields.{values_in, values_of, values_at, IsLater}
use Rattle.pst_field_values.specs.Quantities.{Quantity, standing_of}
use Rattle.pst_field_values.specs.Subjects.{site_of, IsBehind, IsFieldAt, HasNode, IsThere, Leads, IsReached}

-- ---- values and bounds

known_holds : (v : ℤ) (bound : Option Span) → IsInside (Some (record { low = v; high = v })) bound → HoldsIn bound (Some v)
known_holds v None inside = absurd inside
known_holds v (Some span) inside = inside

-- a value lies within the bounds that were known before
pub value_holds : (now before : Standing) → Narrower now before → HoldsIn (bound_of before) (value_of now)
value_holds (Known v) before inside = known_holds v (bound_of before) inside
value_holds Lacking before inside = tt
value_holds (Open blank span) before inside = tt
value_holds (Unread span) before inside = tt

-- ---- nodes

-- a node with a handle is there
pub top_there : (m : ModelTree) (nodes : List Node) (top handle n : ℕ) → node_behind m nodes top handle ≡ Some n → HasNode nodes top
top_there m nodes top handle n leads =
    option_and_then_some (λ action. handle_node m nodes top action handle) (compound_at nodes top) n leads
    (λ action at on. option_and_then_some (λ (node : Node). compound_in node.fill) (slice_get nodes top) action at (λ node is filled. (node, is)))

-- a node of a compound action
pub record IsCompound (nodes : List Node) (n action : ℕ) : Type 0 where
  pub instance : ℕ
  pub fields : List ℤ
  pub node : Node
  pub is : slice_get nodes n ≡ Some node
  pub filled : node.fill ≡ fill.Compound action instance fields

pub compound_there : (nodes : List Node) (n action : ℕ) → compound_at nodes n ≡ Some action → IsCompound nodes n action
compound_there nodes n action is = option_and_then_some (λ (node : Node). compound_in node.fill) (slice_get nodes n) action is (λ node at of. by_fill node at node.fill refl of)
  where
    by_fill : (node : Node) → slice_get nodes n ≡ Some node → (f : Fill) → node.fill ≡ f → compound_in f ≡ Some action → IsCompound nodes n action
    by_fill node at (fill.Compound other instance fields) e of =
        record { instance = instance; fields = fields; node = node; is = at; filled = e ∙ ap (λ x. fill.Compound x instance fields) (same_Some other action of) }
    by_fill node at (fill.Leaf act) e of = absurd (none-some action of)
    by_fill node at fill.Sequence e of = absurd (none-some action of)
    by_fill node at fill.Parallel e of = absurd (none-some action of)
    by_fill node at fill.Schedule e of = absurd (none-some action of)
    by_fill node at (fill.Joined parallel joined) e of = absurd (none-some action of)
    by_fill node at (fill.Select branch) e of = absurd (none-some action of)
    by_fill node at fill.Repeat e of = absurd (none-some action of)
    by_fill node at (fill.Turn index) e of = absurd (none-some action of)
    by_fill node at (fill.If taken) e of = absurd (none-some action of)
    by_fill node at (fill.Match arm) e of = absurd (none-some action of)

module _ (m : ModelTree) (s t : Scenario) (sound : IsSound m) (later : IsLater m s t) where
  fit : HandlesFit m t
  fit = handles_fit m t later.domains later.typed (pools_are_small m sound)

  -- ---- constraints

  pub compound_lasts : (n action instance : ℕ) (fields : List ℤ) (node : Node) (type : ActionTree) (k : ConstraintTree) → slice_get s.nodes n ≡ Some node
      → node.fill ≡ fill.Compound action instance fields → type_of m action ≡ Some type → Contains type.constraints k → HasAt m t (AtNode n) k
  compound_lasts n action instance fields node type k is filled typed has =
      let y = later.onward.nodes n node is in
      (node_slot m t n, by_fill y.0 y.1 y.2.fill, λ slot. refl)
    where
      by_fill : (y : Node) → slice_get t.nodes n ≡ Some y → (y.fill ≡ node.fill) ⊎ MoreValues node.fill y.fill → HasConstraint m t k (node_slot m t n)
      by_fill y got (inl e) = OfCompound n action instance fields y type k got (e ∙ filled) typed has
      by_fill y got (inr o) =
          let both : fill.Compound o.action o.instance o.old ≡ fill.Compound action instance fields = sym o.was ∙ filled in
          let same : o.action ≡ action = cc in
          OfCompound n action o.instance o.new y type k got (o.is ∙ ap (λ x. fill.Compound x o.instance o.new) same) typed has

  pub inline_lasts : (n top action : ℕ) (handle : Option ℕ) (inline : List ConstraintTree) (indices : List ℕ) (k : ConstraintTree)
      → StandsFor m s.nodes top n (Traverse action handle inline) indices → Contains inline k → HasAt m t (AtTraversal n top indices) k
  inline_lasts n top action handle inline indices k stands has = (
    inline_slot m t n top indices,
    Inline n top action handle inline indices k (stands_more s t later.onward m top n (Traverse action handle inline) indices stands) has,
    λ slot. refl,
  )

  -- ---- slots

  site_inside : (site : SiteTree) (slot : SlotTree) → IsThere s.nodes site → Narrower (slot_at m t site slot) (slot_at m s site slot)
  site_inside (AtNode n) slot there = node_inside m s t later.onward later.leaves later.domains fit slot n there
  site_inside (AtTraversal n top indices) slot there = inline_inside m s t later.onward later.leaves later.domains fit n top indices there.0 there.1 slot
  site_inside (AtAct act) slot there = absurd there
  site_inside (AtOutput act reference) slot there = absurd there
  site_inside (AtClaim act claim) slot there = absurd there
  site_inside (AtFirst pool) slot there = absurd there

  pub quantity_holds : (q : Quantity) → IsThere s.nodes q.site → HoldsIn (bound_of (standing_of m s q)) (value_of (standing_of m t q))
  quantity_holds q there = value_holds (standing_of m t q) (standing_of m s q) (site_inside q.site q.slot there)

  behind_named : (subject : Subject) (slot : SlotTree) (field : ℕ) → Leads m s.nodes subject.top subject.node subject.handle → IsBehind subject slot field
      → node_slot m t subject.top slot ≡ node_slot m t subject.node (Own field)
  behind_named subject slot field leads is =
      let now : node_behind m s.nodes subject.top is.0 ≡ Some subject.node = subst (Leads m s.nodes subject.top subject.node) is.1 leads in
      let top = top_there m s.nodes subject.top is.0 subject.node now in
      let then : node_behind m t.nodes subject.top is.0 ≡ Some subject.node = behind_more s t later.onward m subject.top top.0 is.0 subject.node top.1 now in
      ap (node_slot m t subject.top) is.2
      ∙ ap (λ o. behind (λ k. node_slot m t k (Own field)) o (behind (λ type. unread_slot m type (Own field)) (type_behind m t.nodes subject.top is.0) Lacking)) then

  -- a slot that is a field of the action stands for it
  pub field_named : (subject : Subject) (position : Position) (slot : SlotTree) (field : ℕ) → IsReached m s.nodes subject → IsFieldAt subject position slot field
      → slot_at m t (site_of subject position) slot ≡ node_slot m t subject.node (Own field)
  field_named subject position.Itself slot field reached is = ap (node_slot m t subject.node) is
  field_named subject (position.Traversal indices) slot field reached (inl is) = ap (inline_slot m t subject.node subject.top indices.items) is
  field_named subject (position.Traversal indices) slot field reached (inr is) =
      ap (inline_slot m t subject.node subject.top indices.items) is.1 ∙ behind_named subject is.0 field reached.leads is.2
  field_named subject position.Around slot field reached is = behind_named subject slot field reached.leads is

-- ---- the values of fields

pub values_stay : (m : ModelTree) (s t : Scenario) → IsLater m s t → (n i : ℕ) (v : ℤ) → slice_get (values_at s.nodes n) i ≡ Some v → slice_get (values_at t.nodes n) i ≡ Some v
values_stay m s t later n i v is = by_node (slice_get s.nodes n) refl is
  where
    by_fill : (x y : Node) → (y.fill ≡ x.fill) ⊎ MoreValues x.fill y.fill → slice_get (values_in x.fill) i ≡ Some v → slice_get (values_in y.fill) i ≡ Some v
    by_fill x y (inl e) read = ap (λ f. slice_get (values_in f) i) e ∙ read
    by_fill x y (inr more) read = ap (λ f. slice_get (values_in f) i) more.is ∙ more.keeps i v (sym (ap (λ f. slice_get (values_in f) i) more.was) ∙ read)

    by_node : (o : Option Node) → slice_get s.nodes n ≡ o → slice_get (values_of o) i ≡ Some v → slice_get (values_at t.nodes n) i ≡ Some v
    by_node None at read = absurd (none-some v read)
    by_node (Some x) at read = let y = later.onward.nodes n x at in ap (λ o. slice_get (values_of o) i) y.1 ∙ by_fill x y.0 y.2.fill read

-- a value that is read is what the field stands for
pub value_read : (m : ModelTree) (t : Scenario) (n i : ℕ) (v : ℤ) → slice_get (values_at t.nodes n) i ≡ Some v → value_of (node_slot m t n (Own i)) ≡ Some v
value_read m t n i v is = by_node (slice_get t.nodes n) is
  where
    by_fill : (f : Fill) → slice_get (values_in f) i ≡ Some v → value_of (fill_slot m t f (Own i)) ≡ Some v
    by_fill (fill.Compound action instance values) read = ap (λ o. value_of (value_or o (unread (field_span (action_field m action i))))) read
    by_fill (fill.Leaf act) read = absurd (none-some v read)
    by_fill fill.Sequence read = absurd (none-some v read)
    by_fill fill.Parallel read = absurd (none-some v read)
    by_fill fill.Schedule read = absurd (none-some v read)
    by_fill (fill.Joined parallel joined) read = absurd (none-some v read)
    by_fill (fill.Select branch) read = absurd (none-some v read)
    by_fill fill.Repeat read = absurd (none-some v read)
    by_fill (fill.Turn index) read = absurd (none-some v read)
    by_fill (fill.If taken) read = absurd (none-some v read)
    by_fill (fill.Match arm) read = absurd (none-some v read)

    by_node : (o : Option Node) → slice_get (values_of o) i ≡ Some v → value_of (maybe_fill_slot m t o (Own i)) ≡ Some v
    by_node None read = absurd (none-some v read)
    by_node (Some node) read = by_fill node.fill read

-- ---- all constraints of a site

type_there : (o : Option ActionTree) (k : ConstraintTree) → Contains (action_constraints o) k → (type : ActionTree) × (o ≡ Some type) × Contains type.constraints k
type_there None k has = let l = has.1 in absurd (omega (arith, l))
type_there (Some type) k has = (type, refl, has)

pub type_lasts : (m : ModelTree) (s : Scenario) → IsSound m → (n action : ℕ) → compound_at s.nodes n ≡ Some action → (k : ConstraintTree) → Contains (action_constraints (type_of m action)) k
    → (t : Scenario) → IsLater m s t → HasAt m t (AtNode n) k
type_lasts m s sound n action is k has t later =
    let at = compound_there s.nodes n action is in
    let o = type_there (type_of m action) k has in
    compound_lasts m s t sound later n action at.instance at.fields at.node o.0 k at.is at.filled o.1 o.2

pub stated_stands : (m : ModelTree) (nodes : List Node) (n : ℕ) (x : Stated) → statement_of m nodes n ≡ Some x → StandsFor m nodes x.top n x.step x.indices
stated_stands m nodes n x is = found m nodes (length nodes) n x is

pub traversal_lasts : (m : ModelTree) (s : Scenario) → IsSound m → (n top action : ℕ) (handle : Option ℕ) (inline : List ConstraintTree) (indices : List ℕ)
    → StandsFor m s.nodes top n (Traverse action handle inline) indices → (k : ConstraintTree) → Contains inline k → (t : Scenario) → IsLater m s t → HasAt m t (AtTraversal n top indices) k
traversal_lasts m s sound n top action handle inline indices stands k has t later = inline_lasts m s t sound later n top action handle inline indices k stands has

pub traversal_there : (m : ModelTree) (nodes : List Node) (n top : ℕ) (step : StepTree) (indices : List ℕ) → StandsFor m nodes top n step indices → IsThere nodes (AtTraversal n top indices)
traversal_there m nodes n top step indices stands = stands_there m nodes top n step indices stands
