-- What the slots of a constraint stand for: one line for each slot, and where a slot names nothing it lacks a value.
-- `initial`, `prev` and `instance_id` where they name something are this project's own.
use Rattle.std.specs.Prelude.{ℕ, ℤ, pos, List, [], ◌∷◌, nat_eq, if◌then◌else◌, Option, Some, None, slice_get}
use Rattle.std.specs.Option.{option_map, option_and_then}
use Rattle.pst_expr.specs.declared.ranges.Span.{Span}
use Rattle.pst_model.specs.ConstraintTree.{SlotTree, Own, Object, First as Initial-of, ClaimId, ClaimField, Prev, IsFirst, Id, Index, Local, Through, Outer}
use Rattle.pst_model.specs.ModelTree.{ModelTree}
use Rattle.pst_scen.specs.declared.tree.Node.{Node}
use Rattle.pst_scen.specs.declared.tree.Fill.{Fill}
use Rattle.pst_scen.specs.declared.tree.Fill.TheVariants as fill
use Rattle.pst_scen.specs.declared.act.Act.{Act}
use Rattle.pst_scen.specs.declared.act.Filled.{Filled}
use Rattle.pst_scen.specs.declared.act.Claimed.{Claimed}
use Rattle.pst_scen.specs.declared.act.Flow.{Flow}
use Rattle.pst_scen.specs.declared.act.Flow.TheVariants.{StateIn, StateOut}
use Rattle.pst_scen.specs.declared.act.Link.{Link}
use Rattle.pst_scen.specs.declared.act.Link.TheVariants as link
use Rattle.pst_scen.specs.declared.scenario.First.{First}
use Rattle.pst_scen.specs.declared.scenario.Scenario.{Scenario}
use Rattle.pst_scen.specs.Scenarios.{reference_at}
use Rattle.pst_legal.specs.Types.{action_activity, action_field, object_field, action_reference, is_output}
use Rattle.pst_legal.specs.Blanks.{Blank, OfFirst, OfAct, OfOutput, OfClaim, Instance, claim_instances, pool_field, claim_field}
use Rattle.pst_legal.specs.Standing.{Standing, Known, Lacking, Unread, value_or, open_value, unread, unread_truth, number_or_lacking, hull, field_span}
use Rattle.pst_legal.specs.Statements.{handle_node}

-- ---- flow objects

-- from the least to the greatest value of a field of a pool's objects
abbrev pub pool_span : ModelTree → ℕ → ℕ → Option Span
pool_span m pool field = field_span (pool_field m pool field)

-- the values of a pool's first object that are read
abbrev pub first_values : List First → ℕ → List ℤ
first_values [] pool = []
first_values (first ∷ firsts) pool = if nat_eq first.pool pool then first.values else first_values firsts pool

-- a field of the first object of a pool
abbrev pub first_slot : ModelTree → Scenario → ℕ → ℕ → Standing
first_slot m s pool field = value_or (slice_get (first_values s.firsts pool) field) (open_value (OfFirst pool field) (pool_span m pool field))

-- a field of the object that an output writes
abbrev pub written_slot : ModelTree → ℕ → ℕ → Filled → ℕ → Standing
written_slot m a r filled field = value_or (slice_get filled.values field) (open_value (OfOutput a r field) (pool_span m filled.pool field))

-- the values of an output that are read
abbrev pub output_values : Option Filled → List ℤ
output_values None = []
output_values (Some filled) = filled.values

-- a field of the object that a link names as a source: one of this pool
abbrev pub linked_slot : ModelTree → Scenario → ℕ → Link → ℕ → Standing
linked_slot m s pool link.Nothing field = unread (pool_span m pool field)
linked_slot m s pool link.Initial field = first_slot m s pool field
linked_slot m s pool (link.Act b q) field =
    value_or (slice_get (output_values (reference_at s.actions b q)) field) (open_value (OfOutput b q field) (pool_span m pool field))

-- a field of the object of a reference: an output's own, an input's source's
abbrev pub flow_slot : ModelTree → Scenario → ℕ → ℕ → Option Filled → ℕ → Standing
flow_slot m s a r None field = Lacking
flow_slot m s a r (Some filled) field =
    if is_output filled.flow then written_slot m a r filled field else linked_slot m s filled.pool filled.link field

-- whether the object that a state input reads is the pool's first
abbrev pub is_source_first : Link → Standing
is_source_first link.Nothing = unread_truth
is_source_first link.Initial = Known (pos 1)
is_source_first (link.Act b q) = Known (pos 0)

-- `initial` after a reference: what an action writes is never a pool's first object
abbrev pub initial_by : Flow → Link → Standing
initial_by StateIn to = is_source_first to
initial_by StateOut to = Known (pos 0)
initial_by _ to = Lacking

abbrev pub initial_slot : Option Filled → Standing
initial_slot None = Lacking
initial_slot (Some filled) = initial_by filled.flow filled.link

-- ---- claims

-- the number of the claimed instance
abbrev pub claim_slot : ModelTree → ℕ → Act → ℕ → Standing
claim_slot m a act claim =
    value_or (option_map (λ claimed. pos claimed.instance) (slice_get act.claims claim)) (open_value (Instance a claim) (hull (claim_instances m act claim)))

-- the values of a claim that are read
abbrev pub claim_values : Option Claimed → List ℤ
claim_values None = []
claim_values (Some claimed) = claimed.values

-- a field of the claimed resource
abbrev pub claim_field_slot : ModelTree → ℕ → Act → ℕ → ℕ → Standing
claim_field_slot m a act claim field =
    value_or (slice_get (claim_values (slice_get act.claims claim)) field) (open_value (OfClaim a claim field) (field_span (claim_field m act.action claim field)))

-- ---- actions

-- what stands behind a number, or else something other
abbrev pub behind : (ℕ → Standing) → Option ℕ → Standing → Standing
behind slot None other = other
behind slot (Some n) other = slot n

-- the action type that a handle of a compound action type traverses
abbrev pub traversed_type : ModelTree → ℕ → ℕ → Option ℕ
traversed_type m action handle = option_and_then (λ activity. slice_get activity.handles handle) (action_activity m action)

-- what belongs to an action of which nothing is read, not even its instance
abbrev pub unread_slot : ModelTree → ℕ → SlotTree → Standing
unread_slot m action (Own field) = unread (field_span (action_field m action field))
unread_slot m action (Object reference field) = unread (field_span (option_and_then (λ r. object_field m r.object field) (action_reference m action reference)))
unread_slot m action (Initial-of reference) = unread_truth
unread_slot m action (ClaimId claim) = Unread (record { low = pos 0; high = pos 1023 })
unread_slot m action (ClaimField claim field) = unread (field_span (claim_field m action claim field))
unread_slot m action (Through handle slot) = behind (λ type. unread_slot m type slot) (traversed_type m action handle) Lacking
unread_slot m action _ = Lacking

-- what belongs to the atomic action of that number
abbrev pub act_slot : ModelTree → Scenario → ℕ → Act → SlotTree → Standing
act_slot m s a act (Own field) = value_or (slice_get act.fields field) (open_value (OfAct a field) (field_span (action_field m act.action field)))
act_slot m s a act (Object reference field) = flow_slot m s a reference (slice_get act.references reference) field
act_slot m s a act (Initial-of reference) = initial_slot (slice_get act.references reference)
act_slot m s a act (ClaimId claim) = claim_slot m a act claim
act_slot m s a act (ClaimField claim field) = claim_field_slot m a act claim field
act_slot m s a act _ = Lacking

-- what belongs to a compound action, but for what stands behind its handles
abbrev pub compound_slot : ModelTree → ℕ → List ℤ → SlotTree → Standing
compound_slot m action fields (Own field) = value_or (slice_get fields field) (unread (field_span (action_field m action field)))
compound_slot m action fields _ = Lacking

abbrev pub maybe_act_slot : ModelTree → Scenario → ℕ → Option Act → SlotTree → Standing
maybe_act_slot m s a None slot = Lacking
maybe_act_slot m s a (Some act) slot = act_slot m s a act slot

abbrev pub fill_slot : ModelTree → Scenario → Fill → SlotTree → Standing
fill_slot m s (fill.Leaf act) slot = maybe_act_slot m s act (slice_get s.actions act) slot
fill_slot m s (fill.Compound action instance fields) slot = compound_slot m action fields slot
fill_slot m s _ slot = Lacking

abbrev pub maybe_fill_slot : ModelTree → Scenario → Option Node → SlotTree → Standing
maybe_fill_slot m s None slot = Lacking
maybe_fill_slot m s (Some node) slot = fill_slot m s node.fill slot

-- the type of a compound action
abbrev pub compound_in : Fill → Option ℕ
compound_in (fill.Compound action instance fields) = Some action
compound_in _ = None

abbrev pub compound_at : List Node → ℕ → Option ℕ
compound_at nodes n = option_and_then (λ node. compound_in node.fill) (slice_get nodes n)

-- the node of a handle of the compound action of a node, and the handle's type
abbrev pub node_behind : ModelTree → List Node → ℕ → ℕ → Option ℕ
node_behind m nodes n handle = option_and_then (λ action. handle_node m nodes n action handle) (compound_at nodes n)

abbrev pub type_behind : ModelTree → List Node → ℕ → ℕ → Option ℕ
type_behind m nodes n handle = option_and_then (λ action. traversed_type m action handle) (compound_at nodes n)

-- What belongs to the action of a node. Behind a handle stands what belongs to the action that the handle traverses.
abbrev pub node_slot : ModelTree → Scenario → ℕ → SlotTree → Standing
node_slot m s n (Through handle slot) =
    behind (λ k. node_slot m s k slot) (node_behind m s.nodes n handle) (behind (λ type. unread_slot m type slot) (type_behind m s.nodes n handle) Lacking)
node_slot m s n slot = maybe_fill_slot m s (slice_get s.nodes n) slot

-- What a slot of an inline constraint stands for: the slots of the traversed action as they are, those of the action round
-- it behind Outer, and the numbers of the turns round the traversal.
abbrev pub inline_slot : ModelTree → Scenario → ℕ → ℕ → List ℕ → SlotTree → Standing
inline_slot m s n top indices (Outer slot) = node_slot m s top slot
inline_slot m s n top indices (Index level) = number_or_lacking (slice_get indices level)
inline_slot m s n top indices slot = node_slot m s n slot

-- ---- objects

-- what belongs to the object of an output; `prev` is the object of the previous writer, or the first object
abbrev pub output_slot : ModelTree → Scenario → ℕ → ℕ → Filled → SlotTree → Standing
output_slot m s a r filled (Own field) = written_slot m a r filled field
output_slot m s a r filled (Prev field) = linked_slot m s filled.pool filled.link field
output_slot m s a r filled IsFirst = Known (pos 0)
output_slot m s a r filled _ = Lacking

-- what belongs to the resource of a claim
abbrev pub resource_slot : ModelTree → ℕ → Act → ℕ → SlotTree → Standing
resource_slot m a act claim (Own field) = claim_field_slot m a act claim field
resource_slot m a act claim Id = claim_slot m a act claim
resource_slot m a act claim _ = Lacking

-- what belongs to the first object of a pool, which has no previous one
abbrev pub first_object_slot : ModelTree → Scenario → ℕ → SlotTree → Standing
first_object_slot m s pool (Own field) = first_slot m s pool field
first_object_slot m s pool IsFirst = Known (pos 1)
first_object_slot m s pool _ = Lacking
