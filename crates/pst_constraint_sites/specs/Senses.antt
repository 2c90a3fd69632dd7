-- What slots stand for whatever is chosen behind the sources: a value, what stands in a blank, or nothing.
use Rattle.std.specs.Prelude.{◌≡◌, ℕ, ℤ, pos, List, if◌then◌else◌, Option, Some, None, slice_get}
use Rattle.pst_expr.specs.declared.ranges.Span.{Span}
use Rattle.pst_model.specs.ConstraintTree.{SlotTree, Own, Object, First, ClaimId, ClaimField, Prev, IsFirst, Id, Index, Through, Outer}
use Rattle.pst_model.specs.ModelTree.{ModelTree}
use Rattle.pst_scen.specs.declared.tree.Node.{Node}
use Rattle.pst_scen.specs.declared.tree.Fill.{Fill}
use Rattle.pst_scen.specs.declared.tree.Fill.TheVariants as fill
use Rattle.pst_scen.specs.declared.act.Act.{Act}
use Rattle.pst_scen.specs.declared.act.Filled.{Filled}
use Rattle.pst_scen.specs.declared.act.Flow.{Flow}
use Rattle.pst_scen.specs.declared.act.Flow.TheVariants.{StateIn, StateOut}
use Rattle.pst_scen.specs.declared.act.Link.{Link}
use Rattle.pst_scen.specs.declared.act.Link.TheVariants as link
use Rattle.pst_scen.specs.declared.scenario.Scenario.{Scenario}
use Rattle.pst_scen.specs.Scenarios.{reference_at}
use Rattle.pst_legal.specs.Types.{is_output}
use Rattle.pst_legal.specs.Blanks.{Blank, OfFirst, OfAct, OfOutput, OfClaim, Instance, domain_of}
use Rattle.pst_legal.specs.Slots.{node_behind}
use Rattle.pst_legal.specs.Standing.{Standing, Known, Lacking, value_or, open_value, hull}
use Rattle.pst_blank_values.specs.Rows.{stands_in}
use Rattle.pst_constraint_sites.specs.Sites.{SiteTree, AtNode, AtTraversal, AtAct, AtOutput, AtClaim, AtFirst}

pub data Sense : Type 0 where
  Value : (v : ℤ) → Sense
  InBlank : (blank : Blank) → Sense
  Nothing : Sense
  -- it isn't told
  Untold : Sense

abbrev pub value_sense : Option ℤ → Sense
value_sense None = Untold
value_sense (Some v) = Value v

abbrev pub number_sense : Option ℕ → Sense
number_sense None = Nothing
number_sense (Some n) = Value (pos n)

-- ---- flow objects

abbrev pub linked_sense : ℕ → Link → ℕ → Sense
linked_sense pool link.Nothing field = Untold
linked_sense pool link.Initial field = InBlank (OfFirst pool field)
linked_sense pool (link.Act b q) field = InBlank (OfOutput b q field)

abbrev pub flow_sense : ℕ → ℕ → Option Filled → ℕ → Sense
flow_sense a r None field = Nothing
flow_sense a r (Some filled) field = if is_output filled.flow then InBlank (OfOutput a r field) else linked_sense filled.pool filled.link field

abbrev pub first_sense_of : Link → Sense
first_sense_of link.Nothing = Untold
first_sense_of link.Initial = Value (pos 1)
first_sense_of (link.Act b q) = Value (pos 0)

abbrev pub initial_by : Flow → Link → Sense
initial_by StateIn to = first_sense_of to
initial_by StateOut to = Value (pos 0)
initial_by _ to = Nothing

abbrev pub initial_sense : Option Filled → Sense
initial_sense None = Nothing
initial_sense (Some filled) = initial_by filled.flow filled.link

-- ---- actions

abbrev pub act_sense : ℕ → Act → SlotTree → Sense
act_sense a x (Own field) = InBlank (OfAct a field)
act_sense a x (Object reference field) = flow_sense a reference (slice_get x.references reference) field
act_sense a x (First reference) = initial_sense (slice_get x.references reference)
act_sense a x (ClaimId claim) = InBlank (Instance a claim)
act_sense a x (ClaimField claim field) = InBlank (OfClaim a claim field)
act_sense a x _ = Nothing

abbrev pub maybe_act_sense : ℕ → Option Act → SlotTree → Sense
maybe_act_sense a None slot = Nothing
maybe_act_sense a (Some x) slot = act_sense a x slot

abbrev pub compound_sense : List ℤ → SlotTree → Sense
compound_sense fields (Own field) = value_sense (slice_get fields field)
compound_sense fields _ = Nothing

abbrev pub fill_sense : Scenario → Fill → SlotTree → Sense
fill_sense s (fill.Leaf act) slot = maybe_act_sense act (slice_get s.actions act) slot
fill_sense s (fill.Compound action instance fields) slot = compound_sense fields slot
fill_sense s _ slot = Nothing

abbrev pub maybe_fill_sense : Scenario → Option Node → SlotTree → Sense
maybe_fill_sense s None slot = Nothing
maybe_fill_sense s (Some node) slot = fill_sense s node.fill slot

abbrev pub behind_sense : (ℕ → Sense) → Option ℕ → Sense
behind_sense sense None = Untold
behind_sense sense (Some n) = sense n

abbrev pub node_sense : ModelTree → Scenario → ℕ → SlotTree → Sense
node_sense m s n (Through handle slot) = behind_sense (λ k. node_sense m s k slot) (node_behind m s.nodes n handle)
node_sense m s n slot = maybe_fill_sense s (slice_get s.nodes n) slot

abbrev pub inline_sense : ModelTree → Scenario → ℕ → ℕ → List ℕ → SlotTree → Sense
inline_sense m s n top indices (Outer slot) = node_sense m s top slot
inline_sense m s n top indices (Index level) = number_sense (slice_get indices level)
inline_sense m s n top indices slot = node_sense m s n slot

-- ---- objects

abbrev pub output_sense : ℕ → ℕ → Filled → SlotTree → Sense
output_sense a r filled (Own field) = InBlank (OfOutput a r field)
output_sense a r filled (Prev field) = linked_sense filled.pool filled.link field
output_sense a r filled IsFirst = Value (pos 0)
output_sense a r filled _ = Nothing

abbrev pub maybe_output_sense : ℕ → ℕ → Option Filled → SlotTree → Sense
maybe_output_sense a r None slot = Nothing
maybe_output_sense a r (Some filled) slot = output_sense a r filled slot

abbrev pub resource_sense : ℕ → ℕ → SlotTree → Sense
resource_sense a claim (Own field) = InBlank (OfClaim a claim field)
resource_sense a claim Id = InBlank (Instance a claim)
resource_sense a claim _ = Nothing

abbrev pub maybe_resource_sense : ℕ → Option Act → ℕ → SlotTree → Sense
maybe_resource_sense a None claim slot = Nothing
maybe_resource_sense a (Some act) claim slot = resource_sense a claim slot

abbrev pub first_object_sense : ℕ → SlotTree → Sense
first_object_sense pool (Own field) = InBlank (OfFirst pool field)
first_object_sense pool IsFirst = Value (pos 1)
first_object_sense pool _ = Nothing

abbrev pub sense_at : ModelTree → Scenario → SiteTree → SlotTree → Sense
sense_at m s (AtNode n) slot = node_sense m s n slot
sense_at m s (AtTraversal n top indices) slot = inline_sense m s n top indices slot
sense_at m s (AtAct a) slot = maybe_act_sense a (slice_get s.actions a) slot
sense_at m s (AtOutput a r) slot = maybe_output_sense a r (reference_at s.actions a r) slot
sense_at m s (AtClaim a claim) slot = maybe_resource_sense a (slice_get s.actions a) claim slot
sense_at m s (AtFirst pool) slot = first_object_sense pool slot

-- ---- what that tells

-- a link that is read leads to a reference in the same pool
abbrev pub LinksJoin : List Act → Type 0
LinksJoin acts = (a r b q : ℕ) (filled : Filled) → reference_at acts a r ≡ Some filled → filled.link ≡ link.Act b q → (other : Filled) × (reference_at acts b q ≡ Some other) × (other.pool ≡ filled.pool)

-- it is this in a scenario; while nothing stands in a blank, it lies between the least and the greatest value of the blank
abbrev pub Tells : ModelTree → Scenario → Sense → Standing → Type 0
Tells m t (Value v) standing = standing ≡ Known v
Tells m t (InBlank blank) standing = (span : Option Span) × (standing ≡ value_or (stands_in t blank) (open_value blank span)) × (LinksJoin t.actions → span ≡ hull (domain_of m t.actions blank))
Tells m t Nothing standing = standing ≡ Lacking
Tells m t Untold standing = Unit {0}
