-- What is known of a scenario, which may still be read, lies in its domains.
use Rattle.std.specs.Prelude.{◌≡◌, ℕ, ℤ, pos, List, Option, Some, slice_get}
use Rattle.std.specs.Option.{option_and_then}
use Rattle.pst_expr.specs.declared.ranges.Span.{Span}
use Rattle.pst_domain.specs.Bounds.{Holds, IsInside}
use Rattle.pst_model.specs.ModelTree.{ModelTree}
use Rattle.pst_scen.specs.declared.tree.Node.{Node}
use Rattle.pst_scen.specs.declared.tree.Fill.{Fill}
use Rattle.pst_scen.specs.declared.tree.Fill.TheVariants as fill
use Rattle.pst_scen.specs.declared.act.Act.{Act}
use Rattle.pst_scen.specs.declared.act.Filled.{Filled}
use Rattle.pst_scen.specs.declared.act.Claimed.{Claimed}
use Rattle.pst_scen.specs.declared.act.Link.TheVariants as link
use Rattle.pst_scen.specs.declared.scenario.Scenario.{Scenario}
use Rattle.pst_scen.specs.Scenarios.{reference_at}
use Rattle.pst_legal.specs.Types.{action_field, object_field, action_reference, served_claim}
use Rattle.pst_legal.specs.Blanks.{instances_in, claim_field}
use Rattle.pst_legal.specs.Standing.{Standing, bound_of, hull, field_span}
use Rattle.pst_legal.specs.Slots.{pool_span, first_values, node_behind, type_behind}

-- the bounds of one standing lie inside those of another
abbrev pub Narrower : Standing → Standing → Type 0
Narrower inner outer = IsInside (bound_of inner) (bound_of outer)

-- a value is one of those that bounds leave
abbrev pub Allows : Option Span → ℤ → Type 0
Allows span v = Holds span (Some v)

-- the numbers of the pool of a claim
abbrev pub claim_numbers : ModelTree → ℕ → ℕ → ℕ → Option Span
claim_numbers m action instance claim = hull (instances_in (option_and_then (λ pool. slice_get m.pools pool) (served_claim m action instance claim)))

-- What is known lies in its domain, links lead to the same pool, and the pools of references are of the references' objects.
pub record InDomains (m : ModelTree) (t : Scenario) : Type 0 where
  pub fields : (a : ℕ) (act : Act) (i : ℕ) (v : ℤ) → slice_get t.actions a ≡ Some act → slice_get act.fields i ≡ Some v → Allows (field_span (action_field m act.action i)) v
  pub instances : (a : ℕ) (act : Act) (c : ℕ) (x : Claimed) → slice_get t.actions a ≡ Some act → slice_get act.claims c ≡ Some x → Allows (claim_numbers m act.action act.instance c) (pos x.instance)
  pub claims : (a : ℕ) (act : Act) (c : ℕ) (x : Claimed) (i : ℕ) (v : ℤ) → slice_get t.actions a ≡ Some act → slice_get act.claims c ≡ Some x → slice_get x.values i ≡ Some v → Allows (field_span (claim_field m act.action c i)) v
  pub outputs : (a r : ℕ) (f : Filled) (i : ℕ) (v : ℤ) → reference_at t.actions a r ≡ Some f → slice_get f.values i ≡ Some v → Allows (pool_span m f.pool i) v
  pub links : (a r b q : ℕ) (f g : Filled) → reference_at t.actions a r ≡ Some f → f.link ≡ link.Act b q → reference_at t.actions b q ≡ Some g → g.pool ≡ f.pool
  pub firsts : (pool i : ℕ) (v : ℤ) → slice_get (first_values t.firsts pool) i ≡ Some v → Allows (pool_span m pool i) v
  pub compounds : (n : ℕ) (node : Node) (action instance : ℕ) (values : List ℤ) (i : ℕ) (v : ℤ) → slice_get t.nodes n ≡ Some node → node.fill ≡ fill.Compound action instance values → slice_get values i ≡ Some v → Allows (field_span (action_field m action i)) v
  pub served : (a : ℕ) (act : Act) (r : ℕ) (f : Filled) (field : ℕ) → slice_get t.actions a ≡ Some act → slice_get act.references r ≡ Some f → pool_span m f.pool field ≡ field_span (option_and_then (λ x. object_field m x.object field) (action_reference m act.action r))

-- a node that stands for an action of a type
abbrev pub IsOf : Scenario → ℕ → Fill → Type 0
IsOf t type (fill.Compound action instance values) = action ≡ type
IsOf t type (fill.Leaf a) = (act : Act) × (slice_get t.actions a ≡ Some act) × (act.action ≡ type)
IsOf t type fill.Sequence = ⊥
IsOf t type fill.Parallel = ⊥
IsOf t type fill.Schedule = ⊥
IsOf t type (fill.Joined parallel joined) = ⊥
IsOf t type (fill.Select branch) = ⊥
IsOf t type fill.Repeat = ⊥
IsOf t type (fill.Turn index) = ⊥
IsOf t type (fill.If taken) = ⊥
IsOf t type (fill.Match arm) = ⊥

abbrev pub HasType : Scenario → ℕ → ℕ → Type 0
HasType t k type = (x : Node) × (slice_get t.nodes k ≡ Some x) × IsOf t type x.fill

-- the node of a handle stands for an action of the handle's type
abbrev pub HandlesHaveTypes : ModelTree → Scenario → Type 0
HandlesHaveTypes m t = (n handle k : ℕ) → node_behind m t.nodes n handle ≡ Some k → (type : ℕ) × (type_behind m t.nodes n handle ≡ Some type) × HasType t k type

-- each leaf has its action
abbrev pub LeavesHaveActions : Scenario → Type 0
LeavesHaveActions s = (n : ℕ) (node : Node) (a : ℕ) → slice_get s.nodes n ≡ Some node → node.fill ≡ fill.Leaf a → (act : Act) × (slice_get s.actions a ≡ Some act)
