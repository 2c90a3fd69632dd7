-- What a model says of its types, instances and pools.
use Rattle.std.specs.Prelude.{ℕ, ◌+◌, List, [], map, length, Bool, true, false, ◌&&◌, nat_eq, nat_le, Option, None, Some, slice_get}
use Rattle.std.specs.List.{enumerate_from, filter}
use Rattle.std.specs.Option.{option_and_then}
use Rattle.pst_base.specs.declared.table.NameId.{NameId}
use Rattle.pst_model.specs.declared.action.Field.{Field}
use Rattle.pst_model.specs.declared.action.Reference.{Reference}
use Rattle.pst_model.specs.declared.action.Claim.{Claim}
use Rattle.pst_model.specs.declared.model.Part.{Part}
use Rattle.pst_model.specs.declared.object.ObjectKind.{ObjectKind}
use Rattle.pst_model.specs.declared.object.ObjectKind.TheVariants.{Buffer, Stream, State, Resource}
use Rattle.pst_model.specs.ActivityTree.{ActivityTree}
use Rattle.pst_model.specs.Served.{pool_in}
use Rattle.pst_model.specs.ModelTree.{ModelTree, ActionTree, ObjectTree, ContentTree, Atomic, Compound}
use Rattle.pst_scen.specs.declared.act.Flow.{Flow}
use Rattle.pst_scen.specs.declared.act.Flow.TheVariants.{BufferIn, BufferOut, StreamIn, StreamOut, StateIn, StateOut}

-- ---- types

abbrev pub type_of : ModelTree → ℕ → Option ActionTree
type_of m action = slice_get m.actions action

abbrev pub activity_in : ContentTree → Option ActivityTree
activity_in (Atomic body) = None
activity_in (Compound activity) = Some activity

-- the activity of a compound action type
abbrev pub action_activity : ModelTree → ℕ → Option ActivityTree
action_activity m action = option_and_then (λ type. activity_in type.content) (type_of m action)

-- the field of that number of an action type
abbrev pub action_field : ModelTree → ℕ → ℕ → Option Field
action_field m action field = option_and_then (λ type. slice_get type.fields field) (type_of m action)

-- the field of that number of an object type
abbrev pub object_field : ModelTree → ℕ → ℕ → Option Field
object_field m object field = option_and_then (λ type. slice_get type.fields field) (slice_get m.objects object)

-- the reference of that number of an action type
abbrev pub action_reference : ModelTree → ℕ → ℕ → Option Reference
action_reference m action reference = option_and_then (λ type. slice_get type.references reference) (type_of m action)

-- the claim of that number of an action type
abbrev pub action_claim : ModelTree → ℕ → ℕ → Option Claim
action_claim m action claim = option_and_then (λ type. slice_get type.claims claim) (type_of m action)

-- the type of the objects of a pool
abbrev pub pool_object : ModelTree → ℕ → Option ObjectTree
pool_object m pool = option_and_then (λ p. slice_get m.objects p.object) (slice_get m.pools pool)

abbrev pub same_kind : ObjectKind → ObjectKind → Bool
same_kind Buffer Buffer = true
same_kind Stream Stream = true
same_kind State State = true
same_kind Resource Resource = true
same_kind _ _ = false

abbrev pub has_kind : ObjectKind → Option ObjectTree → Bool
has_kind kind None = false
has_kind kind (Some object) = same_kind object.kind kind

-- the pool is one of states
abbrev pub is_state_pool : ModelTree → ℕ → Bool
is_state_pool m pool = has_kind State (pool_object m pool)

-- ---- component instances

abbrev pub same_name : NameId → NameId → Bool
same_name a b = nat_eq a.0 b.0

abbrev pub is_up_to_last : ℕ → Option Part → Bool
is_up_to_last instance None = false
is_up_to_last instance (Some part) = nat_le instance part.last

-- the instance lies in the subtree of `top`, itself included; every instance does where there is no top
abbrev pub is_under : ModelTree → Option ℕ → ℕ → Bool
is_under m None instance = true
is_under m (Some top) instance = nat_le top instance && is_up_to_last instance (slice_get m.instances top)

-- the instances of a component in the subtree of `top`, by number
abbrev pub instances_of : ModelTree → NameId → Option ℕ → List ℕ
instances_of m component top = map (λ e. e.0) (filter (λ e. same_name e.1.component component && is_under m top e.0) (enumerate_from 0 m.instances))

-- the instances in which an action of the type may run in the subtree of `top`
abbrev pub action_instances : ModelTree → Option ActionTree → Option ℕ → List ℕ
action_instances m None top = []
action_instances m (Some type) top = instances_of m type.component top

-- ---- pools

-- the pool that serves a reference, or a claim, of an action type in an instance; claims are numbered behind the references
abbrev pub served : ModelTree → ℕ → ℕ → ℕ → Option ℕ
served m action instance reference = pool_in m.served action instance reference

-- the pool of a claim
abbrev pub served_claim : ModelTree → ℕ → ℕ → ℕ → Option ℕ
served_claim m action instance claim = option_and_then (λ type. served m action instance (length type.references + claim)) (type_of m action)

-- the kind of a flow object with the direction of its reference; a resource doesn't flow
abbrev pub flow_of : ObjectKind → Bool → Option Flow
flow_of Buffer false = Some BufferIn
flow_of Buffer true = Some BufferOut
flow_of Stream false = Some StreamIn
flow_of Stream true = Some StreamOut
flow_of State false = Some StateIn
flow_of State true = Some StateOut
flow_of Resource output = None

abbrev pub reference_flow : ModelTree → Reference → Option Flow
reference_flow m reference = option_and_then (λ object. flow_of object.kind reference.output) (slice_get m.objects reference.object)

abbrev pub is_output : Flow → Bool
is_output BufferOut = true
is_output StreamOut = true
is_output StateOut = true
is_output BufferIn = false
is_output StreamIn = false
is_output StateIn = false
