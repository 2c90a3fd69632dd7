-- Which slots have a meaning where they stand: the numbers in them name entries of the right sort.
use Rattle.std.specs.Prelude.{◌≡◌, ℕ, ◌<◌, List, [], length, slice_get, Option, option_and_then}
use Rattle.std.specs.Option.{IsSomeAnd}
use Rattle.pst_model.specs.declared.object.ObjectKind.{ObjectKind}
use Rattle.pst_model.specs.declared.object.ObjectKind.TheVariants.{State, Resource}
use Rattle.pst_model.specs.ConstraintTree.{SlotTree, Own, Object, First, ClaimId, ClaimField, Prev, IsFirst, Id, Index, Local, Through, Outer}
use Rattle.pst_model.specs.ActivityTree.{StepTree}
use Rattle.pst_model.specs.ModelTree.{ContentTree, Atomic, Compound, ActionTree, ObjectTree, ModelTree}
use Rattle.pst_model.specs.Traversals.{IsSteady}

-- the object type is there, and is of this kind
abbrev pub IsOfKind : List ObjectTree → ObjectKind → ℕ → Type 0
IsOfKind objects kind object = IsSomeAnd (slice_get objects object) (λ type. type.kind ≡ kind)

-- the object type is there, and has the field
abbrev pub HasField : List ObjectTree → ℕ → ℕ → Type 0
HasField objects object field = IsSomeAnd (slice_get objects object) (λ type. field < length type.fields)

-- a field, or a part of a reference or claim, of an action
abbrev pub IsActionSlot : List ObjectTree → ActionTree → SlotTree → Type 0
IsActionSlot objects action (Own field) = field < length action.fields
IsActionSlot objects action (Object reference field) = IsSomeAnd (slice_get action.references reference) (λ r. HasField objects r.object field)
IsActionSlot objects action (First reference) = IsSomeAnd (slice_get action.references reference) (λ r. IsOfKind objects State r.object)
IsActionSlot objects action (ClaimId claim) = claim < length action.claims
IsActionSlot objects action (ClaimField claim field) = IsSomeAnd (slice_get action.claims claim) (λ c. HasField objects c.object field)
IsActionSlot objects action _ = ⊥

-- the action types of an action's handles
abbrev pub handles_of : ContentTree → List ℕ
handles_of (Atomic body) = []
handles_of (Compound activity) = activity.handles

-- the steps of an action's activity
abbrev pub activity_of : ContentTree → List StepTree
activity_of (Atomic body) = []
activity_of (Compound activity) = activity.steps

-- the action type of a handle
abbrev pub handle_type : ModelTree → List ℕ → ℕ → Option ActionTree
handle_type model handles handle = option_and_then (slice_get model.actions) (slice_get handles handle)

-- a slot of a constraint of an action: of the action itself, or of what a handle traverses, if it traverses one action in each fill
abbrev pub IsConstraintSlot : ModelTree → ActionTree → SlotTree → Type 0
IsConstraintSlot model action (Through handle slot) = IsSteady handle (activity_of action.content) × IsSomeAnd (handle_type model (handles_of action.content) handle) (λ traversed. IsActionSlot model.objects traversed slot)
IsConstraintSlot model action slot = IsActionSlot model.objects action slot

-- a slot of an inline constraint: an index, a slot of the action round it, or one of the traversed action
abbrev pub IsInlineSlot : ModelTree → ActionTree → ActionTree → ℕ → SlotTree → Type 0
IsInlineSlot model action traversed levels (Index level) = level < levels
IsInlineSlot model action traversed levels (Outer slot) = IsConstraintSlot model action slot
IsInlineSlot model action traversed levels slot = IsConstraintSlot model traversed slot

-- a slot of a condition, guard, count or matched value of an activity: a field of its own action, or an index
abbrev pub IsConditionSlot : ActionTree → ℕ → SlotTree → Type 0
IsConditionSlot action levels (Own field) = field < length action.fields
IsConditionSlot action levels (Index level) = level < levels
IsConditionSlot action levels _ = ⊥

-- a slot of an expression of a body: an index, a local, or a slot of the action
abbrev pub IsBodySlot : List ObjectTree → ActionTree → ℕ → ℕ → SlotTree → Type 0
IsBodySlot objects action locals levels (Index level) = level < levels
IsBodySlot objects action locals levels (Local local) = local < locals
IsBodySlot objects action locals levels slot = IsActionSlot objects action slot

-- a slot of a constraint of an object: its field, in a state object what came before it, in a resource object its number
abbrev pub IsObjectSlot : ObjectTree → SlotTree → Type 0
IsObjectSlot object (Own field) = field < length object.fields
IsObjectSlot object (Prev field) = (object.kind ≡ State) × (field < length object.fields)
IsObjectSlot object IsFirst = object.kind ≡ State
IsObjectSlot object Id = object.kind ≡ Resource
IsObjectSlot object _ = ⊥
