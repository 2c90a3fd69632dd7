-- Expressions with the meaning of their variables, without where they lie in memory.
use Rattle.std.specs.Prelude.{ℕ, List, map}
use Rattle.pst_expr.specs.Tree.{Expression, view}
use Rattle.pst_model.specs.declared.constraint.Constraint.{Constraint}
use Rattle.pst_model.specs.declared.constraint.Slot.{Slot}
use Rattle.pst_model.specs.declared.constraint.Slot.TheVariants as slot

-- what a variable stands for
pub data SlotTree : Type 0 where
  -- a field of the action or object whose constraint it is
  Own : (field : ℕ) → SlotTree
  -- a field of the object of a reference
  Object : (reference field : ℕ) → SlotTree
  -- whether the object of a state reference is its pool's first one
  First : (reference : ℕ) → SlotTree
  -- the number of the claimed resource instance in its pool
  ClaimId : (claim : ℕ) → SlotTree
  -- a field of the claimed resource
  ClaimField : (claim field : ℕ) → SlotTree
  -- in a state object, a field of the object that it replaces
  Prev : (field : ℕ) → SlotTree
  -- in a state object, whether it is its pool's first one
  IsFirst : SlotTree
  -- in a resource object, its number in its pool
  Id : SlotTree
  -- the turn of the repetition with that many repetitions round it
  Index : (level : ℕ) → SlotTree
  -- a local of a body
  Local : (local : ℕ) → SlotTree
  -- a slot of the action that a handle traverses
  Through : (handle : ℕ) (slot : SlotTree) → SlotTree
  -- in an inline constraint, a slot of the action whose activity it stands in
  Outer : (slot : SlotTree) → SlotTree

-- an expression, whose variable v stands for slot v
pub record ConstraintTree : Type 0 where
  pub expression : Expression
  pub slots : List SlotTree

abbrev pub view_slot : Slot → SlotTree
view_slot (slot.Own field) = Own field
view_slot (slot.Object reference field) = Object reference field
view_slot (slot.First reference) = First reference
view_slot (slot.ClaimId claim) = ClaimId claim
view_slot (slot.ClaimField claim field) = ClaimField claim field
view_slot (slot.Prev field) = Prev field
view_slot slot.IsFirst = IsFirst
view_slot slot.Id = Id
view_slot (slot.Index level) = Index level
view_slot (slot.Local local) = Local local
view_slot (slot.Through' handle p inner) = Through handle (view_slot inner)
view_slot (slot.Outer' p inner) = Outer (view_slot inner)

abbrev pub view_constraint : Constraint → ConstraintTree
view_constraint c = record { expression = view c.expr; slots = map view_slot c.slots.items }
