-- The slots of an expression, in the order of their first occurrence, and the expression over their numbers.
use Rattle.std.specs.Prelude.{ℕ, suc, nat_eq, Bool, true, false, ◌&&◌, List, [], ◌∷◌, ◌++◌, length, if◌then◌else◌}
use Rattle.std.specs.List.{list_any}
use Rattle.pst_expr.specs.Tree.{Expression, Constant, Variable, Unary, Binary, Element}
use Rattle.pst_model.specs.ConstraintTree.{ConstraintTree, SlotTree, Own, Object, First, ClaimId, ClaimField, Prev, IsFirst, Id, Index, Local, Through, Outer}
use Rattle.pst_terms.specs.Terms.{Term, Number, Leaf, Prefix, Infix, Indexed}

abbrev pub same_slot : SlotTree → SlotTree → Bool
same_slot (Own a) (Own b) = nat_eq a b
same_slot (Object r a) (Object s b) = nat_eq r s && nat_eq a b
same_slot (First r) (First s) = nat_eq r s
same_slot (ClaimId c) (ClaimId d) = nat_eq c d
same_slot (ClaimField c a) (ClaimField d b) = nat_eq c d && nat_eq a b
same_slot (Prev a) (Prev b) = nat_eq a b
same_slot IsFirst IsFirst = true
same_slot Id Id = true
same_slot (Index a) (Index b) = nat_eq a b
same_slot (Local a) (Local b) = nat_eq a b
same_slot (Through h a) (Through k b) = nat_eq h k && same_slot a b
same_slot (Outer a) (Outer b) = same_slot a b
same_slot _ _ = false

-- ---- in the order of their first occurrence

-- slots and another one, which is there or goes last
abbrev pub with_slot : List SlotTree → SlotTree → List SlotTree
with_slot slots slot = if list_any (same_slot slot) slots then slots else slots ++ slot ∷ []

abbrev pub with_slots : List SlotTree → List SlotTree → List SlotTree
with_slots slots [] = slots
with_slots slots (slot ∷ more) = with_slots (with_slot slots slot) more

-- slots and those of an expression; the elements of an array come before those of its index
abbrev pub with_term : List SlotTree → Term SlotTree → List SlotTree
with_term slots (Number n) = slots
with_term slots (Leaf slot) = with_slot slots slot
with_term slots (Prefix operator operand) = with_term slots operand
with_term slots (Infix operator left right) = with_term (with_term slots left) right
with_term slots (Indexed elements index) = with_term (with_slots slots elements) index

abbrev pub slots_of : Term SlotTree → List SlotTree
slots_of term = with_term [] term

-- ---- by their numbers

-- how many slots stand before one
abbrev pub slot_number : List SlotTree → SlotTree → ℕ
slot_number [] slot = 0
slot_number (other ∷ more) slot = if same_slot slot other then 0 else suc (slot_number more slot)

abbrev pub first_number : List SlotTree → List SlotTree → ℕ
first_number slots [] = 0
first_number slots (slot ∷ more) = slot_number slots slot

-- an expression whose variables are the numbers of its slots
abbrev pub numbered : List SlotTree → Term SlotTree → Expression
numbered slots (Number n) = Constant n
numbered slots (Leaf slot) = Variable (slot_number slots slot)
numbered slots (Prefix operator operand) = Unary operator (numbered slots operand)
numbered slots (Infix operator left right) = Binary operator (numbered slots left) (numbered slots right)
numbered slots (Indexed elements index) = Element (first_number slots elements) (length elements) (numbered slots index)

-- a constraint, or another expression of a model
abbrev pub constraint_of : Term SlotTree → ConstraintTree
constraint_of term = record { expression = numbered (slots_of term) term; slots = slots_of term }
