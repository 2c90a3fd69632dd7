-- The slots of small terms, and the expressions by their numbers.
use Rattle.std.specs.Prelude.{◌≡◌, ℕ, pos, List, [], ◌∷◌}
use Rattle.pst_expr.specs.Tree.{Expression, Constant, Variable, Binary, Element}
use Rattle.pst_expr.specs.declared.tree.BinaryOp.TheVariants.{Add, Mul}
use Rattle.pst_model.specs.ConstraintTree.{ConstraintTree, SlotTree, Own, Object, Through, Outer}
use Rattle.pst_terms.specs.Terms.{Number, Leaf, Infix, Indexed}
use Rattle.pst_terms.specs.Slots.{constraint_of}

abbrev pub expression : Expression → List SlotTree → ConstraintTree
expression e slots = record { expression = e; slots = slots }

-- h.f, where f is a field of a handle's action, and a field of the action round an inline constraint
abbrev pub behind : ℕ → SlotTree
behind field = Through 1 (Own field)

abbrev pub around : ℕ → SlotTree
around field = Outer (Own field)

-- an array of two elements
abbrev pub array : List SlotTree
array = Own 1 ∷ Own 2 ∷ []

pub record SlotsAreTried : Type 0 where
  -- b * (a + b): each once, in the order of their first occurrence
  pub once : constraint_of (Infix Mul (Leaf (Own 1)) (Infix Add (Leaf (Own 0)) (Leaf (Own 1)))) ≡ expression (Binary Mul (Variable 0) (Binary Add (Variable 1) (Variable 0))) (Own 1 ∷ Own 0 ∷ [])
  -- slots that differ in one number, or in where they stand
  pub apart : constraint_of (Infix Add (Infix Add (Leaf (Own 0)) (Leaf (behind 0))) (Infix Add (Leaf (around 0)) (Leaf (Object 0 0))))
      ≡ expression (Binary Add (Binary Add (Variable 0) (Variable 1)) (Binary Add (Variable 2) (Variable 3))) (Own 0 ∷ behind 0 ∷ around 0 ∷ Object 0 0 ∷ [])
  -- a[x]: the elements before the slots of the index
  pub array_first : constraint_of (Indexed array (Leaf (Own 0))) ≡ expression (Element 0 2 (Variable 2)) (Own 1 ∷ Own 2 ∷ Own 0 ∷ [])
  -- x + a[a[x]]: behind what stands before it, and within its own index
  pub own_index : constraint_of (Infix Add (Leaf (Own 0)) (Indexed array (Indexed array (Leaf (Own 0))))) ≡ expression (Binary Add (Variable 0) (Element 1 2 (Element 1 2 (Variable 0)))) (Own 0 ∷ Own 1 ∷ Own 2 ∷ [])
  -- without slots
  pub no_slots : constraint_of (Infix Add (Number (pos 1)) (Number (pos 2))) ≡ expression (Binary Add (Constant (pos 1)) (Constant (pos 2))) []
