-- Laws of the definitions.
use Rattle.std.specs.Prelude.{◌≡◌, ◌⊎◌, ℕ, ◌+◌, ◌≤◌, ℤ, Bool, true, false, List, [], ◌∷◌, ◌++◌, map, length, slice_get, Option, Some}
use Rattle.std.specs.List.{flat_map, list_any, Contains}
use Rattle.pst_ast.specs.ExpressionTree.{ExprTree, PathTree}
use Rattle.pst_expr.specs.Value.{value}
use Rattle.pst_model.specs.Limits.{most_elements}
use Rattle.pst_model.specs.SoundConstraint.{IsBelow}
use Rattle.pst_model.specs.ConstraintTree.{SlotTree}
use Rattle.pst_type_rules.specs.Values.{value_under}
use Rattle.pst_terms.specs.Terms.{Term, Number, Leaf, Prefix, Infix, Indexed, Reading, term_of}
use Rattle.pst_terms.specs.Slots.{same_slot, slots_of, slot_number, first_number, numbered}
use Rattle.pst_terms.specs.Values.{term_value, path_value}

-- an expression has the value of its term: in both `x in [a..b, c]` is `x >= a && x <= b || x == c`
abbrev pub RewritingKeepsValues : Type 0
RewritingKeepsValues = (f : SlotTree → Option ℤ) (read : PathTree → Reading SlotTree) (expr : ExprTree) → term_value f (term_of read expr) ≡ value_under (path_value f read) expr

-- Each slot of a term stands at its number, and those of an array stand together, in order of index.
abbrev pub StandIn : List SlotTree → Term SlotTree → Type 0
StandIn slots (Number n) = Unit {0}
StandIn slots (Leaf slot) = slice_get slots (slot_number slots slot) ≡ Some slot
StandIn slots (Prefix operator operand) = StandIn slots operand
StandIn slots (Infix operator left right) = StandIn slots left × StandIn slots right
StandIn slots (Indexed elements index) =
    ((i : ℕ) (slot : SlotTree) → slice_get elements i ≡ Some slot → slice_get slots (first_number slots elements + i) ≡ Some slot) × StandIn slots index

-- over slots so, the expression by their numbers has the value of the term
abbrev pub NumberingKeepsValues : Type 0
NumberingKeepsValues = (f : SlotTree → Option ℤ) (slots : List SlotTree) (term : Term SlotTree) → StandIn slots term → value (numbered slots term) (map f slots) ≡ term_value f term

-- ---- where slots stand

-- what must stand together: each slot by itself, and the elements of each array
abbrev pub blocks : Term SlotTree → List (List SlotTree)
blocks (Number n) = []
blocks (Leaf slot) = (slot ∷ []) ∷ []
blocks (Prefix operator operand) = blocks operand
blocks (Infix operator left right) = blocks left ++ blocks right
blocks (Indexed elements index) = elements ∷ blocks index

abbrev pub is_in : SlotTree → List SlotTree → Bool
is_in slot slots = list_any (same_slot slot) slots

abbrev pub HasNoneTwice : List SlotTree → Type 0
HasNoneTwice [] = Unit {0}
HasNoneTwice (slot ∷ more) = (is_in slot more ≡ false) × HasNoneTwice more

-- two blocks are the same, or have no slot in common
abbrev pub AreApart : List SlotTree → List SlotTree → Type 0
AreApart b c = (b ≡ c) ⊎ ((slot : SlotTree) → is_in slot b ≡ true → is_in slot c ≡ false)

-- no two arrays of a term overlap, no array has a slot that also stands by itself, and no array has a slot twice
pub record IsWhole (term : Term SlotTree) : Type 0 where
  pub apart : (b c : List SlotTree) → Contains (blocks term) b → Contains (blocks term) c → AreApart b c
  pub once : (b : List SlotTree) → Contains (blocks term) b → HasNoneTwice b

-- among the slots of such a term each stands at its number, and the elements of each array stand together
abbrev pub SlotsStand : Type 0
SlotsStand = (term : Term SlotTree) → IsWhole term → StandIn (slots_of term) term

-- ---- sound expressions

-- each array of a term has at least one element, and no more than an array may have
abbrev pub HasRightArrays : Term SlotTree → Type 0
HasRightArrays (Number n) = Unit {0}
HasRightArrays (Leaf slot) = Unit {0}
HasRightArrays (Prefix operator operand) = HasRightArrays operand
HasRightArrays (Infix operator left right) = HasRightArrays left × HasRightArrays right
HasRightArrays (Indexed elements index) = (1 ≤ length elements) × (length elements ≤ most_elements) × HasRightArrays index

-- the slots that stand in a term
abbrev pub slots_in : Term SlotTree → List SlotTree
slots_in term = flat_map (λ b. b) (blocks term)

-- The variables of an expression are below its slots, and each slot stands in the term: what a sound model asks of it but for the meaning of the term's own slots.
pub record ExpressionsAreBelow : Type 0 where
  pub below : (term : Term SlotTree) → IsWhole term → HasRightArrays term → IsBelow (length (slots_of term)) (numbered (slots_of term) term)
  pub among : (term : Term SlotTree) (slot : SlotTree) → is_in slot (slots_of term) ≡ true → is_in slot (slots_in term) ≡ true
