-- What stands together in a term: each slot by itself, and the elements of each array.
use Rattle.std.specs.Prelude.{◌≡◌, ◌⊎◌, ℕ, ◌+◌, ◌<◌, ◌≤◌, Bool, true, false, List, [], ◌∷◌, map}
use Rattle.pst_model.specs.Limits.{most_elements}
use Rattle.pst_model.specs.ConstraintTree.{SlotTree, Own, Object, First, ClaimId, ClaimField, Prev, IsFirst, Id, Index, Local, Through, Outer}
use Rattle.pst_terms.specs.Fields.{counted}
use Rattle.pst_terms.specs.Terms.{Term, Number, Leaf, Prefix, Infix, Indexed}

-- ---- slots and the numbers of their fields

-- a slot with field 0 in place of its field
abbrev pub without_field : SlotTree → SlotTree
without_field (Own field) = Own 0
without_field (Object reference field) = Object reference 0
without_field (First reference) = First reference
without_field (ClaimId claim) = ClaimId claim
without_field (ClaimField claim field) = ClaimField claim 0
without_field (Prev field) = Prev 0
without_field IsFirst = IsFirst
without_field Id = Id
without_field (Index level) = Index level
without_field (Local local) = Local local
without_field (Through handle slot) = Through handle (without_field slot)
without_field (Outer slot) = Outer (without_field slot)

-- with another field, where it is of one
abbrev pub with_field : SlotTree → ℕ → SlotTree
with_field (Own field) k = Own k
with_field (Object reference field) k = Object reference k
with_field (First reference) k = First reference
with_field (ClaimId claim) k = ClaimId claim
with_field (ClaimField claim field) k = ClaimField claim k
with_field (Prev field) k = Prev k
with_field IsFirst k = IsFirst
with_field Id k = Id
with_field (Index level) k = Index level
with_field (Local local) k = Local local
with_field (Through handle slot) k = Through handle (with_field slot k)
with_field (Outer slot) k = Outer (with_field slot k)

abbrev pub has_field : SlotTree → Bool
has_field (Own field) = true
has_field (Object reference field) = true
has_field (First reference) = false
has_field (ClaimId claim) = false
has_field (ClaimField claim field) = true
has_field (Prev field) = true
has_field IsFirst = false
has_field Id = false
has_field (Index level) = false
has_field (Local local) = false
has_field (Through handle slot) = has_field slot
has_field (Outer slot) = has_field slot

-- ---- blocks

-- slots of as many fields as a row of them has, or one slot that is of none
pub record IsBlock (IsRow : SlotTree → ℕ → ℕ → Type 0) (block : List SlotTree) : Type 0 where
  pub slot : SlotTree
  pub first : ℕ
  pub count : ℕ
  pub row : IsRow slot first count
  pub is : block ≡ map (with_field slot) (counted first count)

-- each slot by itself and each array of a term is a block
abbrev pub HasBlocks : (SlotTree → ℕ → ℕ → Type 0) → Term SlotTree → Type 0
HasBlocks IsRow (Number n) = Unit {0}
HasBlocks IsRow (Leaf slot) = IsBlock IsRow (slot ∷ [])
HasBlocks IsRow (Prefix operator operand) = HasBlocks IsRow operand
HasBlocks IsRow (Infix operator left right) = HasBlocks IsRow left × HasBlocks IsRow right
HasBlocks IsRow (Indexed elements index) = IsBlock IsRow elements × HasBlocks IsRow index

-- Rows of slots that have a meaning: of one kind of slot two rows are the same, or have no field in common.
pub record AreRows (IsSlot : SlotTree → Type 0) (IsRow : SlotTree → ℕ → ℕ → Type 0) : Type 0 where
  pub bare : (slot : SlotTree) (first count : ℕ) → IsRow slot first count → without_field slot ≡ slot
  pub alone : (slot : SlotTree) (first count : ℕ) → IsRow slot first count → has_field slot ≡ false → (first ≡ 0) × (count ≡ 1)
  pub least : (slot : SlotTree) (first count : ℕ) → IsRow slot first count → 1 ≤ count
  pub most : (slot : SlotTree) (first count : ℕ) → IsRow slot first count → count ≤ most_elements
  pub apart : (slot : SlotTree) (first count other more : ℕ) → IsRow slot first count → IsRow slot other more → ((first ≡ other) × (count ≡ more)) ⊎ ((first + count ≤ other) ⊎ (other + more ≤ first))
  pub sound : (slot : SlotTree) (first count k : ℕ) → IsRow slot first count → k < count → IsSlot (with_field slot (first + k))
