-- What the slots of a body's expressions are: an index, a local, or of the action.
use Rattle.std.specs.Prelude.{◌≡◌, ℕ, ◌<◌}
use Rattle.pst_model.specs.ConstraintTree.{SlotTree, Index, Local}

-- a row of the action's, or an index of one of so many repetitions, or one of so many locals
pub data IsBodyRow (IsOwn : SlotTree → ℕ → ℕ → Type 0) (locals levels : ℕ) (slot : SlotTree) (first count : ℕ) : Type 0 where
  OfAction : IsOwn slot first count → IsBodyRow IsOwn locals levels slot first count
  OfIndex : (level : ℕ) → level < levels → slot ≡ Index level → first ≡ 0 → count ≡ 1 → IsBodyRow IsOwn locals levels slot first count
  OfLocal : (local : ℕ) → local < locals → slot ≡ Local local → first ≡ 0 → count ≡ 1 → IsBodyRow IsOwn locals levels slot first count
