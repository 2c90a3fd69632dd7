use Rattle.std.proofs.Common.{◌≡◌, ℕ, ◌<◌, slice_get, Some}
use Rattle.pst_model.specs.declared.model.Part.{Part}
use Rattle.pst_model.specs.Preorder.{IsSubtree}
use Rattle.pst_sound_parts.proofs.preorder.have_subtrees.Given as goal

abbrev pub invariant-loop-n : goal.invariant-loop-n
invariant-loop-n l = (n : ℕ) (part : Part) → n < l.n → slice_get l.parts n ≡ Some part → IsSubtree l.parts n part.last
