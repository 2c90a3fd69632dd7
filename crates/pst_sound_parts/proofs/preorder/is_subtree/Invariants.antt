use Rattle.std.proofs.Common.{ℕ, ◌<◌, ◌≤◌, ◌↔◌}
use Rattle.pst_model.specs.Preorder.{LiesUnder}
use Rattle.pst_sound_parts.proofs.preorder.is_subtree.Given as goal

abbrev pub invariant-loop-n : goal.invariant-loop-n
invariant-loop-n l = (n : ℕ) → n < l.n → (LiesUnder l.parts l.top n ↔ (l.top ≤ n) × (n ≤ l.last))
