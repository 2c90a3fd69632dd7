use Rattle.std.specs.Prelude.{length}
use Rattle.pst_slots.proofs.Found.{found}
use Rattle.pst_slots.proofs.Kept.{all_found}
use Rattle.pst_slots.proofs.statements_laws.statements_are_found.Goals as goal

pub returns : goal.returns
returns c = λ m s formed n top step indices. (
  λ stands. all_found m s.nodes formed.parents n top step indices stands,
  λ is. found m s.nodes (length s.nodes) n (record { top = top; step = step; indices = indices }) is,
)
