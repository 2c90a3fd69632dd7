use Rattle.std.specs.Prelude.{List}
use Rattle.std.specs.List.{Contains}
use Rattle.pst_model.specs.ConstraintTree.{SlotTree}
use Rattle.pst_terms.specs.Laws.{blocks}
use Rattle.pst_terms.proofs.Standing.{slots_stand}
use Rattle.pst_terms.proofs.laws.slots_stand.Goals as goal

pub returns : goal.returns
returns c = λ term whole. slots_stand (λ (b : List SlotTree). Contains (blocks term) b) whole.apart whole.once term (λ b is. is)
