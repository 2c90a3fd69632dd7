use Rattle.std.specs.Prelude.{List}
use Rattle.std.specs.List.{Contains}
use Rattle.pst_model.specs.ConstraintTree.{SlotTree}
use Rattle.pst_terms.specs.Slots.{slots_of}
use Rattle.pst_terms.specs.Laws.{blocks}
use Rattle.pst_terms.proofs.Below.{below, among}
use Rattle.pst_terms.proofs.Standing.{slots_stand}
use Rattle.pst_terms.proofs.laws.expressions_are_below.Goals as goal

pub returns : goal.returns
returns c = record {
  below = λ term whole right. below (slots_of term) term (slots_stand (λ (b : List SlotTree). Contains (blocks term) b) whole.apart whole.once term (λ b is. is)) right;
  among = λ term slot e. among slot term e;
}
