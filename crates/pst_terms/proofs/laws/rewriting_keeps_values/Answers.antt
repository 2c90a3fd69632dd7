use Rattle.pst_model.specs.ConstraintTree.{SlotTree}
use Rattle.pst_terms.proofs.Rewriting.{same_value}
use Rattle.pst_terms.proofs.laws.rewriting_keeps_values.Goals as goal

pub returns : goal.returns
returns c = λ f read expr. same_value SlotTree f read expr
