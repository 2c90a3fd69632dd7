use Rattle.pst_ast.proofs.Fronts.{part_is_begun}
use Rattle.pst_ast.proofs.laws.parts_are_begun.Goals as goal

pub returns : goal.returns
returns c = part_is_begun
