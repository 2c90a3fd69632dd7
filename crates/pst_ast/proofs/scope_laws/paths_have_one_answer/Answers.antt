use Rattle.std.proofs.Common.{◌∙◌, sym}
use Rattle.pst_ast.proofs.PathsAnswered.{computed_answers, answers_are_computed}
use Rattle.pst_ast.proofs.scope_laws.paths_have_one_answer.Goals as goal

pub returns : goal.returns
returns c = λ ds names at fits p rest. (
  computed_answers ds names fits at p rest,
  λ a b one other. sym (answers_are_computed ds names fits at p rest a one) ∙ answers_are_computed ds names fits at p rest b other,
)
