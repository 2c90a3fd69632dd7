use Rattle.std.proofs.Common.{sym, ◌∙◌, decimal}
use Rattle.std.proofs.lemmas.Fmt.{decimal_injective}
use Rattle.pst_words.proofs.Dropped.{some_one}
use Rattle.pst_words.proofs.line.Line.number.Goals as goal

pub returns-in-Some-clause-is_given : goal.returns-in-Some-clause-is_given
returns-in-Some-clause-is_given c = λ n small e. decimal_injective c.in-Some.n n c.in-Some.ensures.1 small (some_one (decimal c.in-Some.n) (decimal n) (sym c.in-Some.ensures.0 ∙ e))
