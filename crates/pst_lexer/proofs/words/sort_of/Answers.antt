use Rattle.std.proofs.Common.{refl, sym, ◌∙◌, rules}
use Rattle.pst_lexer.proofs.Sorts.{digit_tells, fixed_tells, name_tells}
use Rattle.pst_lexer.proofs.words.sort_of.Goals as goal

pub returns-then-is_ascii_digit : goal.returns-then-is_ascii_digit
returns-then-is_ascii_digit c = digit_tells c.args.word.now c.number.result (search rules) c.number.ensures

pub returns-in-Some : goal.returns-in-Some
returns-in-Some c = (refl, c.in-Some.ensures.spelled.0, fixed_tells c.args.word.now c.in-Some.kind (search rules) (sym c.kind_of.ensures.value ∙ c.in-Some.is))

pub returns-in-None : goal.returns-in-None
returns-in-None c = (refl, name_tells c.args.word.now (search rules) (sym c.kind_of.ensures.value ∙ c.in-None.is))
