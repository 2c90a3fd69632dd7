use Rattle.std.proofs.Common.{arith, string_bytes}
use Rattle.pst_words.proofs.Few.{few_taken}
use Rattle.pst_words.proofs.reading.count_few.Goals as goal

pub overflow_cast-result : goal.overflow_cast-result
overflow_cast-result c = omega (arith, few_taken string_bytes c.args.command c.args.have c.args.words.now c.count_right.result c.count_right.ensures.inside c.count_right.ensures.right)

pub returns-clause-few : goal.returns-clause-few
returns-clause-few c = few_taken string_bytes c.args.command c.args.have c.args.words.now c.count_right.result c.count_right.ensures.inside c.count_right.ensures.right
