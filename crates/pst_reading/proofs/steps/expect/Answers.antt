use Rattle.std.proofs.Common.{rules}
use Rattle.pst_ast.specs.Limits.{counted}
use Rattle.pst_reading.proofs.Places.{mark_taken}
use Rattle.pst_reading.proofs.steps.expect.Goals as goal

pub returns-clause-reads : goal.returns-clause-reads
returns-clause-reads c = mark_taken c.args.wanted (counted c.args.nesting c.args.operators) c.args.at c.args.tokens.now c.in-Some.token (search rules) (search rules) (search rules)
