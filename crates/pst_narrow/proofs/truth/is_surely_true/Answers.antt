use Rattle.std.proofs.Common.{arith}
use Rattle.std.proofs.lemmas.Int.{ints}
use Rattle.pst_expr.specs.Tree.{view}
use Rattle.pst_narrow.proofs.LogicLemmas.{surely_above, surely_under}
use Rattle.pst_narrow.proofs.truth.is_surely_true.Goals as goal

pub returns-then-span-gt0 : goal.returns-then-span-gt0
returns-then-span-gt0 c e = surely_above (view c.args.expr.now) c.args.bounds.now c.in-Some.span (omega (arith, ints, c.if-span-gt0.true)) c.in-Some.ensures.sound

pub returns-else-span-gt0 : goal.returns-else-span-gt0
returns-else-span-gt0 c e = surely_under (view c.args.expr.now) c.args.bounds.now c.in-Some.span (omega (arith, ints, e)) c.in-Some.ensures.sound
