use Rattle.std.proofs.Common.{ℕ, Option, Some, None, Result, Ok, Err}
use Rattle.std.specs.Global.{Vec}
use Rattle.pst_base.specs.declared.memory.NoMemory.{NoMemory}
use Rattle.pst_expr.specs.declared.ranges.Span.{Span}
use Rattle.pst_reasons.specs.declared.reasons.Narrowed.{Narrowed}
use Rattle.pst_reasons.specs.Giving.{IsKept, Gives}
use Rattle.pst_tests_numbers.proofs.giving.give.Goals as goal

kept_of : (r : Result (Option (Vec ℕ)) NoMemory) (old new : Narrowed) (v : ℕ) (s : Span) → Gives r old new v s → IsKept new
kept_of (Ok None) old new v s h = h.kept
kept_of (Ok (Some places)) old new v s h = h.0.kept
kept_of (Err e) old new v s h = h.kept

pub returns : goal.returns
returns c = kept_of c.give.result c.args.narrowed.now c.give.new.self c.args.variable c.args.span c.give.ensures
