use Rattle.std.proofs.Common.{List, Option, Some, None, Result, Ok, Err, IfOk, IfSome}
use Rattle.pst_base.specs.declared.memory.NoMemory.{NoMemory}
use Rattle.pst_expr.specs.declared.ranges.Span.{Span}
use Rattle.pst_expr.specs.declared.tree.Expr.{Expr}
use Rattle.pst_reasons.specs.declared.reasons.Narrowed.{Narrowed}
use Rattle.pst_reasons.specs.Giving.{IsKept, Begins}
use Rattle.pst_tests_numbers.proofs.giving.begun.Goals as goal

kept_of : (cs : List Expr) (bs : List (Option Span)) (b : Option Narrowed) → Begins cs bs b → IfSome b IsKept
kept_of cs bs None h = tt
kept_of cs bs (Some s) h = h.kept

if_made : (cs : List Expr) (bs : List (Option Span)) (r : Result (Option Narrowed) NoMemory) → IfOk r (λ b. Begins cs bs b) → IfOk r (λ b. IfSome b IsKept)
if_made cs bs (Ok b) h = kept_of cs bs b h
if_made cs bs (Err e) h = tt

pub returns : goal.returns
returns c = if_made c.args.constraints.items c.args.bounds c.new.result c.new.ensures
