use Rattle.std.proofs.Common.{sym, subst, arith}
use Rattle.pst_reasons.specs.Marks.{IsMarked}
use Rattle.pst_reasons.proofs.CountLemmas.{counted_none}
use Rattle.pst_reasons.proofs.marks.Marks.is_empty.Goals as goal

pub returns-then-count-gt0 : goal.returns-then-count-gt0
returns-then-count-gt0 c e = absurd cc

pub returns : goal.returns
returns c e v m =
    let count = c.self.invariant in
    counted_none c.self.inside.flags.items (omega (arith, count, c.if-count-gt0.false)) v (subst (λ xs. IsMarked xs v) (sym c.self.view_is) m)
