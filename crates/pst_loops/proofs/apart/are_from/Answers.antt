use Rattle.std.proofs.Common.{ℕ, ◌≤◌, subst, arith}
use Rattle.pst_loops.specs.Apart.{level}
use Rattle.pst_loops.proofs.Rising.{index_in}
use Rattle.pst_loops.proofs.apart.are_from.Goals as goal

pub returns : goal.returns
returns c = λ t w i.
    let (k, l, e) = index_in c.args.row.now w i in
    subst (λ (x : ℕ). c.args.least ≤ level c.args.levels.now x) e (c.loop-next.invariant k (omega (arith, l)))
