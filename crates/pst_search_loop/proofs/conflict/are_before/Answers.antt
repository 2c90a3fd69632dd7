use Rattle.std.proofs.Common.{⊎_elim, arith}
use Rattle.pst_search_loop.proofs.Among.{among_next}
use Rattle.pst_search_loop.proofs.conflict.are_before.Goals as goal

pub loop-place-preserved : goal.loop-place-preserved
loop-place-preserved c p h =
    ⊎_elim (λ b. c.loop-place.invariant p b) (λ e. omega (arith, e)) (among_next c.args.places.now c.loop-place.place-index p (omega arith) h)
