use Rattle.std.proofs.Common.{inl, inr, ⊎_elim, arith}
use Rattle.std.proofs.lemmas.Bool.{cases_eq}
use Rattle.pst_book.proofs.Marking.{marked_none, marked_then}
use Rattle.pst_book.proofs.ready.mark_part.Goals as goal

pub loop-other-init : goal.loop-other-init
loop-other-init c = marked_none c.args.run.now.plan c.args.run.now.trace _ c.args.marks.now (λ a q j. let x = q.0 in let y = q.1 in omega (arith, x, y))

pub loop-other-preserved : goal.loop-other-preserved
loop-other-preserved c =
    marked_then c.args.run.now.plan c.args.run.now.trace _ _ _ c.args.marks.now c.loop-other.marks c.mark_one.new.marks c.loop-other.invariant c.mark_one.ensures
    (λ a q. let x = q.1 in ⊎_elim (λ e. inr (e, q.2)) (λ n. inl (q.0, omega (arith, x, n), q.2)) (cases_eq a c.loop-other.other))
