use Rattle.std.proofs.Common.{subst, ⊎_elim, arith, length}
use Rattle.std.proofs.lemmas.Bool.{cases_eq}
use Rattle.pst_static.specs.Taking.{CanBeTaken}
use Rattle.pst_book.proofs.Loops.{not_true}
use Rattle.pst_tallies.specs.Tallies.{counts_in}
use Rattle.pst_static.proofs.order.least_in.Goals as goal

pub loop-group-preserved : goal.loop-group-preserved
loop-group-preserved c =
    λ g l m can. ⊎_elim
    (λ e. not_true c.can_be_taken.result c.can_be_taken.ensures.1 c.if-can_be_taken.false (subst (λ v. CanBeTaken c.args.plan.now (counts_in (length c.args.plan.now.groups) c.args.awaited.now) c.args.taken.now v) e can))
    (λ n. c.loop-group.invariant g l (omega (arith, m, n)) can)
    (cases_eq g c.loop-group.group)

pub returns : goal.returns
returns c = λ g l m can. c.loop-group.invariant g l (let past = c.loop-group-test.false in omega (arith, m, past)) can
