use Rattle.std.proofs.Common.{subst, ⊎_elim, arith}
use Rattle.std.proofs.lemmas.Bool.{cases_eq}
use Rattle.pst_book.specs.Books.{CanStart}
use Rattle.pst_book.proofs.Loops.{not_true}
use Rattle.pst_book.proofs.ready.least_in.Goals as goal

pub loop-group-preserved : goal.loop-group-preserved
loop-group-preserved c =
    λ g l m can. ⊎_elim
    (λ e. not_true c.can_start.result c.can_start.ensures.1 c.if-can_start.false (subst (λ v. CanStart c.args.run.now.plan c.args.run.now.lanes c.args.run.now.trace v) e can))
    (λ n. c.loop-group.invariant g l (omega (arith, m, n)) can)
    (cases_eq g c.loop-group.group)

pub returns : goal.returns
returns c = λ g l m can. c.loop-group.invariant g l (let past = c.loop-group-test.false in omega (arith, m, past)) can
