use Rattle.std.proofs.Common.{subst}
use Rattle.std.specs.Prelude.{ℕ}
use Rattle.pst_exec.specs.Steps.{StartsNext}
use Rattle.pst_exec.proofs.Opening.{opening}
use Rattle.pst_exec.proofs.alone.start.Goals as goal

pub unreachable-requires : goal.unreachable-requires
unreachable-requires c =
    let one = opening c.open-opened.result c.args.book.now c.open-opened.new.self c.requires.serial c.requires.left c.open-opened.ensures.step c.open-opened.ensures.goes_on in
    c.in-None.ensures one.held

pub returns-clause-starts : goal.returns-clause-starts
returns-clause-starts c =
    let one = opening c.open-opened.result c.args.book.now c.open-opened.new.self c.requires.serial c.requires.left c.open-opened.ensures.step c.open-opened.ensures.goes_on in
    subst (λ (a : ℕ). StartsNext c.args.book.now c.open-opened.new.self a) (one.alone c.in-Some.action c.in-Some.ensures.0 c.in-Some.ensures.1) one.next
