use Rattle.std.proofs.Common.{◌≡◌, ◌≤◌, sym, ◌∙◌, arith}
use Rattle.std.proofs.lemmas.Bool.{leb-true}
use Rattle.pst_steady.proofs.runs.are_once.Goals as goal

pub returns-in-Some : goal.returns-in-Some
returns-in-Some c = λ so at from to. c.requires.runs c.args.range.first c.args.handle c.in-Some.end (sym c.run_at.ensures ∙ c.in-Some.is) at from (omega (arith, to, leb-true c.args.range.end c.in-Some.end so))
