use Rattle.std.proofs.Common.{◌≡◌, ◌+◌, sym, ◌∙◌}
use Rattle.pst_steady.proofs.runs.end_behind.Goals as goal

pub returns-in-Some : goal.returns-in-Some
returns-in-Some c = λ at from to. c.requires.runs (c.args.at + 1) c.args.handle c.in-Some.end (sym c.run_at.ensures ∙ c.in-Some.is) at from to
