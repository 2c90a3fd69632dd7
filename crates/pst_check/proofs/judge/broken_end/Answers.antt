use Rattle.std.proofs.Common.{refl}
use Rattle.pst_check.proofs.Places.{no_true}
use Rattle.pst_check.proofs.Meanings.{ends_nine, ends_free}
use Rattle.pst_check.proofs.judge.broken_end.Goals as goal

pub returns-then-runs : goal.returns-then-runs
returns-then-runs c = ends_free c.args.scenario.now c.args.past.now c.args.act (c.if-runs.ensures.0 refl)

pub returns : goal.returns
returns c = ends_nine c.args.scenario.now c.args.past.now c.args.act (λ k. no_true (c.if-runs.ensures.1 k))
