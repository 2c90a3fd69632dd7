use Rattle.std.proofs.Common.{subst, sym}
use Rattle.std.specs.Prelude.{MatchOption}
use Rattle.pst_scen.specs.Trace.{Block}
use Rattle.pst_scen.specs.Judging.{BreaksLeast}
use Rattle.pst_check.specs.Verdicts.{IsUnbroken}
use Rattle.pst_by_rule.proofs.Onward.{block_starts}
use Rattle.pst_check.proofs.judge.broken.Goals as goal

pub returns-in-Start : goal.returns-in-Start
returns-in-Start c =
    subst (λ (b : Block). MatchOption c.broken_starts.result (IsUnbroken c.args.scenario.now c.args.past.now b) (λ rule. BreaksLeast c.args.scenario.now c.args.past.now rule b))
    (sym (block_starts c.args.part.now _ c.in-Start.act c.in-Start.lane c.in-Start.more c.requires.some c.in-Start.is)) c.broken_starts.ensures
