use Rattle.std.proofs.Common.{drop, map}
use Rattle.std.specs.List.{enumerate_from}
use Rattle.pst_bind.specs.Judging.{choice_for}
use Rattle.pst_bind.specs.ListedNeeds.{need_of, needs_by}
use Rattle.pst_bind.specs.Wants.{need_in}
use Rattle.pst_bind.proofs.Judges.{IsOnTheWay}
use Rattle.pst_bind.proofs.judging.judge_in.Given as goal

abbrev pub invariant-loop-at : goal.invariant-loop-at
invariant-loop-at l =
    IsOnTheWay (choice_for l.binds.index.now l.binds.explicit.now l.binds.defaults.now l.binds.table.now)
    (map (need_of l.number l.action l.instance) (enumerate_from l.at (map need_in (drop l.at l.wanted)))) l.judged
    (needs_by l.number l.action l.instance (map need_in l.wanted)) l.initial.judged
