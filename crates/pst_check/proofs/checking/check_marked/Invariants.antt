use Rattle.std.proofs.Common.{◌-◌, length, take}
use Rattle.pst_check.specs.Marks.{AreMarks}
use Rattle.pst_check.proofs.Going.{IsJudged}
use Rattle.pst_check.proofs.checking.check_marked.Given as goal

abbrev pub invariant-judged : goal.invariant-judged
invariant-judged l = record {
  judged : IsJudged l.scenario l.events l.first l.block;
  marks : AreMarks (take l.first l.events) l.started l.ended;
}

abbrev pub decreases-judged : goal.decreases-judged
decreases-judged l = length l.events - l.first
