use Rattle.pst_static.specs.Awaiting.{IsFirstNews}
use Rattle.pst_static.proofs.awaits.next_news.Given as goal

abbrev pub invariant-loop-other : goal.invariant-loop-other
invariant-loop-other l = IsFirstNews l.dealt l.latest l.heard l.act l.lane l.other l.found
