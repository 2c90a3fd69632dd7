use Rattle.std.proofs.Common.{◌++◌, List, Bool, map, take}
use Rattle.pst_scen.specs.declared.event.Event.{Event}
use Rattle.pst_by_rule.specs.Blocks.{act_of, lane_of}
use Rattle.pst_by_rule.specs.Counted.{AreCounted}
use Rattle.pst_by_rule.proofs.Begun.{Begun}
use Rattle.pst_by_rule.proofs.starts.follow_starts.Given as goal

abbrev pub invariant-loop-i : goal.invariant-loop-i
invariant-loop-i l = record {
  begun : (trace : List Event) (ended : List Bool) → AreCounted l.plan trace l.initial.started ended l.awaited l.initial.in_the_way l.next l.initial.holders
      → Begun l.plan trace (trace ++ take l.i l.part) l.group l.act (map act_of (take l.i l.part)) (map lane_of (take l.i l.part));
  counted : (trace : List Event) (ended : List Bool) → AreCounted l.plan trace l.initial.started ended l.awaited l.initial.in_the_way l.next l.initial.holders
      → AreCounted l.plan (trace ++ take l.i l.part) l.started ended l.awaited l.in_the_way l.next l.holders;
}
