use Rattle.std.proofs.Common.{◌≡◌, map, take}
use Rattle.pst_bind.specs.Wants.{AreWanted, need_in}
use Rattle.pst_bind.proofs.wants.all_wanted.Given as goal

abbrev pub invariant-loop-need : goal.invariant-loop-need
invariant-loop-need l = record {
  needs : map need_in l.all.items ≡ take l.need-index l.needs;
  wanted : AreWanted l.index l.rows l.table l.all.items;
}
