use Rattle.std.proofs.Common.{◌-◌, length}
use Rattle.std.specs.Prelude.{sum_by}
use Rattle.pst_static.specs.Awaiting.{AreHeard}
use Rattle.pst_static.proofs.News.{Turn}
use Rattle.pst_static.proofs.awaits.write_awaits.Given as goal

abbrev pub decreases-turns : goal.decreases-turns
decreases-turns l = sum_by (λ h. length l.dealt - h) l.heard.items

abbrev pub invariant-turns : goal.invariant-turns
invariant-turns l = record {
  turn : Turn l.dealt l.latest l.fn.heard.items l.act l.lane l.fn.draft.items l.draft.items l.heard.items l.fn.told l.told;
  heard : AreHeard (length l.latest) l.dealt l.draft.items l.heard.items;
}
