use Rattle.std.proofs.Common.{◌≡◌, [], length, take}
use Rattle.pst_programs.specs.Lanes.{Deals}
use Rattle.pst_static.specs.Loads.{AreLoads}
use Rattle.pst_static.proofs.deal.deal_all.Given as goal

abbrev pub invariant-loop-place : goal.invariant-loop-place
invariant-loop-place l = record {
  many : length l.used ≡ length l.fn.used;
  loads : AreLoads (length l.fn.used) l.dealt.items l.loads;
  deals : Deals l.plan (length l.fn.used) [] (take l.place l.order) l.dealt.items;
}
