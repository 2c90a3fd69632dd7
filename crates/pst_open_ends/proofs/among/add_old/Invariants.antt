use Rattle.std.proofs.Common.{◌≡◌, ◌++◌, drop}
use Rattle.std.specs.Prelude.{flat_map}
use Rattle.pst_legal.specs.SupplyReading.{spots}
use Rattle.pst_open_ends.specs.Spots.{read_spot, given_sources}
use Rattle.pst_open_ends.specs.Options.{old_among, unless_own}
use Rattle.pst_open_ends.proofs.among.add_old.Given as goal

abbrev pub invariant-loop-end : goal.invariant-loop-end
invariant-loop-end l = given_sources l.found.items ++ flat_map (unless_own l.need.act) (drop l.end-index l.free) ≡ given_sources l.initial.found.items ++ old_among l._acts (read_spot l.need) (spots l._acts)
