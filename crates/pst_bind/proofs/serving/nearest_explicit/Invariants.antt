use Rattle.std.proofs.Common.{◌≡◌, drop, map}
use Rattle.pst_bound_pools.specs.Serving.{first_filled}
use Rattle.pst_bind.specs.Nearest.{explicit_row}
use Rattle.pst_bind.proofs.serving.nearest_explicit.Given as goal

abbrev pub invariant-loop-from : goal.invariant-loop-from
invariant-loop-from l = first_filled (map (explicit_row l.rows l.to l.action l.need) (drop l.from-index l.above)) ≡ first_filled (map (explicit_row l.rows l.to l.action l.need) l.above)
