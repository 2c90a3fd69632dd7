use Rattle.std.proofs.Common.{◌≡◌, drop, map}
use Rattle.pst_bound_pools.specs.Serving.{first_filled}
use Rattle.pst_bind.specs.Nearest.{default_row}
use Rattle.pst_bind.proofs.serving.nearest_default.Given as goal

abbrev pub invariant-loop-from : goal.invariant-loop-from
invariant-loop-from l = first_filled (map (default_row l.rows l.place) (drop l.from-index l.above)) ≡ first_filled (map (default_row l.rows l.place) l.above)
