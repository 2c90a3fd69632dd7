use Rattle.std.proofs.Common.{◌≡◌, drop}
use Rattle.pst_model.specs.Served.{pool_in}
use Rattle.pst_open_ends.proofs.beyond.first_pool.Given as goal

abbrev pub invariant-loop-serve : goal.invariant-loop-serve
invariant-loop-serve l = pool_in (drop l.serve-index l.served) l.action l.instance l.reference ≡ pool_in l.served l.action l.instance l.reference
