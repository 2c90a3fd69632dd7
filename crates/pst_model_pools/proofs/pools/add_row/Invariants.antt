use Rattle.std.proofs.Common.{◌≡◌, ◌++◌, drop}
use Rattle.pst_model_pools.specs.Rows.{row_pools}
use Rattle.pst_sources.specs.Shown.{sources_of}
use Rattle.pst_model_pools.proofs.pools.add_row.Given as goal

abbrev pub invariant-loop-declaration : goal.invariant-loop-declaration
invariant-loop-declaration l =
    l.found.items ++ row_pools (sources_of l.numbered) l.number (drop l.declaration-index l.declarations) ≡ l.initial.found.items ++ row_pools (sources_of l.numbered) l.number l.declarations
