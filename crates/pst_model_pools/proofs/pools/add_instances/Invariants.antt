use Rattle.std.proofs.Common.{◌≡◌, ◌++◌, drop, map}
use Rattle.std.specs.List.{flat_map, enumerate_from}
use Rattle.pst_bind.specs.Pools.{pools, pools_at}
use Rattle.pst_elab_rules.specs.Model.{model_pool}
use Rattle.pst_sources.specs.Shown.{sources_of}
use Rattle.pst_terms.specs.Sources.{declared_in}
use Rattle.pst_model_pools.proofs.pools.add_instances.Given as goal

abbrev pub invariant-loop-at : goal.invariant-loop-at
invariant-loop-at l =
    l.found.items ++ map (model_pool (sources_of l.numbered)) (flat_map (pools_at (declared_in (sources_of l.numbered))) (enumerate_from l.at (drop l.at l.instances)))
    ≡ l.initial.found.items ++ map (model_pool (sources_of l.numbered)) (pools (declared_in (sources_of l.numbered)) l.instances)
