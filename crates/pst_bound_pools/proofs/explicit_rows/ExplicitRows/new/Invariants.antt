use Rattle.std.proofs.Common.{◌≡◌, ◌++◌, drop}
use Rattle.std.specs.List.{flat_map}
use Rattle.std.specs.HashMap.{get}
use Rattle.pst_bound_pools.specs.declared.explicit_rows.TargetKey.{TargetKey}
use Rattle.pst_pool_binds.specs.FoundBinds.{view_binds}
use Rattle.pst_bound_pools.specs.BindRows.{given, numbers_in, same_target}
use Rattle.pst_bound_pools.specs.KeptBinds.{IsAimed}
use Rattle.pst_bound_pools.proofs.explicit_rows.ExplicitRows.new.Given as goal

abbrev pub invariant-loop-bind : goal.invariant-loop-bind
invariant-loop-bind l = record {
  rows : (q : TargetKey) → numbers_in (get same_target l.found.rows q) ++ flat_map (given l.index l.table q) (view_binds (drop l.bind-index l.binds)) ≡ flat_map (given l.index l.table q) (view_binds l.binds);
  aimed : IsAimed l.found;
}
