use Rattle.std.proofs.Common.{◌≡◌, ◌++◌, [], cond}
use Rattle.std.specs.Prelude.{nat_lt}
use Rattle.std.specs.HashMap.{get}
use Rattle.pst_bound_pools.specs.declared.explicit_rows.TargetKey.{TargetKey}
use Rattle.pst_pool_binds.specs.FoundBinds.{view_bind}
use Rattle.pst_bound_pools.specs.BindRows.{given, numbers_in, same_target}
use Rattle.pst_bound_pools.specs.KeptBinds.{IsAimed}
use Rattle.pst_bound_pools.proofs.explicit_rows.add_bind.Given as goal

abbrev pub invariant-loop-at : goal.invariant-loop-at
invariant-loop-at l = record {
  rows : (q : TargetKey) → numbers_in (get same_target l.found.rows q) ≡ numbers_in (get same_target l.initial.found.rows q) ++ cond (nat_lt q.from l.at) (given l.index l.table q (view_bind l.bind)) [];
  aimed : IsAimed l.found;
}
