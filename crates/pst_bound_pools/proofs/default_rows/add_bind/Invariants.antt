use Rattle.std.proofs.Common.{◌≡◌, ◌++◌, [], cond}
use Rattle.std.specs.Prelude.{nat_lt}
use Rattle.std.specs.HashMap.{get}
use Rattle.pst_bound_pools.specs.declared.default_rows.ObjectKey.{ObjectKey}
use Rattle.pst_pool_binds.specs.FoundBinds.{view_default}
use Rattle.pst_bound_pools.specs.BindRows.{given_default, numbers_in, same_object}
use Rattle.pst_bound_pools.proofs.default_rows.add_bind.Given as goal

abbrev pub invariant-loop-at : goal.invariant-loop-at
invariant-loop-at l = (q : ObjectKey) → numbers_in (get same_object l.rows q) ≡ numbers_in (get same_object l.initial.rows q) ++ cond (nat_lt q.from l.at) (given_default l.index l.table q (view_default l.bind)) []
