use Rattle.std.proofs.Common.{◌≡◌, ◌++◌, drop}
use Rattle.std.specs.List.{flat_map}
use Rattle.std.specs.HashMap.{get}
use Rattle.pst_bound_pools.specs.declared.default_rows.ObjectKey.{ObjectKey}
use Rattle.pst_pool_binds.specs.FoundBinds.{view_defaults}
use Rattle.pst_bound_pools.specs.BindRows.{given_default, numbers_in, same_object}
use Rattle.pst_bound_pools.proofs.default_rows.DefaultRows.new.Given as goal

abbrev pub invariant-loop-bind : goal.invariant-loop-bind
invariant-loop-bind l =
    (q : ObjectKey) → numbers_in (get same_object l.rows q) ++ flat_map (given_default l.index l.table q) (view_defaults (drop l.bind-index l.binds)) ≡ flat_map (given_default l.index l.table q) (view_defaults l.binds)
