-- How the pools of binds are kept.
use Rattle.std.specs.Prelude.{◌≡◌, List, [], None}
use Rattle.std.specs.List.{flat_map}
use Rattle.std.specs.HashMap.{get}
use Rattle.pst_ast.specs.declared.instance.Instance.{Instance}
use Rattle.pst_ast.specs.declared.scope_declaration.Declaration.{Declaration}
use Rattle.pst_bound_pools.specs.declared.explicit_rows.TargetKey.{TargetKey}
use Rattle.pst_bound_pools.specs.declared.explicit_rows.ExplicitRows.{ExplicitRows}
use Rattle.pst_bound_pools.specs.declared.default_rows.ObjectKey.{ObjectKey}
use Rattle.pst_bound_pools.specs.declared.default_rows.DefaultRows.{DefaultRows}
use Rattle.pst_pool_binds.specs.PoolBinds.{ExplicitBind, DefaultBind}
use Rattle.pst_bound_pools.specs.BindRows.{aim_of, given, given_default, numbers_in, same_aim, same_object, same_target}

-- each row has what the binds give to its key, in their order
abbrev pub AreExplicitRows : List Declaration → List Instance → List ExplicitBind → ExplicitRows → Type 0
AreExplicitRows ds instances binds rows = (q : TargetKey) → numbers_in (get same_target rows.rows q) ≡ flat_map (given ds instances q) binds

abbrev pub AreDefaultRows : List Declaration → List Instance → List DefaultBind → DefaultRows → Type 0
AreDefaultRows ds instances binds rows = (q : ObjectKey) → numbers_in (get same_object rows.rows q) ≡ flat_map (given_default ds instances q) binds

-- there is a row for nothing but what is aimed at
abbrev pub IsAimed : ExplicitRows → Type 0
IsAimed rows = (q : TargetKey) → get same_aim rows.aimed (aim_of q) ≡ None → numbers_in (get same_target rows.rows q) ≡ []
