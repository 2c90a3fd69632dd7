-- The pools of binds, by the instance in which a bind stands and by what it names.
use Rattle.std.specs.Prelude.{ℕ, Bool, false, nat_eq, ◌&&◌, List, [], Vec, Option, None, option_to_list, if◌then◌else◌}
use Rattle.std.specs.declared.alloc.Global.{Global}
use Rattle.std.specs.Option.{option_map, option_map_or, option_and_then}
use Rattle.pst_base.specs.declared.table.NameId.{NameId}
use Rattle.pst_base.specs.declared.position.Place.{Place}
use Rattle.pst_ast.specs.declared.instance.Instance.{Instance}
use Rattle.pst_ast.specs.declared.scope_declaration.Declaration.{Declaration}
use Rattle.pst_ast.specs.Sorts.{is_pool, same_place}
use Rattle.pst_ast.specs.Lookups.{type_of}
use Rattle.pst_ast.specs.NameRules.{named_in}
use Rattle.pst_bound_pools.specs.declared.default_rows.ObjectKey.{ObjectKey}
use Rattle.pst_bound_pools.specs.declared.explicit_rows.AimKey.{AimKey}
use Rattle.pst_bound_pools.specs.declared.explicit_rows.TargetKey.{TargetKey}
use Rattle.pst_pool_binds.specs.PoolBinds.{ExplicitBind, DefaultBind}
use Rattle.pst_bound_pools.specs.Serving.{stands_in, pool_bound, leads_to}

-- the numbers of a row, which has none where nothing was added
abbrev pub numbers_in : Option (Vec ℕ Global) → List ℕ
numbers_in row = option_map_or (λ r. r.items) row []

-- ---- explicit binds

abbrev pub target_key : ℕ → ℕ → NameId → NameId → TargetKey
target_key from to action need = record { from = from; to = to; action = action.0; need = need.0 }

-- whether two keys are one
abbrev pub same_target : TargetKey → TargetKey → Bool
same_target a b = nat_eq a.from b.from && (nat_eq a.to b.to && (nat_eq a.action b.action && nat_eq a.need b.need))

-- what a key aims at, from whatever instance
abbrev pub aim_of : TargetKey → AimKey
aim_of q = record { to = q.to; action = q.action; need = q.need }

abbrev pub same_aim : AimKey → AimKey → Bool
same_aim a b = nat_eq a.to b.to && (nat_eq a.action b.action && nat_eq a.need b.need)

-- in the instance of a key, a bind names just what the key names
abbrev pub names_by : List Instance → TargetKey → ExplicitBind → Bool
names_by instances q b = leads_to instances q.from b.instances q.to && (nat_eq b.action.id.0 q.action && nat_eq b.need.id.0 q.need)

abbrev pub pool_given : List Declaration → List Instance → TargetKey → ExplicitBind → Option ℕ
pool_given ds instances q b = if stands_in ds instances b.component q.from && names_by instances q b then pool_bound ds instances b.component b.pool q.from else None

-- what a bind gives to a key
abbrev pub given : List Declaration → List Instance → TargetKey → ExplicitBind → List ℕ
given ds instances q b = option_to_list (pool_given ds instances q b)

-- ---- default binds

abbrev pub object_key : ℕ → Place → ObjectKey
object_key from place = record { from = from; file = place.file; line = place.line; column = place.column }

abbrev pub key_place : ObjectKey → Place
key_place q = record { file = q.file; line = q.line; column = q.column }

-- whether two keys are one
abbrev pub same_object : ObjectKey → ObjectKey → Bool
same_object a b = nat_eq a.from b.from && (nat_eq a.file b.file && (nat_eq a.line b.line && nat_eq a.column b.column))

-- the place of the object type of the pool that a bind binds
abbrev pub object_of : List Declaration → DefaultBind → Option Place
object_of ds b = option_map (λ o. o.name.place) (option_and_then (type_of ds) (named_in ds b.component is_pool b.pool))

-- the object type of a bind is that of a key
abbrev pub is_object : List Declaration → ObjectKey → DefaultBind → Bool
is_object ds q b = option_map_or (λ p. same_place p (key_place q)) (object_of ds b) false

abbrev pub pool_by_default : List Declaration → List Instance → ObjectKey → DefaultBind → Option ℕ
pool_by_default ds instances q b = if stands_in ds instances b.component q.from && is_object ds q b then pool_bound ds instances b.component b.pool q.from else None

-- what a bind gives to a key
abbrev pub given_default : List Declaration → List Instance → ObjectKey → DefaultBind → List ℕ
given_default ds instances q b = option_to_list (pool_by_default ds instances q b)
