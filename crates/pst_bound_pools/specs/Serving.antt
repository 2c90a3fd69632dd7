-- Which pool serves a reference or claim of an action type in a component instance. The order of binds is this project's own:
-- explicit before default, and the nearer instance before the farther.
use Rattle.std.specs.Prelude.{ℕ, zero, suc, nat_eq, Bool, false, not, ◌&&◌, List, [], ◌∷◌, ◌++◌, map, length, position, slice_get, Option, Some, None, if◌then◌else◌}
use Rattle.std.specs.List.{filter_map, list_any}
use Rattle.std.specs.Option.{option_map_or, option_and_then}
use Rattle.pst_base.specs.declared.position.Place.{Place}
use Rattle.pst_base.specs.declared.table.NameId.{NameId}
use Rattle.pst_ast.specs.declared.leaf.Name.{Name}
use Rattle.pst_ast.specs.declared.instance.Instance.{Instance}
use Rattle.pst_ast.specs.DeclarationTree.{UnitTree}
use Rattle.pst_ast.specs.declared.scope_declaration.Declaration.{Declaration}
use Rattle.pst_ast.specs.Declarations.{declarations}
use Rattle.pst_ast.specs.Sorts.{is_pool, same_name, same_place}
use Rattle.pst_ast.specs.Lookups.{type_of}
use Rattle.pst_ast.specs.NameRules.{named_in}
use Rattle.pst_bound_pools.specs.Pools.{component_at, pool_number}
use Rattle.pst_pool_binds.specs.PoolBinds.{ExplicitBind, DefaultBind, explicit_binds, default_binds}

-- ---- instances

abbrev pub parent_of : List Instance → ℕ → Option ℕ
parent_of instances n = option_and_then (λ i. i.parent) (slice_get instances n)

-- an instance and those above it, so many in all, the nearest first
abbrev pub above_within : ℕ → List Instance → ℕ → List ℕ
above_within zero instances n = []
above_within (suc k) instances n = n ∷ option_map_or (above_within k instances) (parent_of instances n) []

abbrev pub with_those_above : List Instance → ℕ → List ℕ
with_those_above instances n = above_within (length instances) instances n

abbrev pub is_parent : ℕ → Option ℕ → Bool
is_parent n None = false
is_parent n (Some parent) = nat_eq parent n

-- an instance in another one, by its name
abbrev pub child_named : List Instance → ℕ → NameId → Option ℕ
child_named instances n name = position (λ i. is_parent n i.parent && same_name i.name name) instances

-- the instance to which names lead down
abbrev pub led_to : List Instance → ℕ → List Name → Option ℕ
led_to instances n [] = Some n
led_to instances n (name ∷ more) = option_and_then (λ child. led_to instances child more) (child_named instances n name.id)

-- ---- binds in an instance

-- the instance is one of the component in whose text a bind stands
abbrev pub stands_in : List Declaration → List Instance → Place → ℕ → Bool
stands_in ds instances component n = option_map_or (λ c. same_place c.name.place component) (component_at ds instances n) false

-- the pool that a bind binds in an instance
abbrev pub pool_bound : List Declaration → List Instance → Place → Name → ℕ → Option ℕ
pool_bound ds instances component pool n = option_and_then (pool_number ds instances n) (named_in ds component is_pool pool)

abbrev pub leads_to : List Instance → ℕ → List Name → ℕ → Bool
leads_to instances from names to = option_map_or (nat_eq to) (led_to instances from names) false

-- in an instance, a bind names just that reference or claim of that action type in that other instance
abbrev pub names_just : List Instance → Declaration → Declaration → ℕ → ℕ → ExplicitBind → Bool
names_just instances action need instance from b = leads_to instances from b.instances instance && (same_name b.action.id action.name.id && same_name b.need.id need.name.id)

-- the pools of the explicit binds that stand in an instance and name it
abbrev pub explicit_in : List UnitTree → List Instance → Declaration → Declaration → ℕ → ℕ → List ℕ
explicit_in units instances action need instance from =
    let ds = declarations units in
    filter_map (λ b. if stands_in ds instances b.component from && names_just instances action need instance from b then pool_bound ds instances b.component b.pool from else None) (explicit_binds units)

abbrev pub is_same : Option Declaration → Option Declaration → Bool
is_same (Some a) (Some b) = same_place a.name.place b.name.place
is_same _ _ = false

-- the pool of a bind is of the object type of a reference or claim
abbrev pub is_of_type : List Declaration → Declaration → DefaultBind → Bool
is_of_type ds need b = is_same (option_and_then (type_of ds) (named_in ds b.component is_pool b.pool)) (type_of ds need)

-- the pools of the default binds that stand in an instance and are of the object type
abbrev pub default_in : List UnitTree → List Instance → Declaration → ℕ → List ℕ
default_in units instances need from =
    let ds = declarations units in
    filter_map (λ b. if stands_in ds instances b.component from && is_of_type ds need b then pool_bound ds instances b.component b.pool from else None) (default_binds units)

-- ---- the pool

-- the first of some lists that isn't empty
abbrev pub first_filled : List (List ℕ) → List ℕ
first_filled [] = []
first_filled ([] ∷ more) = first_filled more
first_filled ((p ∷ ps) ∷ more) = p ∷ ps

-- The pools that may serve a reference or claim of an action type in an instance: those of the nearest instance that has an explicit bind of it,
-- or else those of the nearest instance that has a default bind of its object type.
abbrev pub candidates : List UnitTree → List Instance → Declaration → Declaration → ℕ → List ℕ
candidates units instances action need instance =
    first_filled (map (explicit_in units instances action need instance) (with_those_above instances instance) ++ map (default_in units instances need) (with_those_above instances instance))

-- several binds of one pool are one candidate
abbrev pub only_one : List ℕ → Option ℕ
only_one [] = None
only_one (p ∷ more) = if list_any (λ q. not (nat_eq q p)) more then None else Some p

-- the pool that serves it; none where there is no candidate, or more than one
abbrev pub serving_pool : List UnitTree → List Instance → Declaration → Declaration → ℕ → Option ℕ
serving_pool units instances action need instance = only_one (candidates units instances action need instance)
