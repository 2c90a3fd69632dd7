-- The pools of the component instances.
use Rattle.std.specs.Prelude.{ℕ, nat_eq, ◌&&◌, List, [], map, position, slice_get, Option}
use Rattle.std.specs.List.{filter, flat_map, enumerate_from}
use Rattle.std.specs.Option.{option_map_or, option_and_then}
use Rattle.pst_ast.specs.declared.instance.Instance.{Instance}
use Rattle.pst_ast.specs.declared.scope_declaration.Declaration.{Declaration}
use Rattle.pst_ast.specs.declared.scope_declaration.Scope.TheVariants.{Files, Part}
use Rattle.pst_ast.specs.Sorts.{is_pool, same_place, same_scope}
use Rattle.pst_ast.specs.Lookups.{look_up}

-- the component of an instance
abbrev pub component_of : List Declaration → Instance → Option Declaration
component_of ds i = look_up ds Files i.component

abbrev pub component_at : List Declaration → List Instance → ℕ → Option Declaration
component_at ds instances n = option_and_then (component_of ds) (slice_get instances n)

-- the pools that a component declares
abbrev pub pools_in : List Declaration → Declaration → List Declaration
pools_in ds component = filter (λ d. is_pool d.sort && same_scope d.scope (Part component.name.place)) ds

-- each pool of an instance, with the instance
abbrev pub pools_at : List Declaration → ℕ × Instance → List (ℕ × Declaration)
pools_at ds x = option_map_or (λ c. map (λ d. (x.0, d)) (pools_in ds c)) (component_of ds x.1) []

-- All pools, by instance and then in order of declaration. Each is named by its number in this list.
abbrev pub pools : List Declaration → List Instance → List (ℕ × Declaration)
pools ds instances = flat_map (pools_at ds) (enumerate_from 0 instances)

-- the number of a declared pool in an instance
abbrev pub pool_number : List Declaration → List Instance → ℕ → Declaration → Option ℕ
pool_number ds instances n pool = position (λ (x : ℕ × Declaration). nat_eq x.0 n && same_place x.1.name.place pool.name.place) (pools ds instances)
