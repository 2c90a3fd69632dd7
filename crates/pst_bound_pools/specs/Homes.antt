-- The components of the instances, each by the place of its name.
use Rattle.std.specs.Prelude.{ℕ, Bool, false, List, Option}
use Rattle.std.specs.Option.{option_map, option_map_or}
use Rattle.pst_base.specs.declared.position.Place.{Place}
use Rattle.pst_ast.specs.declared.instance.Instance.{Instance}
use Rattle.pst_ast.specs.declared.scope_declaration.Declaration.{Declaration}
use Rattle.pst_bound_pools.specs.Pools.{component_of}
use Rattle.pst_bound_pools.specs.Serving.{stands_in}

abbrev pub home_place : List Declaration → Instance → Option Place
home_place ds i = option_map (λ c. c.name.place) (component_of ds i)

-- the instance of a number is one of an action type's component
abbrev pub is_home_at : List Declaration → List Instance → Declaration → ℕ → Bool
is_home_at ds instances action n = option_map_or (λ place. stands_in ds instances place n) action.inside false
