-- The references and claims that pools serve.
use Rattle.std.specs.Prelude.{ℕ, Bool, false, not, ◌&&◌, List, map, Option, Some}
use Rattle.std.specs.List.{filter, flat_map, filter_map, enumerate_from}
use Rattle.std.specs.Option.{option_map, option_map_or}
use Rattle.pst_base.specs.declared.position.Place.{Place}
use Rattle.pst_ast.specs.declared.instance.Instance.{Instance}
use Rattle.pst_ast.specs.DeclarationTree.{UnitTree}
use Rattle.pst_ast.specs.declared.scope_declaration.Declaration.{Declaration}
use Rattle.pst_ast.specs.Declarations.{declarations}
use Rattle.pst_ast.specs.Sorts.{is_action, same_place}
use Rattle.pst_type_rules.specs.Members.{those_that}
use Rattle.pst_type_rules.specs.Sites.{action_at}
use Rattle.pst_tree.specs.Bases.{needs_of}
use Rattle.pst_tree.specs.Contents.{is_compound}
use Rattle.pst_bind.specs.declared.pool_map.Served.{Served}
use Rattle.pst_bound_pools.specs.Pools.{component_of}
use Rattle.pst_bound_pools.specs.Serving.{candidates, serving_pool}

-- A reference or claim of an action type in an instance of its component, with the numbers of the type, the instance and the reference.
pub record Need : Type 0 where
  pub number : ℕ
  pub action : Declaration
  pub instance : ℕ
  pub reference : ℕ
  pub need : Declaration

-- an action type that is atomic and not abstract
abbrev pub is_concrete : List UnitTree → Declaration → Bool
is_concrete units d = option_map_or (λ a. not a.is_abstract) (action_at units d.name.place) false

abbrev pub is_performed : List UnitTree → Declaration → Bool
is_performed units d = is_concrete units d && not (is_compound units d)

-- the action types with their numbers
abbrev pub numbered_actions : List Declaration → List (ℕ × Declaration)
numbered_actions ds = enumerate_from 0 (those_that is_action ds)

abbrev pub is_there : Option Place → Option Declaration → Bool
is_there (Some place) (Some component) = same_place component.name.place place
is_there _ _ = false

-- the instance is one of the action type's component
abbrev pub is_home : List Declaration → Declaration → Instance → Bool
is_home ds action i = is_there action.inside (component_of ds i)

-- the instances of an action type's component
abbrev pub homes_of : List Declaration → List Instance → Declaration → List ℕ
homes_of ds instances action = map (λ (x : ℕ × Instance). x.0) (filter (λ (x : ℕ × Instance). is_home ds action x.1) (enumerate_from 0 instances))

abbrev pub needs_in : List Declaration → ℕ × Declaration → ℕ → List Need
needs_in ds x instance = map (λ (y : ℕ × Declaration). record { number = x.0; action = x.1; instance = instance; reference = y.0; need = y.1 }) (enumerate_from 0 (needs_of ds x.1))

-- All of them, by action, instance and reference.
abbrev pub needs : List UnitTree → List Instance → List Need
needs units instances =
    let ds = declarations units in
    flat_map (λ (x : ℕ × Declaration). flat_map (needs_in ds x) (homes_of ds instances x.1)) (filter (λ (x : ℕ × Declaration). is_performed units x.1) (numbered_actions ds))

abbrev pub candidates_for : List UnitTree → List Instance → Need → List ℕ
candidates_for units instances n = candidates units instances n.action n.need n.instance

-- ---- what serves them

abbrev pub served_by : Need → ℕ → Served
served_by n pool = record { action = n.number; instance = n.instance; reference = n.reference; pool = pool }

abbrev pub serving : List UnitTree → List Instance → Need → Option Served
serving units instances n = option_map (served_by n) (serving_pool units instances n.action n.need n.instance)

abbrev pub served : List UnitTree → List Instance → List Served
served units instances = filter_map (serving units instances) (needs units instances)
