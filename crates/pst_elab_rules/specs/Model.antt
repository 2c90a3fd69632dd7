-- The model of the sources.
use Rattle.std.specs.Prelude.{◌≡◌, ℕ, List, [], ◌∷◌, map, Option}
use Rattle.std.specs.List.{find, flat_map}
use Rattle.std.specs.Option.{option_map_or, option_and_then}
use Rattle.pst_base.specs.declared.position.Place.{Place}
use Rattle.pst_ast.specs.declared.leaf.Name.{Name}
use Rattle.pst_ast.specs.declared.instance.Instance.{Instance}
use Rattle.pst_ast.specs.DeclarationTree.{UnitTree, ItemTree, ItemComponent, MakeComponent, ComponentPartTree, ComponentPartPool, MakePool, SizeTree, MakeSize}
use Rattle.pst_expr.specs.declared.ranges.Span.{Span}
use Rattle.pst_model.specs.declared.model.Pool.{Pool}
use Rattle.pst_model.specs.declared.model.Serve.{Serve}
use Rattle.pst_model.specs.ModelTree.{ModelTree}
use Rattle.pst_ast.specs.declared.scope_declaration.Declaration.{Declaration}
use Rattle.pst_ast.specs.Sorts.{same_place}
use Rattle.pst_type_rules.specs.declared.typed.ConstantValue.{ConstantValue}
use Rattle.pst_type_rules.specs.Sites.{items_of, fields}
use Rattle.pst_type_rules.specs.Typed.{AreConstants}
use Rattle.pst_tree.specs.Instances.{AreInstances, parts_of}
use Rattle.pst_bind.specs.declared.pool_map.Served.{Served}
use Rattle.pst_bind.specs.Pools.{pools}
use Rattle.pst_bind.specs.Needs.{served}
use Rattle.pst_terms.specs.Sources.{Sources, declared_in, amount_of}
use Rattle.pst_elab_rules.specs.Spans.{AreDomains}
use Rattle.pst_elab_rules.specs.Types.{object_of, model_actions, model_objects, model_functions}

-- ---- pools

-- a pool with its size, where it has one
pub record DeclaredPool : Type 0 where
  pub name : Name
  pub size : Option SizeTree

abbrev pub pools_in_part : ComponentPartTree → List DeclaredPool
pools_in_part (ComponentPartPool (MakePool word size object name semicolon)) = record { name = name; size = size } ∷ []
pools_in_part _ = []

abbrev pub pools_in_item : ItemTree → List DeclaredPool
pools_in_item (ItemComponent (MakeComponent word name left parts right)) = flat_map pools_in_part parts
pools_in_item _ = []

-- the pool whose name stands at a place
abbrev pub pool_at : List UnitTree → Place → Option DeclaredPool
pool_at units place = find (λ p. same_place p.name.place place) (flat_map pools_in_item (flat_map items_of units))

abbrev pub amount_in : Sources → SizeTree → ℕ
amount_in s (MakeSize left expr right) = amount_of s expr

-- a pool without a size has size 1
abbrev pub size_of_pool : Sources → Declaration → ℕ
size_of_pool s d = option_map_or (amount_in s) (option_and_then (λ p. p.size) (pool_at s.units d.name.place)) 1

abbrev pub model_pool : Sources → ℕ × Declaration → Pool
model_pool s x = record { name = x.1.name.id; instance = x.0; object = object_of (declared_in s) x.1; size = size_of_pool s x.1 }

abbrev pub serve_of : Served → Serve
serve_of x = record { action = x.action; instance = x.instance; reference = x.reference; pool = x.pool }

-- ---- the model

-- the model of the sources, by the values of their constants, the domains of their fields and their instances
abbrev pub model_by : Sources → List (List Span) → List Instance → ModelTree
model_by s domains instances = record {
  actions = model_actions s domains;
  objects = model_objects s domains;
  instances = parts_of instances;
  pools = map (model_pool s) (pools (declared_in s) instances);
  functions = model_functions s;
  served = map serve_of (served s.units instances);
}

abbrev pub sources : List UnitTree → List (List ℕ) → List ConstantValue → Sources
sources units names constants = record { units = units; names = names; constants = constants }

-- The model of the sources.
pub record IsModel (units : List UnitTree) (names : List (List ℕ)) (model : ModelTree) : Type 0 where
  pub constants : List ConstantValue
  pub are_constants : AreConstants units names constants
  pub domains : List (List Span)
  pub are_domains : AreDomains units names (fields units) domains
  pub instances : List Instance
  pub are_instances : AreInstances units names instances
  pub is : model ≡ model_by (sources units names constants) domains instances
