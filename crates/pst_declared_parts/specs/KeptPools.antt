-- How the pools of the sources are kept.
use Rattle.std.specs.Prelude.{◌≡◌, map}
use Rattle.std.specs.List.{flat_map}
use Rattle.pst_ast.specs.DeclarationView.{view_pool, view_unit}
use Rattle.pst_type_rules.specs.Sites.{items_of}
use Rattle.pst_elab_rules.specs.Model.{pools_in_item}
use Rattle.pst_declared_parts.specs.Listed.{pool_of_tree}
use Rattle.pst_declared_parts.specs.declared.pools.PoolSites.TheInside.{Inside}

-- the list has those of the sources, and the places are those of their names
pub record ArePools (s : Inside) : Type 0 where
  pub pools_are : map (λ a. pool_of_tree (view_pool a.now)) s.pools.items ≡ flat_map pools_in_item (flat_map items_of (map view_unit s.units.now))
  pub places_are : s.places ≡ map (λ a. a.now.name.place) s.pools.items
