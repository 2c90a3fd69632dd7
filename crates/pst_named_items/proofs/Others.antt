-- What isn't named in an expression is no item.
use Rattle.std.proofs.Common.{◌≡◌, ℕ, refl, List, [], ◌∷◌, ◌++◌, false}
use Rattle.std.specs.Prelude.{map}
use Rattle.std.specs.List.{fold}
use Rattle.pst_base.specs.declared.position.Place.{Place}
use Rattle.pst_base.specs.declared.table.NameId.{NameId}
use Rattle.pst_ast.specs.declared.leaf.Name.{Name}
use Rattle.pst_ast.specs.declared.shared.DotName.{DotName}
use Rattle.pst_ast.specs.SharedTree.{NamesTree, MakeNames}
use Rattle.pst_ast.specs.declared.scope_declaration.Declaration.{Declaration}
use Rattle.pst_ast.specs.Declarations.{names_of}
use Rattle.pst_ast.specs.Uses.{Joins, target_by}
use Rattle.pst_named_items.specs.Named.{Named, named}

joins_stay : (ds : List Declaration) (names : List (List ℕ)) (labels : List NameId) (joined : List Name)
    → fold named (record { ds = ds; names = names; only = false }) (map (Joins labels) joined) ≡ record { ds = ds; names = names; only = false }
joins_stay ds names labels [] = refl
joins_stay ds names labels (name ∷ more) = joins_stay ds names labels more

pub joins_are_none : (so_far : Named) (labels : List NameId) (joined : NamesTree) → fold named so_far (map (Joins labels) (names_of joined)) ≡ record so_far { only = false }
joins_are_none so_far labels (MakeNames first rest) = joins_stay so_far.ds so_far.names labels (map (λ n. n.name) rest)

pub target_is_none : (so_far : Named) (component : Place) (pool : Name) (instances : List Name) (action reference : Name) (more : List DotName)
    → named so_far (target_by component pool instances action reference more) ≡ record so_far { only = false }
target_is_none so_far component pool instances action reference [] = refl
target_is_none so_far component pool instances action reference (d ∷ more) = target_is_none so_far component pool (instances ++ action ∷ []) reference d.name more
