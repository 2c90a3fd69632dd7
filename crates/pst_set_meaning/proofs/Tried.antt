-- The models of small sources, in which parts stand in an order.
use Rattle.std.proofs.Common.{◌≡◌, refl}
use Rattle.std.specs.Prelude.{[], ◌∷◌, map}
use Rattle.pst_ast.specs.Lookups.{look_up, declared_at, base_of, member_of, item_at, value_named, type_of, traversed, stands_for}
use Rattle.pst_ast.specs.Paths.{read_path}
use Rattle.pst_type_rules.specs.Sites.{action_at, function_at, field_at}
use Rattle.pst_tree.specs.Bases.{with_bases}
use Rattle.pst_terms.specs.Sources.{item_value}
use Rattle.pst_terms.specs.Readings.{reading_of}
use Rattle.pst_elab_rules.specs.Model.{model_by, sources}
use Rattle.pst_elab_rules.specs.TriedRows.{constant, root_alone, sixteen}
use Rattle.pst_set_meaning.specs.Tried.{names, ordered, of_ordered, bound, bound_names, contents_of_bound}

pub parts : model_by (sources ordered names (constant 2 22 4 ∷ [])) (sixteen ∷ []) root_alone ≡ of_ordered
unfolding look_up declared_at base_of member_of item_at value_named type_of traversed stands_for read_path action_at function_at field_at with_bases item_value reading_of
parts = refl

pub ends : map (λ a. a.content) (model_by (sources bound bound_names []) [] root_alone).actions ≡ contents_of_bound
unfolding look_up declared_at base_of member_of item_at value_named type_of traversed stands_for read_path action_at function_at field_at with_bases item_value reading_of
ends = refl
