-- Facts about the models of further small sources.
use Rattle.std.proofs.Common.{◌≡◌, refl}
use Rattle.std.specs.Prelude.{[], ◌∷◌, map, pos}
use Rattle.pst_type_rules.specs.Domains.{span}
use Rattle.pst_ast.specs.Lookups.{look_up, declared_at, base_of, member_of, item_at, value_named, type_of, traversed, stands_for}
use Rattle.pst_ast.specs.Paths.{read_path}
use Rattle.pst_type_rules.specs.Sites.{action_at, function_at, field_at}
use Rattle.pst_tree.specs.Bases.{with_bases}
use Rattle.pst_terms.specs.Sources.{item_value}
use Rattle.pst_terms.specs.Readings.{reading_of}
use Rattle.pst_elab_rules.specs.Model.{model_by, sources}
use Rattle.pst_elab_rules.specs.TriedRows.{constant, sixteen, root_alone}
use Rattle.pst_elab_rules.specs.TriedStatements.{state, state_names, of_state, joins, join_names, of_joins, with_body, body_names, with_body_constants, of_body, with_sets, set_names, with_sets_constants, of_sets}

pub states : model_by (sources state state_names (constant 1 23 2 ∷ [])) ((span (pos 0) (pos 3) ∷ []) ∷ []) root_alone ≡ of_state
unfolding look_up declared_at base_of member_of item_at value_named type_of traversed stands_for read_path action_at function_at field_at with_bases item_value reading_of
states = refl

pub handles_and_joins : model_by (sources joins join_names (constant 8 20 1 ∷ [])) [] root_alone ≡ of_joins
unfolding look_up declared_at base_of member_of item_at value_named type_of traversed stands_for read_path action_at function_at field_at with_bases item_value reading_of
handles_and_joins = refl

pub bodies : model_by (sources with_body body_names with_body_constants) (sixteen ∷ []) root_alone ≡ of_body
unfolding look_up declared_at base_of member_of item_at value_named type_of traversed stands_for read_path action_at function_at field_at with_bases item_value reading_of
bodies = refl

pub sets : map (λ a. a.constraints) (model_by (sources with_sets set_names with_sets_constants) (sixteen ∷ sixteen ∷ sixteen ∷ []) root_alone).actions ≡ of_sets ∷ []
unfolding look_up declared_at base_of member_of item_at value_named type_of traversed stands_for read_path action_at function_at field_at with_bases item_value reading_of
sets = refl
