-- Facts about the models of small sources.
use Rattle.std.proofs.Common.{◌≡◌, refl, arith}
use Rattle.std.specs.Prelude.{[], ◌∷◌, Some, codes}
use Rattle.pst_ast.specs.Lookups.{look_up, declared_at, base_of, member_of, item_at, value_named, type_of, traversed, stands_for}
use Rattle.pst_ast.specs.Paths.{read_path}
use Rattle.pst_type_rules.specs.Sites.{action_at, function_at, field_at}
use Rattle.pst_tree.proofs.Found.{instances_found}
use Rattle.pst_tree.specs.Bases.{with_bases}
use Rattle.pst_terms.specs.Sources.{item_value}
use Rattle.pst_terms.specs.Readings.{reading_of}
use Rattle.pst_elab_rules.specs.Spans.{NoDomain}
use Rattle.pst_elab_rules.specs.Model.{IsModel, model_by, sources}
use Rattle.pst_elab_rules.specs.Ends.{RootBreach, NoRoot, root_number, root_place}
use Rattle.pst_elab_rules.specs.TriedRows.{names, sixteen, root_alone, empty_activity, of_empty_activity, choice, choice_constants, of_choice, inline, inline_constants, of_inline, array, array_constants, of_array}

pub empty : IsModel empty_activity names of_empty_activity
unfolding look_up declared_at base_of member_of item_at value_named type_of traversed stands_for read_path action_at function_at field_at with_bases item_value reading_of
empty = record {
  constants = [];
  are_constants = record { order = tt; each = λ c. ((λ has. absurd (omega (arith, has.1))), (λ is. absurd (omega (arith, is.among.1)))) };
  domains = [];
  are_domains = NoDomain;
  instances = root_alone;
  are_instances = instances_found 2 _ _ _ refl;
  is = refl;
}

pub choosing : model_by (sources choice names choice_constants) (sixteen ∷ []) root_alone ≡ of_choice
unfolding look_up declared_at base_of member_of item_at value_named type_of traversed stands_for read_path action_at function_at field_at with_bases item_value reading_of
choosing = refl

pub inline_constraints : model_by (sources inline names inline_constants) (sixteen ∷ sixteen ∷ []) root_alone ≡ of_inline
unfolding look_up declared_at base_of member_of item_at value_named type_of traversed stands_for read_path action_at function_at field_at with_bases item_value reading_of
inline_constraints = refl

pub elements_of_array : model_by (sources array names array_constants) (sixteen ∷ []) root_alone ≡ of_array
unfolding look_up declared_at base_of member_of item_at value_named type_of traversed stands_for read_path action_at function_at field_at with_bases item_value reading_of
elements_of_array = refl

pub root : root_number empty_activity names root_alone (codes "pss_top") (codes "entry") ≡ Some 2
unfolding look_up declared_at action_at
root = refl

pub no_root : RootBreach empty_activity names root_alone (codes "pss_top") (codes "none") root_place 24
unfolding look_up declared_at action_at
no_root = NoRoot refl
