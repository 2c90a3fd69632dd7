-- The constraints among the parts of a type.
use Rattle.std.specs.Prelude.{List, [], map}
use Rattle.std.specs.List.{flat_map, filter_map}
use Rattle.std.specs.Option.{option_map_or}
use Rattle.pst_ast.specs.DeclarationTree.{ActionPartTree, ObjectPartTree}
use Rattle.pst_model.specs.ConstraintTree.{ConstraintTree}
use Rattle.pst_elab_rules.specs.Constraints.{declaration_terms}
use Rattle.pst_elab_rules.specs.Types.{constraint_in, object_constraint_in}
use Rattle.pst_terms.specs.Readings.{Setting}
use Rattle.pst_terms.specs.Slots.{constraint_of}
use Rattle.pst_terms.specs.Sources.{Sources}

abbrev pub action_parts : Sources → Setting → List ActionPartTree → List ConstraintTree
action_parts s setting parts = map constraint_of (flat_map (declaration_terms s setting) (filter_map constraint_in parts))

abbrev pub object_parts : Sources → Setting → List ObjectPartTree → List ConstraintTree
object_parts s setting parts = map constraint_of (flat_map (declaration_terms s setting) (filter_map object_constraint_in parts))

-- those of one part
abbrev pub action_part : Sources → Setting → ActionPartTree → List ConstraintTree
action_part s setting part = option_map_or (λ c. map constraint_of (declaration_terms s setting c)) (constraint_in part) []

abbrev pub object_part : Sources → Setting → ObjectPartTree → List ConstraintTree
object_part s setting part = option_map_or (λ c. map constraint_of (declaration_terms s setting c)) (object_constraint_in part) []
