-- The constraints of the first part and those of the others.
use Rattle.std.proofs.Common.{◌≡◌, ◌++◌, map, List, [], ◌∷◌, Option, refl}
use Rattle.std.specs.Prelude.{Some, None}
use Rattle.std.specs.List.{flat_map, filter_map, cons_option}
use Rattle.std.specs.Option.{option_map_or}
use Rattle.std.proofs.lemmas.List.{map-append}
use Rattle.pst_ast.specs.ConstraintTree.{ConstraintDeclarationTree}
use Rattle.pst_ast.specs.DeclarationTree.{ActionPartTree, ObjectPartTree}
use Rattle.pst_elab_rules.specs.Constraints.{declaration_terms}
use Rattle.pst_elab_rules.specs.Types.{constraint_in, object_constraint_in}
use Rattle.pst_terms.specs.Readings.{Setting}
use Rattle.pst_terms.specs.Slots.{constraint_of}
use Rattle.pst_terms.specs.Sources.{Sources}
use Rattle.pst_model_types.specs.Parts.{action_part, action_parts, object_part, object_parts}

module _ (s : Sources) (setting : Setting) where
  next_by : (o : Option ConstraintDeclarationTree) (more : List ConstraintDeclarationTree)
      → map constraint_of (flat_map (declaration_terms s setting) (cons_option o more))
      ≡ option_map_or (λ c. map constraint_of (declaration_terms s setting c)) o [] ++ map constraint_of (flat_map (declaration_terms s setting) more)
  next_by None more = refl
  next_by (Some c) more = map-append constraint_of (declaration_terms s setting c) (flat_map (declaration_terms s setting) more)

  pub action_next : (part : ActionPartTree) (more : List ActionPartTree) → action_parts s setting (part ∷ more) ≡ action_part s setting part ++ action_parts s setting more
  action_next part more = next_by (constraint_in part) (filter_map constraint_in more)

  pub object_next : (part : ObjectPartTree) (more : List ObjectPartTree) → object_parts s setting (part ∷ more) ≡ object_part s setting part ++ object_parts s setting more
  object_next part more = next_by (object_constraint_in part) (filter_map object_constraint_in more)
