-- Which rule a part of an action is read by: the next token decides.
use Rattle.std.proofs.Common.{◌≡◌, ℕ, Bool, true, false, List, Option, drop}
use Rattle.pst_token.specs.declared.kind.Kind.{Kind}
use Rattle.pst_token.specs.declared.kind.Kind.TheVariants as kind
use Rattle.pst_token.specs.declared.token.Token.{Token}
use Rattle.pst_reading.specs.Gives.{Family}
use Rattle.pst_reading.specs.Kinds.{is_mark, next_is}
use Rattle.pst_reading.specs.Parser.{Done, followed_by, if_mark, next}
use Rattle.pst_reading.proofs.Reaching.{Reaches, begin, choose}
use Rattle.pst_parse_part.specs.Choices.{if_next}
use Rattle.pst_parse_part.proofs.Maybe.{choose_next}
use Rattle.pst_parse_member.specs.Families.{members_family, claim_family, field_family, reference_family}
use Rattle.pst_parse_decl.specs.Actions.{begins_reference, begins_claim, empty_action_part_by}
use Rattle.pst_parse_decl.specs.Families.{constraint_declaration_family, action_part_family}
use Rattle.pst_parse_decl.specs.Inner.{activity_parser, body_parser, activity_parser_family, body_parser_family}
use Rattle.pst_ast.specs.DeclarationTree.{ActionPartTree, ActionPartField, ActionPartReference, ActionPartClaim, ActionPartConstraint, ActionPartActivity, ActionPartBody, ActionPartMembers}

-- what is left of the choice where it begins with a test
abbrev from_empty : ℕ → Family ActionPartTree
from_empty d m n = if_mark kind.Semicolon (empty_action_part_by d) (followed_by (members_family d m n) (λ x. Done (ActionPartMembers x)))

abbrev from_body : ℕ → Family ActionPartTree
from_body d m n = if_mark kind.Exec (followed_by (body_parser_family d m n) (λ x. Done (ActionPartBody x))) (from_empty d m n)

abbrev from_activity : ℕ → Family ActionPartTree
from_activity d m n = if_mark kind.Activity (followed_by (activity_parser_family d m n) (λ x. Done (ActionPartActivity x))) (from_body d m n)

abbrev from_constraint : ℕ → Family ActionPartTree
from_constraint d m n = if_mark kind.Constraint (followed_by (constraint_declaration_family d m n) (λ x. Done (ActionPartConstraint x))) (from_activity d m n)

abbrev from_claim : ℕ → Family ActionPartTree
from_claim d m n = if_next begins_claim (followed_by (claim_family d m n) (λ x. Done (ActionPartClaim x))) (from_constraint d m n)

abbrev from_reference : ℕ → Family ActionPartTree
from_reference d m n = if_next begins_reference (followed_by (reference_family d m n) (λ x. Done (ActionPartReference x))) (from_claim d m n)

module _ (tokens : List Token) (at d : ℕ) where
  -- what the next token is, or is not
  abbrev Here : (Option Token → Bool) → Type 0
  Here test = test (next (drop at tokens)) ≡ true

  abbrev Absent : (Option Token → Bool) → Type 0
  Absent test = test (next (drop at tokens)) ≡ false

  -- what is left of the choice at its place
  abbrev Left : Family ActionPartTree → Type 0
  Left rest = Reaches (action_part_family activity_parser body_parser d) tokens at at rest at

  pub field_here : Here (next_is (is_mark kind.Rand)) → Left (λ m n. followed_by (field_family d m n) (λ x. Done (ActionPartField x)))
  field_here e = choose (action_part_family activity_parser body_parser d) tokens at at kind.Rand (λ m n. followed_by (field_family d m n) (λ x. Done (ActionPartField x))) (from_reference d) at true e (begin (action_part_family activity_parser body_parser d) tokens at at)

  module _ (no_field : Absent (next_is (is_mark kind.Rand))) where
    behind_field : Left (from_reference d)
    behind_field = choose (action_part_family activity_parser body_parser d) tokens at at kind.Rand (λ m n. followed_by (field_family d m n) (λ x. Done (ActionPartField x))) (from_reference d) at false no_field (begin (action_part_family activity_parser body_parser d) tokens at at)

    pub reference_here : Here begins_reference → Left (λ m n. followed_by (reference_family d m n) (λ x. Done (ActionPartReference x)))
    reference_here e = choose_next (action_part_family activity_parser body_parser d) tokens at at begins_reference (λ m n. followed_by (reference_family d m n) (λ x. Done (ActionPartReference x))) (from_claim d) at true e behind_field

    module _ (no_reference : Absent begins_reference) where
      behind_reference : Left (from_claim d)
      behind_reference = choose_next (action_part_family activity_parser body_parser d) tokens at at begins_reference (λ m n. followed_by (reference_family d m n) (λ x. Done (ActionPartReference x))) (from_claim d) at false no_reference behind_field

      pub claim_here : Here begins_claim → Left (λ m n. followed_by (claim_family d m n) (λ x. Done (ActionPartClaim x)))
      claim_here e = choose_next (action_part_family activity_parser body_parser d) tokens at at begins_claim (λ m n. followed_by (claim_family d m n) (λ x. Done (ActionPartClaim x))) (from_constraint d) at true e behind_reference

      module _ (no_claim : Absent begins_claim) where
        behind_claim : Left (from_constraint d)
        behind_claim = choose_next (action_part_family activity_parser body_parser d) tokens at at begins_claim (λ m n. followed_by (claim_family d m n) (λ x. Done (ActionPartClaim x))) (from_constraint d) at false no_claim behind_reference

        pub constraint_here : Here (next_is (is_mark kind.Constraint)) → Left (λ m n. followed_by (constraint_declaration_family d m n) (λ x. Done (ActionPartConstraint x)))
        constraint_here e = choose (action_part_family activity_parser body_parser d) tokens at at kind.Constraint (λ m n. followed_by (constraint_declaration_family d m n) (λ x. Done (ActionPartConstraint x))) (from_activity d) at true e behind_claim

        module _ (no_constraint : Absent (next_is (is_mark kind.Constraint))) where
          behind_constraint : Left (from_activity d)
          behind_constraint = choose (action_part_family activity_parser body_parser d) tokens at at kind.Constraint (λ m n. followed_by (constraint_declaration_family d m n) (λ x. Done (ActionPartConstraint x))) (from_activity d) at false no_constraint behind_claim

          pub activity_here : Here (next_is (is_mark kind.Activity)) → Left (λ m n. followed_by (activity_parser_family d m n) (λ x. Done (ActionPartActivity x)))
          activity_here e = choose (action_part_family activity_parser body_parser d) tokens at at kind.Activity (λ m n. followed_by (activity_parser_family d m n) (λ x. Done (ActionPartActivity x))) (from_body d) at true e behind_constraint

          module _ (no_activity : Absent (next_is (is_mark kind.Activity))) where
            behind_activity : Left (from_body d)
            behind_activity = choose (action_part_family activity_parser body_parser d) tokens at at kind.Activity (λ m n. followed_by (activity_parser_family d m n) (λ x. Done (ActionPartActivity x))) (from_body d) at false no_activity behind_constraint

            pub body_here : Here (next_is (is_mark kind.Exec)) → Left (λ m n. followed_by (body_parser_family d m n) (λ x. Done (ActionPartBody x)))
            body_here e = choose (action_part_family activity_parser body_parser d) tokens at at kind.Exec (λ m n. followed_by (body_parser_family d m n) (λ x. Done (ActionPartBody x))) (from_empty d) at true e behind_activity

            module _ (no_body : Absent (next_is (is_mark kind.Exec))) where
              behind_body : Left (from_empty d)
              behind_body = choose (action_part_family activity_parser body_parser d) tokens at at kind.Exec (λ m n. followed_by (body_parser_family d m n) (λ x. Done (ActionPartBody x))) (from_empty d) at false no_body behind_activity

              pub members_here : Absent (next_is (is_mark kind.Semicolon)) → Left (λ m n. followed_by (members_family d m n) (λ x. Done (ActionPartMembers x)))
              members_here e = choose (action_part_family activity_parser body_parser d) tokens at at kind.Semicolon (λ m n. (empty_action_part_by d)) (λ m n. followed_by (members_family d m n) (λ x. Done (ActionPartMembers x))) at false e behind_body
