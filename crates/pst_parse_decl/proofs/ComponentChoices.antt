-- Which rule a part of a component is read by: the next token decides.
use Rattle.std.proofs.Common.{◌≡◌, ℕ, Bool, true, false, List, Option, drop}
use Rattle.pst_token.specs.declared.kind.Kind.{Kind}
use Rattle.pst_token.specs.declared.kind.Kind.TheVariants as kind
use Rattle.pst_token.specs.declared.token.Token.{Token}
use Rattle.pst_reading.specs.Gives.{Family}
use Rattle.pst_reading.specs.Kinds.{is_mark, next_is}
use Rattle.pst_reading.specs.Parser.{Done, followed_by, if_mark, next}
use Rattle.pst_reading.proofs.Reaching.{Reaches, begin, choose}
use Rattle.pst_parse_part.specs.Choices.{if_next}
use Rattle.pst_parse_part.proofs.Maybe.{choose_next}
use Rattle.pst_parse_member.specs.Families.{members_family, enum_family, function_family, pool_bind_family, pool_family}
use Rattle.pst_parse_decl.specs.Components.{begins_action, begins_object, empty_component_part_by}
use Rattle.pst_parse_decl.specs.Families.{component_part_family, action_family, object_family}
use Rattle.pst_parse_decl.specs.Inner.{activity_parser, body_parser}
use Rattle.pst_ast.specs.DeclarationTree.{ComponentPartTree, ComponentPartAction, ComponentPartObject, ComponentPartEnum, ComponentPartFunction, ComponentPartPool, ComponentPartPoolBind, ComponentPartMembers}

-- what is left of the choice where it begins with a test
abbrev from_empty : ℕ → Family ComponentPartTree
from_empty d m n = if_mark kind.Semicolon (empty_component_part_by d) (followed_by (members_family d m n) (λ x. Done (ComponentPartMembers x)))

abbrev from_bind : ℕ → Family ComponentPartTree
from_bind d m n = if_mark kind.Bind (followed_by (pool_bind_family d m n) (λ x. Done (ComponentPartPoolBind x))) (from_empty d m n)

abbrev from_pool : ℕ → Family ComponentPartTree
from_pool d m n = if_mark kind.Pool (followed_by (pool_family d m n) (λ x. Done (ComponentPartPool x))) (from_bind d m n)

abbrev from_function : ℕ → Family ComponentPartTree
from_function d m n = if_mark kind.Import (followed_by (function_family d m n) (λ x. Done (ComponentPartFunction x))) (from_pool d m n)

abbrev from_enum : ℕ → Family ComponentPartTree
from_enum d m n = if_mark kind.Enum (followed_by (enum_family d m n) (λ x. Done (ComponentPartEnum x))) (from_function d m n)

abbrev from_object : ℕ → Family ComponentPartTree
from_object d m n = if_next begins_object (followed_by (object_family d m n) (λ x. Done (ComponentPartObject x))) (from_enum d m n)

module _ (tokens : List Token) (at d : ℕ) where
  -- what the next token is, or is not
  abbrev Here : (Option Token → Bool) → Type 0
  Here test = test (next (drop at tokens)) ≡ true

  abbrev Absent : (Option Token → Bool) → Type 0
  Absent test = test (next (drop at tokens)) ≡ false

  -- what is left of the choice at its place
  abbrev Left : Family ComponentPartTree → Type 0
  Left rest = Reaches (component_part_family activity_parser body_parser d) tokens at at rest at

  pub action_here : Here begins_action → Left (λ m n. followed_by (action_family activity_parser body_parser d m n) (λ x. Done (ComponentPartAction x)))
  action_here e = choose_next (component_part_family activity_parser body_parser d) tokens at at begins_action (λ m n. followed_by (action_family activity_parser body_parser d m n) (λ x. Done (ComponentPartAction x))) (from_object d) at true e (begin (component_part_family activity_parser body_parser d) tokens at at)

  module _ (no_action : Absent begins_action) where
    behind_action : Left (from_object d)
    behind_action = choose_next (component_part_family activity_parser body_parser d) tokens at at begins_action (λ m n. followed_by (action_family activity_parser body_parser d m n) (λ x. Done (ComponentPartAction x))) (from_object d) at false no_action (begin (component_part_family activity_parser body_parser d) tokens at at)

    pub object_here : Here begins_object → Left (λ m n. followed_by (object_family d m n) (λ x. Done (ComponentPartObject x)))
    object_here e = choose_next (component_part_family activity_parser body_parser d) tokens at at begins_object (λ m n. followed_by (object_family d m n) (λ x. Done (ComponentPartObject x))) (from_enum d) at true e behind_action

    module _ (no_object : Absent begins_object) where
      behind_object : Left (from_enum d)
      behind_object = choose_next (component_part_family activity_parser body_parser d) tokens at at begins_object (λ m n. followed_by (object_family d m n) (λ x. Done (ComponentPartObject x))) (from_enum d) at false no_object behind_action

      pub enum_here : Here (next_is (is_mark kind.Enum)) → Left (λ m n. followed_by (enum_family d m n) (λ x. Done (ComponentPartEnum x)))
      enum_here e = choose (component_part_family activity_parser body_parser d) tokens at at kind.Enum (λ m n. followed_by (enum_family d m n) (λ x. Done (ComponentPartEnum x))) (from_function d) at true e behind_object

      module _ (no_enum : Absent (next_is (is_mark kind.Enum))) where
        behind_enum : Left (from_function d)
        behind_enum = choose (component_part_family activity_parser body_parser d) tokens at at kind.Enum (λ m n. followed_by (enum_family d m n) (λ x. Done (ComponentPartEnum x))) (from_function d) at false no_enum behind_object

        pub function_here : Here (next_is (is_mark kind.Import)) → Left (λ m n. followed_by (function_family d m n) (λ x. Done (ComponentPartFunction x)))
        function_here e = choose (component_part_family activity_parser body_parser d) tokens at at kind.Import (λ m n. followed_by (function_family d m n) (λ x. Done (ComponentPartFunction x))) (from_pool d) at true e behind_enum

        module _ (no_function : Absent (next_is (is_mark kind.Import))) where
          behind_function : Left (from_pool d)
          behind_function = choose (component_part_family activity_parser body_parser d) tokens at at kind.Import (λ m n. followed_by (function_family d m n) (λ x. Done (ComponentPartFunction x))) (from_pool d) at false no_function behind_enum

          pub pool_here : Here (next_is (is_mark kind.Pool)) → Left (λ m n. followed_by (pool_family d m n) (λ x. Done (ComponentPartPool x)))
          pool_here e = choose (component_part_family activity_parser body_parser d) tokens at at kind.Pool (λ m n. followed_by (pool_family d m n) (λ x. Done (ComponentPartPool x))) (from_bind d) at true e behind_function

          module _ (no_pool : Absent (next_is (is_mark kind.Pool))) where
            behind_pool : Left (from_bind d)
            behind_pool = choose (component_part_family activity_parser body_parser d) tokens at at kind.Pool (λ m n. followed_by (pool_family d m n) (λ x. Done (ComponentPartPool x))) (from_bind d) at false no_pool behind_function

            pub bind_here : Here (next_is (is_mark kind.Bind)) → Left (λ m n. followed_by (pool_bind_family d m n) (λ x. Done (ComponentPartPoolBind x)))
            bind_here e = choose (component_part_family activity_parser body_parser d) tokens at at kind.Bind (λ m n. followed_by (pool_bind_family d m n) (λ x. Done (ComponentPartPoolBind x))) (from_empty d) at true e behind_pool

            module _ (no_bind : Absent (next_is (is_mark kind.Bind))) where
              behind_bind : Left (from_empty d)
              behind_bind = choose (component_part_family activity_parser body_parser d) tokens at at kind.Bind (λ m n. followed_by (pool_bind_family d m n) (λ x. Done (ComponentPartPoolBind x))) (from_empty d) at false no_bind behind_pool

              pub members_here : Absent (next_is (is_mark kind.Semicolon)) → Left (λ m n. followed_by (members_family d m n) (λ x. Done (ComponentPartMembers x)))
              members_here e = choose (component_part_family activity_parser body_parser d) tokens at at kind.Semicolon (λ m n. (empty_component_part_by d)) (λ m n. followed_by (members_family d m n) (λ x. Done (ComponentPartMembers x))) at false e behind_bind
