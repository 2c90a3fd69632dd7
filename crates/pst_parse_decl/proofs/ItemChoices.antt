-- Which rule a part of a unit is read by: the next token decides.
use Rattle.std.proofs.Common.{◌≡◌, ℕ, Bool, true, false, List, Option, drop}
use Rattle.pst_token.specs.declared.kind.Kind.{Kind}
use Rattle.pst_token.specs.declared.kind.Kind.TheVariants as kind
use Rattle.pst_token.specs.declared.token.Token.{Token}
use Rattle.pst_reading.specs.Gives.{Family}
use Rattle.pst_reading.specs.Kinds.{is_mark, next_is}
use Rattle.pst_reading.specs.Parser.{Done, followed_by, if_mark, next}
use Rattle.pst_reading.proofs.Reaching.{Reaches, begin, choose}
use Rattle.pst_parse_member.specs.Families.{enum_family, function_family}
use Rattle.pst_parse_decl.specs.Components.{empty_item_by}
use Rattle.pst_parse_decl.specs.Families.{component_family, item_family, object_family}
use Rattle.pst_parse_decl.specs.Inner.{activity_parser, body_parser}
use Rattle.pst_ast.specs.DeclarationTree.{ItemTree, ItemComponent, ItemEnum, ItemFunction, ItemObject}

-- what is left of the choice where it begins with a test
abbrev from_empty : ℕ → Family ItemTree
from_empty d m n = if_mark kind.Semicolon (empty_item_by d) (followed_by (object_family d m n) (λ x. Done (ItemObject x)))

abbrev from_function : ℕ → Family ItemTree
from_function d m n = if_mark kind.Import (followed_by (function_family d m n) (λ x. Done (ItemFunction x))) (from_empty d m n)

abbrev from_enum : ℕ → Family ItemTree
from_enum d m n = if_mark kind.Enum (followed_by (enum_family d m n) (λ x. Done (ItemEnum x))) (from_function d m n)

module _ (tokens : List Token) (at d : ℕ) where
  -- what the next token is, or is not
  abbrev Here : (Option Token → Bool) → Type 0
  Here test = test (next (drop at tokens)) ≡ true

  abbrev Absent : (Option Token → Bool) → Type 0
  Absent test = test (next (drop at tokens)) ≡ false

  -- what is left of the choice at its place
  abbrev Left : Family ItemTree → Type 0
  Left rest = Reaches (item_family activity_parser body_parser d) tokens at at rest at

  pub component_here : Here (next_is (is_mark kind.Component)) → Left (λ m n. followed_by (component_family activity_parser body_parser d m n) (λ x. Done (ItemComponent x)))
  component_here e = choose (item_family activity_parser body_parser d) tokens at at kind.Component (λ m n. followed_by (component_family activity_parser body_parser d m n) (λ x. Done (ItemComponent x))) (from_enum d) at true e (begin (item_family activity_parser body_parser d) tokens at at)

  module _ (no_component : Absent (next_is (is_mark kind.Component))) where
    behind_component : Left (from_enum d)
    behind_component = choose (item_family activity_parser body_parser d) tokens at at kind.Component (λ m n. followed_by (component_family activity_parser body_parser d m n) (λ x. Done (ItemComponent x))) (from_enum d) at false no_component (begin (item_family activity_parser body_parser d) tokens at at)

    pub enum_here : Here (next_is (is_mark kind.Enum)) → Left (λ m n. followed_by (enum_family d m n) (λ x. Done (ItemEnum x)))
    enum_here e = choose (item_family activity_parser body_parser d) tokens at at kind.Enum (λ m n. followed_by (enum_family d m n) (λ x. Done (ItemEnum x))) (from_function d) at true e behind_component

    module _ (no_enum : Absent (next_is (is_mark kind.Enum))) where
      behind_enum : Left (from_function d)
      behind_enum = choose (item_family activity_parser body_parser d) tokens at at kind.Enum (λ m n. followed_by (enum_family d m n) (λ x. Done (ItemEnum x))) (from_function d) at false no_enum behind_component

      pub function_here : Here (next_is (is_mark kind.Import)) → Left (λ m n. followed_by (function_family d m n) (λ x. Done (ItemFunction x)))
      function_here e = choose (item_family activity_parser body_parser d) tokens at at kind.Import (λ m n. followed_by (function_family d m n) (λ x. Done (ItemFunction x))) (from_empty d) at true e behind_enum

      module _ (no_function : Absent (next_is (is_mark kind.Import))) where
        behind_function : Left (from_empty d)
        behind_function = choose (item_family activity_parser body_parser d) tokens at at kind.Import (λ m n. followed_by (function_family d m n) (λ x. Done (ItemFunction x))) (from_empty d) at false no_function behind_enum

        pub object_here : Absent (next_is (is_mark kind.Semicolon)) → Left (λ m n. followed_by (object_family d m n) (λ x. Done (ItemObject x)))
        object_here e = choose (item_family activity_parser body_parser d) tokens at at kind.Semicolon (λ m n. (empty_item_by d)) (λ m n. followed_by (object_family d m n) (λ x. Done (ItemObject x))) at false e behind_function
