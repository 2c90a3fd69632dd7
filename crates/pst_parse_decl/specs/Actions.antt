-- Actions, parsed from left to right, with parsers of their activities and bodies.
use Rattle.pst_ast.specs.ActivityTree.{ActivityTree}
use Rattle.pst_ast.specs.BodyTree.{BodyTree}
use Rattle.pst_ast.specs.DeclarationTree.{ActionPartTree, ActionTree, ActionPartField, ActionPartReference, ActionPartClaim, ActionPartMembers, ActionPartConstraint, ActionPartActivity, ActionPartBody, ActionPartEmpty, MakeAction}
use Rattle.pst_ast.specs.Limits.{counted}
use Rattle.pst_ast.specs.declared.declaration.BaseNode.{BaseNode}
use Rattle.pst_parse_part.specs.Choices.{if_next}
use Rattle.pst_parse_member.specs.Members.{reference_by, members_by, claim_by, field_by}
use Rattle.pst_parse_decl.specs.Objects.{constraint_declaration_by}
use Rattle.pst_parse_part.specs.Names.{type_name_by}
use Rattle.pst_parse_expr.specs.Constraints.{Within, is_at, is_other}
use Rattle.pst_reading.specs.Lists.{list_by}
use Rattle.pst_reading.specs.Options.{option_by}
use Rattle.pst_reading.specs.Parser.{Done, followed_by, ◌>>=◌, mark_by, name_by, if_mark, next}
use Rattle.pst_token.specs.declared.kind.Kind.TheVariants as kind
use Rattle.pst_token.specs.declared.token.Token.{Token}
use Rattle.std.specs.Prelude.{ℕ, suc, ◌||◌, Bool, Option}

-- ":" tname
abbrev pub base_by : Within BaseNode
base_by depth = do
  colon ← mark_by kind.Colon (counted depth 0)
  name ← type_name_by depth
  Done (record { colon = colon; name = name })

abbrev pub begins_reference : Option Token → Bool
begins_reference next = is_at kind.Input next || is_at kind.Output next

abbrev pub begins_claim : Option Token → Bool
begins_claim next = is_at kind.Lock next || is_at kind.Share next

abbrev pub empty_action_part_by : Within ActionPartTree
empty_action_part_by depth = followed_by (mark_by kind.Semicolon (counted depth 0)) (λ place. Done (ActionPartEmpty place))

-- one part of action between its braces
abbrev pub action_part_by : (ℕ → Within ActivityTree) → (ℕ → Within BodyTree) → ℕ → Within ActionPartTree
action_part_by activity body size depth = if_mark kind.Rand (followed_by (field_by size depth) (λ field. Done (ActionPartField field))) (
    if_next begins_reference (followed_by (reference_by size depth) (λ reference. Done (ActionPartReference reference))) (
    if_next begins_claim (followed_by (claim_by size depth) (λ claim. Done (ActionPartClaim claim))) (
    if_mark kind.Constraint (followed_by (constraint_declaration_by size depth) (λ declaration. Done (ActionPartConstraint declaration))) (
    if_mark kind.Activity (followed_by (activity size depth) (λ tree. Done (ActionPartActivity tree))) (
    if_mark kind.Exec (followed_by (body size depth) (λ tree. Done (ActionPartBody tree))) (
    if_mark kind.Semicolon (empty_action_part_by depth)
    (followed_by (members_by size depth) (λ members. Done (ActionPartMembers members)))))))))

-- action = ["abstract"] "action" NAME [ ":" tname ] "{" { field | ref | claim | members | constraint | activity | body | ";" } "}"
abbrev pub action_by : (ℕ → Within ActivityTree) → (ℕ → Within BodyTree) → ℕ → Within ActionTree
action_by activity body size depth = do
  abstract_place ← option_by (is_at kind.Abstract) (mark_by kind.Abstract (counted (suc depth) 0))
  action ← mark_by kind.Action (counted (suc depth) 0)
  name ← name_by (counted (suc depth) 0)
  base ← option_by (is_at kind.Colon) (base_by (suc depth))
  left_brace ← mark_by kind.LeftBrace (counted (suc depth) 0)
  parts ← list_by (is_other kind.RightBrace) (action_part_by activity body size (suc depth)) size
  right_brace ← mark_by kind.RightBrace (counted (suc depth) 0)
  Done (MakeAction abstract_place action name base left_brace parts right_brace)
