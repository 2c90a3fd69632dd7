-- What parts of a unit spell.
use Rattle.pst_ast.specs.Answers.{AnswersItem}
use Rattle.pst_ast.specs.DeclarationProper.{IsProperItem}
use Rattle.pst_ast.specs.DeclarationSpelling.{spell_item}
use Rattle.pst_ast.specs.DeclarationTree.{ItemTree, ItemComponent, ItemObject, ItemEnum, ItemFunction, ItemEmpty}
use Rattle.pst_ast.specs.DeclarationView.{view_item}
use Rattle.pst_ast.specs.Laws.{AtMostOneTree}
use Rattle.pst_ast.specs.Rule.{TheItem}
use Rattle.pst_ast.specs.declared.declaration.Item.{Item}
use Rattle.pst_ast.specs.declared.fault.SyntaxFault.{SyntaxFault}
use Rattle.pst_parse_statement.proofs.ActivityNoEnd.{activity_free}
use Rattle.pst_parse_body.proofs.BodyNoEnd.{body_free}
use Rattle.pst_parse_decl.proofs.Answering.{one_item, item_answers}
use Rattle.pst_parse_decl.proofs.ComponentsAgain.{item_rereads, component_begins, enum_begins, function_begins}
use Rattle.pst_parse_decl.proofs.ComponentsExplain.{item_explains}
use Rattle.pst_parse_decl.proofs.InnerParts.{inner_activity_explains, inner_body_explains, inner_activity_rereads, inner_body_rereads}
use Rattle.pst_parse_decl.proofs.NoEnd.{item_free}
use Rattle.pst_parse_decl.proofs.ObjectsAgain.{object_begins, some_token, IsThere}
use Rattle.pst_parse_decl.proofs.Taken.{taken_item}
use Rattle.pst_parse_decl.specs.Components.{item_by}
use Rattle.pst_parse_decl.specs.Families.{item_family}
use Rattle.pst_parse_decl.specs.Inner.{activity_parser, body_parser}
use Rattle.pst_reading.proofs.Explaining.{Means, Explains}
use Rattle.pst_reading.proofs.Rereading.{Rereads, Anything}
use Rattle.pst_reading.proofs.Whole.{NoEnd}
use Rattle.pst_reading.specs.Ended.{IsEnded}
use Rattle.pst_reading.specs.Reads.{Reads}
use Rattle.pst_token.specs.declared.token.Token.{Token}
use Rattle.std.proofs.Common.{arith, ℕ, ◌<◌, ◌≤◌, List, [], length, Result}

pub one_item_of_all : AtMostOneTree TheItem
one_item_of_all = one_item activity_parser body_parser inner_activity_explains inner_body_explains inner_activity_rereads inner_body_rereads

pub item_is_answered : (tokens : List Token) (start : ℕ) → IsEnded tokens → start < length tokens → (x : Result (Item × ℕ) SyntaxFault) → Reads view_item (item_family activity_parser body_parser 0) tokens start start 1 x → AnswersItem tokens start x
item_is_answered = item_answers activity_parser body_parser inner_activity_explains inner_body_explains inner_activity_rereads inner_body_rereads activity_free body_free

-- for the parsers of units

pub whole_item_explains : (size depth : ℕ) → Explains (Means spell_item IsProperItem (taken_item depth)) (item_by activity_parser body_parser size depth)
whole_item_explains = item_explains activity_parser body_parser inner_activity_explains inner_body_explains

pub whole_item_rereads : (size depth : ℕ) (x : ItemTree) → IsProperItem x → length (spell_item x) ≤ size → Rereads Anything (item_by activity_parser body_parser size depth) (spell_item x) (taken_item depth x) x
whole_item_rereads = item_rereads activity_parser body_parser inner_activity_rereads inner_body_rereads

pub whole_item_free : (x : ItemTree) → NoEnd (spell_item x)
whole_item_free = item_free activity_free body_free

pub some_item_token : (x : ItemTree) → 1 ≤ length (spell_item x)
some_item_token (ItemComponent x) = some_token _ (component_begins IsThere (λ p. tt) x [])
some_item_token (ItemObject x) = some_token _ (object_begins IsThere (λ p. tt) (λ p. tt) (λ p. tt) (λ p. tt) x [])
some_item_token (ItemEnum x) = some_token _ (enum_begins IsThere (λ p. tt) x [])
some_item_token (ItemFunction x) = some_token _ (function_begins IsThere (λ p. tt) x [])
some_item_token (ItemEmpty place) = omega arith
