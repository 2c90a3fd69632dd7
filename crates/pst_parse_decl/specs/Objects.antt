-- Constraints that are declared, and objects, parsed from left to right.
use Rattle.pst_ast.specs.ConstraintTree.{ConstraintItemTree, ConstraintContentTree, ConstraintDeclarationTree, ConstraintContentNamed, ConstraintContentSet, MakeConstraintDeclaration}
use Rattle.pst_ast.specs.DeclarationTree.{ObjectPartTree, ObjectTree, ObjectPartField, ObjectPartConstraint, ObjectPartEmpty, MakeObject}
use Rattle.pst_ast.specs.Limits.{counted}
use Rattle.pst_ast.specs.declared.declaration.ObjectWord.TheVariants as the_object_word
use Rattle.pst_ast.specs.declared.declaration.ObjectWord.{ObjectWord}
use Rattle.pst_ast.specs.declared.leaf.Name.{Name}
use Rattle.pst_base.specs.declared.position.Place.{Place}
use Rattle.pst_parse_part.specs.Choices.{if_next}
use Rattle.pst_parse_member.specs.Members.{word_by, field_by}
use Rattle.pst_parse_expr.specs.Constraints.{Within, outermost_at, is_other, items_by, constraint_at}
use Rattle.pst_reading.specs.Kinds.{is_name, next_is}
use Rattle.pst_reading.specs.Lists.{list_by}
use Rattle.pst_reading.specs.Parser.{Parser, Done, Wrong, Spent, Look, Take, followed_by, ◌>>=◌, mark_by, name_by, if_mark}
use Rattle.pst_token.specs.declared.kind.Kind.TheVariants as kind
use Rattle.pst_token.specs.declared.token.Token.{Token}
use Rattle.std.specs.Prelude.{ℕ, suc, List, Some}

-- a parser behind a token that it takes
abbrev pub behind : {A : Type 0} → Token → Parser A → Parser A
behind token (Done a) = Wrong
behind token Wrong = Wrong
behind token Spent = Spent
behind token (Look choose) = behind token (choose (Some token))
behind token (Take count go_on) = go_on token

abbrev pub constraint_items_by : ℕ → Within (List ConstraintItemTree)
constraint_items_by size depth = items_by (outermost_at (suc size)) (constraint_at size) size (suc depth)

-- "{" { citem } "}" behind the name
abbrev pub named_constraint_by : ℕ → ℕ → Name → Parser ConstraintContentTree
named_constraint_by size depth name = do
  left_brace ← mark_by kind.LeftBrace (counted depth 0)
  items ← constraint_items_by size depth
  right_brace ← mark_by kind.RightBrace (counted depth 0)
  Done (ConstraintContentNamed name left_brace items right_brace)

abbrev pub set_content_by : ℕ → Within ConstraintContentTree
set_content_by size depth = followed_by (constraint_at (suc size) depth) (λ set. Done (ConstraintContentSet set))

-- behind a name: it names the constraints where a brace follows it, and begins one where not
abbrev pub behind_name_by : ℕ → ℕ → Token → Parser ConstraintContentTree
behind_name_by size depth token = if_mark kind.LeftBrace (named_constraint_by size depth (record { id = token.name; place = token.place })) (behind token (set_content_by size depth))

-- what stands behind the word constraint. The name of several constraints counts as one that begins a constraint: the limit is the same for both
abbrev pub content_by : ℕ → Within ConstraintContentTree
content_by size depth = if_next (next_is is_name) (Take (counted (suc depth) 0) (behind_name_by size depth)) (set_content_by size depth)

-- constraint = "constraint" ( NAME "{" { citem } "}" | set )
abbrev pub constraint_declaration_by : ℕ → Within ConstraintDeclarationTree
constraint_declaration_by size depth = do
  constraint ← mark_by kind.Constraint (counted depth 0)
  content ← content_by size depth
  Done (MakeConstraintDeclaration constraint content)

-- "buffer" | "stream" | "state" | "resource"
abbrev pub object_word_by : Within (ObjectWord × Place)
object_word_by depth = if_mark kind.Buffer (word_by kind.Buffer the_object_word.Buffer depth) (
    if_mark kind.Stream (word_by kind.Stream the_object_word.Stream depth) (
    if_mark kind.State (word_by kind.State the_object_word.State depth)
    (word_by kind.Resource the_object_word.Resource depth)))

abbrev pub empty_object_part_by : Within ObjectPartTree
empty_object_part_by depth = followed_by (mark_by kind.Semicolon (counted depth 0)) (λ place. Done (ObjectPartEmpty place))

-- one part of object between its braces
abbrev pub object_part_by : ℕ → Within ObjectPartTree
object_part_by size depth = if_mark kind.Rand (followed_by (field_by size depth) (λ field. Done (ObjectPartField field))) (
    if_mark kind.Constraint (followed_by (constraint_declaration_by size depth) (λ declaration. Done (ObjectPartConstraint declaration)))
    (empty_object_part_by depth))

-- object = ("buffer"|"stream"|"state"|"resource") NAME "{" { field | constraint | ";" } "}"
abbrev pub object_by : ℕ → Within ObjectTree
object_by size depth = do
  word ← object_word_by depth
  name ← name_by (counted depth 0)
  left_brace ← mark_by kind.LeftBrace (counted depth 0)
  parts ← list_by (is_other kind.RightBrace) (object_part_by size depth) size
  right_brace ← mark_by kind.RightBrace (counted depth 0)
  Done (MakeObject word.0 word.1 name left_brace parts right_brace)
