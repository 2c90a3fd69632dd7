-- Fields, references, claims and members, parsed from left to right.
use Rattle.pst_ast.specs.DeclarationTree.{NextFieldTree, FieldTree, ReferenceTree, ClaimTree, MembersTree, MakeNextField, MakeField, MakeReference, MakeClaim, MakeMembers}
use Rattle.pst_ast.specs.ExpressionTree.{PartTree, MakePart}
use Rattle.pst_ast.specs.Limits.{counted}
use Rattle.pst_ast.specs.declared.declaration.ClaimWord.TheVariants as the_claim_word
use Rattle.pst_ast.specs.declared.declaration.ClaimWord.{ClaimWord}
use Rattle.pst_ast.specs.declared.declaration.ReferenceWord.TheVariants as the_reference_word
use Rattle.pst_ast.specs.declared.declaration.ReferenceWord.{ReferenceWord}
use Rattle.pst_base.specs.declared.position.Place.{Place}
use Rattle.pst_parse_member.specs.Types.{type_by}
use Rattle.pst_parse_part.specs.Names.{type_name_by, names_by}
use Rattle.pst_parse_expr.specs.Constraints.{Within, is_at}
use Rattle.pst_parse_operator.specs.Reading.{expr_at, maybe_index_by}
use Rattle.pst_reading.specs.Lists.{list_by}
use Rattle.pst_reading.specs.Parser.{Done, followed_by, ◌>>=◌, mark_by, name_by, if_mark}
use Rattle.pst_token.specs.declared.kind.Kind.TheVariants as kind
use Rattle.pst_token.specs.declared.kind.Kind.{Kind}
use Rattle.std.specs.Prelude.{ℕ, suc}

-- NAME [ index ]
abbrev pub part_by : ℕ → Within PartTree
part_by size depth = do
  name ← name_by (counted depth 0)
  index ← maybe_index_by (expr_at (suc size)) depth 0
  Done (MakePart name index)

-- "," NAME [ index ]
abbrev pub next_field_by : ℕ → Within NextFieldTree
next_field_by size depth = do
  comma ← mark_by kind.Comma (counted depth 0)
  part ← part_by size depth
  Done (MakeNextField comma part)

-- field = "rand" type NAME [ index ] { "," NAME [ index ] } ";"
abbrev pub field_by : ℕ → Within FieldTree
field_by size depth = do
  rand ← mark_by kind.Rand (counted depth 0)
  field_type ← type_by size depth
  first ← part_by size depth
  rest ← list_by (is_at kind.Comma) (next_field_by size depth) size
  semicolon ← mark_by kind.Semicolon (counted depth 0)
  Done (MakeField rand field_type first rest semicolon)

-- members = tname NAME { "," NAME } ";"
abbrev pub members_by : ℕ → Within MembersTree
members_by size depth = do
  member_type ← type_name_by depth
  names ← names_by size depth
  semicolon ← mark_by kind.Semicolon (counted depth 0)
  Done (MakeMembers member_type names semicolon)

-- a word, and its place
abbrev pub word_by : {W : Type 0} → Kind → W → Within (W × Place)
word_by k word depth = followed_by (mark_by k (counted depth 0)) (λ place. Done (word, place))

-- "input" | "output"
abbrev pub reference_word_by : Within (ReferenceWord × Place)
reference_word_by depth = if_mark kind.Input (word_by kind.Input the_reference_word.Input depth) (word_by kind.Output the_reference_word.Output depth)

-- ref = ("input"|"output") tname NAME { "," NAME } ";"
abbrev pub reference_by : ℕ → Within ReferenceTree
reference_by size depth = do
  word ← reference_word_by depth
  object ← type_name_by depth
  names ← names_by size depth
  semicolon ← mark_by kind.Semicolon (counted depth 0)
  Done (MakeReference word.0 word.1 object names semicolon)

-- "lock" | "share"
abbrev pub claim_word_by : Within (ClaimWord × Place)
claim_word_by depth = if_mark kind.Lock (word_by kind.Lock the_claim_word.Lock depth) (word_by kind.Share the_claim_word.Share depth)

-- claim = ("lock"|"share") tname NAME { "," NAME } ";"
abbrev pub claim_by : ℕ → Within ClaimTree
claim_by size depth = do
  word ← claim_word_by depth
  object ← type_name_by depth
  names ← names_by size depth
  semicolon ← mark_by kind.Semicolon (counted depth 0)
  Done (MakeClaim word.0 word.1 object names semicolon)
