-- What fields, references, claims and members explain.
use Rattle.pst_ast.specs.DeclarationLimits.{counts_next_field, counts_field, counts_reference, counts_claim, counts_members}
use Rattle.pst_ast.specs.DeclarationProper.{IsProperNextField, IsProperField, IsProperReference, IsProperClaim, IsProperMembers}
use Rattle.pst_ast.specs.DeclarationSpelling.{spell_next_field, spell_field, spell_reference, spell_claim, spell_members}
use Rattle.pst_ast.specs.DeclarationTree.{MakeNextField, MakeField, MakeReference, MakeClaim, MakeMembers}
use Rattle.pst_ast.specs.ExpressionLimits.{counts_part, counts_maybe_index}
use Rattle.pst_ast.specs.ExpressionProper.{IsProperPart, IsProperMaybeIndex}
use Rattle.pst_ast.specs.ExpressionSpelling.{spell_part, spell_maybe_index}
use Rattle.pst_ast.specs.ExpressionTree.{MakePart}
use Rattle.pst_ast.specs.Limits.{Count, counted}
use Rattle.pst_ast.specs.Marks.{mark, claim_word_kind, reference_word_kind}
use Rattle.pst_ast.specs.SharedLimits.{counts_names, counts_type_name, counts_type}
use Rattle.pst_ast.specs.SharedProper.{IsProperNames, IsProperType}
use Rattle.pst_ast.specs.SharedSpelling.{spell_names, spell_type_name, spell_type}
use Rattle.pst_ast.specs.declared.declaration.ClaimWord.TheVariants as the_claim_word
use Rattle.pst_ast.specs.declared.declaration.ClaimWord.{ClaimWord}
use Rattle.pst_ast.specs.declared.declaration.ReferenceWord.TheVariants as the_reference_word
use Rattle.pst_ast.specs.declared.declaration.ReferenceWord.{ReferenceWord}
use Rattle.pst_base.specs.declared.position.Place.{Place}
use Rattle.pst_parse_part.proofs.ChoicesExplain.{explains_if_mark, explains_empty, index_explains}
use Rattle.pst_parse_member.proofs.TypesExplain.{type_explains}
use Rattle.pst_parse_part.proofs.NamesExplain.{type_name_explains, names_explains}
use Rattle.pst_parse_member.specs.Members.{field_by, word_by, next_field_by, part_by, claim_by, reference_word_by, members_by, reference_by, claim_word_by}
use Rattle.pst_parse_part.specs.Names.{names_by, type_name_by}
use Rattle.pst_parse_member.specs.Types.{type_by}
use Rattle.pst_parse_expr.proofs.SharedLaws.{IsAny}
use Rattle.pst_parse_expr.specs.Constraints.{is_at}
use Rattle.pst_parse_operator.specs.Reading.{expr_at, maybe_index_by}
use Rattle.pst_reading.proofs.Chains.{explains_mark, explains_name, explains_part}
use Rattle.pst_reading.proofs.Explaining.{Means, Explains, explains_done}
use Rattle.pst_reading.proofs.Lists.{list_explains}
use Rattle.pst_reading.specs.Lists.{list_by}
use Rattle.pst_token.specs.declared.kind.Kind.TheVariants as kind
use Rattle.pst_token.specs.declared.kind.Kind.{Kind}
use Rattle.pst_token.specs.declared.token.Token.{Token}
use Rattle.std.proofs.Common.{refl, append-nil, ℕ, suc, List, [], ◌∷◌}
use Rattle.std.specs.List.{flat_map, AllByRecursion}

abbrev pub spell_word : {W : Type 0} → (W → Kind) → W × Place → List Token
spell_word kind_of word = mark (kind_of word.0) word.1 ∷ []

abbrev pub counts_word : {W : Type 0} → ℕ → W × Place → List Count
counts_word depth word = counted depth 0 ∷ []

-- a word at its place
pub word_explains : {W : Type 0} (kind_of : W → Kind) (w : W) (depth : ℕ) → Explains (Means (spell_word kind_of) IsAny (counts_word depth)) (word_by (kind_of w) w depth)
word_explains kind_of w depth = explains_empty (Means (spell_word kind_of) IsAny (counts_word depth)) (kind_of w) (counted depth 0) (λ p. (w, p)) (λ p. record { is = refl; proper = tt; counted = refl })

pub part_explains : (size depth : ℕ) → Explains (Means spell_part IsProperPart (counts_part depth 0)) (part_by size depth)
part_explains size depth =
    explains_name _ (counted depth 0) _ (λ name.
    explains_part _ spell_maybe_index IsProperMaybeIndex (counts_maybe_index depth 0) (maybe_index_by (expr_at (suc size)) depth 0) _ (index_explains size depth) (λ index h1.
    explains_done _ (MakePart name index) (record { is = rw append-nil refl; proper = h1; counted = rw append-nil refl })))

pub next_field_explains : (size depth : ℕ) → Explains (Means spell_next_field IsProperNextField (counts_next_field depth)) (next_field_by size depth)
next_field_explains size depth =
    explains_mark _ kind.Comma (counted depth 0) _ (λ comma.
    explains_part _ spell_part IsProperPart (counts_part depth 0) (part_by size depth) _ (part_explains size depth) (λ part h1.
    explains_done _ (MakeNextField comma part) (record { is = rw append-nil refl; proper = h1; counted = rw append-nil refl })))

pub field_explains : (size depth : ℕ) → Explains (Means spell_field IsProperField (counts_field depth)) (field_by size depth)
field_explains size depth =
    explains_mark _ kind.Rand (counted depth 0) _ (λ rand.
    explains_part _ spell_type IsProperType (counts_type depth) (type_by size depth) _ (type_explains size depth) (λ field_type h1.
    explains_part _ spell_part IsProperPart (counts_part depth 0) (part_by size depth) _ (part_explains size depth) (λ first h2.
    explains_part _ (flat_map spell_next_field) (AllByRecursion IsProperNextField) (flat_map (counts_next_field depth)) (list_by (is_at kind.Comma) (next_field_by size depth) size) _ (list_explains spell_next_field IsProperNextField (counts_next_field depth) (is_at kind.Comma) (next_field_by size depth) (next_field_explains size depth) size) (λ rest h3.
    explains_mark _ kind.Semicolon (counted depth 0) _ (λ semicolon.
    explains_done _ (MakeField rand field_type first rest semicolon) (record { is = refl; proper = (h1, h2, h3); counted = refl }))))))

pub members_explains : (size depth : ℕ) → Explains (Means spell_members IsProperMembers (counts_members depth)) (members_by size depth)
members_explains size depth =
    explains_part _ spell_type_name IsAny (counts_type_name depth) (type_name_by depth) _ (type_name_explains depth) (λ member_type h0.
    explains_part _ spell_names IsProperNames (counts_names depth) (names_by size depth) _ (names_explains size depth) (λ names h1.
    explains_mark _ kind.Semicolon (counted depth 0) _ (λ semicolon.
    explains_done _ (MakeMembers member_type names semicolon) (record { is = refl; proper = h1; counted = refl }))))

abbrev pub spell_reference_word : ReferenceWord × Place → List Token
spell_reference_word word = spell_word reference_word_kind word

abbrev pub counts_reference_word : ℕ → ReferenceWord × Place → List Count
counts_reference_word depth word = counts_word depth word

pub reference_word_explains : (depth : ℕ) → Explains (Means spell_reference_word IsAny (counts_reference_word depth)) (reference_word_by depth)
reference_word_explains depth =
    explains_if_mark (Means spell_reference_word IsAny (counts_reference_word depth)) kind.Input _ _ (word_explains reference_word_kind the_reference_word.Input depth) (
    word_explains reference_word_kind the_reference_word.Output depth)

pub reference_explains : (size depth : ℕ) → Explains (Means spell_reference IsProperReference (counts_reference depth)) (reference_by size depth)
reference_explains size depth =
    explains_part _ spell_reference_word IsAny (counts_reference_word depth) (reference_word_by depth) _ (reference_word_explains depth) (λ word h0.
    explains_part _ spell_type_name IsAny (counts_type_name depth) (type_name_by depth) _ (type_name_explains depth) (λ object h1.
    explains_part _ spell_names IsProperNames (counts_names depth) (names_by size depth) _ (names_explains size depth) (λ names h2.
    explains_mark _ kind.Semicolon (counted depth 0) _ (λ semicolon.
    explains_done _ (MakeReference word.0 word.1 object names semicolon) (record { is = refl; proper = h2; counted = refl })))))

abbrev pub spell_claim_word : ClaimWord × Place → List Token
spell_claim_word word = spell_word claim_word_kind word

abbrev pub counts_claim_word : ℕ → ClaimWord × Place → List Count
counts_claim_word depth word = counts_word depth word

pub claim_word_explains : (depth : ℕ) → Explains (Means spell_claim_word IsAny (counts_claim_word depth)) (claim_word_by depth)
claim_word_explains depth =
    explains_if_mark (Means spell_claim_word IsAny (counts_claim_word depth)) kind.Lock _ _ (word_explains claim_word_kind the_claim_word.Lock depth) (
    word_explains claim_word_kind the_claim_word.Share depth)

pub claim_explains : (size depth : ℕ) → Explains (Means spell_claim IsProperClaim (counts_claim depth)) (claim_by size depth)
claim_explains size depth =
    explains_part _ spell_claim_word IsAny (counts_claim_word depth) (claim_word_by depth) _ (claim_word_explains depth) (λ word h0.
    explains_part _ spell_type_name IsAny (counts_type_name depth) (type_name_by depth) _ (type_name_explains depth) (λ object h1.
    explains_part _ spell_names IsProperNames (counts_names depth) (names_by size depth) _ (names_explains size depth) (λ names h2.
    explains_mark _ kind.Semicolon (counted depth 0) _ (λ semicolon.
    explains_done _ (MakeClaim word.0 word.1 object names semicolon) (record { is = refl; proper = h2; counted = refl })))))
