-- Fields, references, claims and members read what they spell again.
use Rattle.pst_ast.specs.DeclarationLimits.{counts_next_field, counts_field, counts_reference, counts_claim, counts_members}
use Rattle.pst_ast.specs.DeclarationProper.{IsProperNextField, IsProperField, IsProperReference, IsProperClaim, IsProperMembers}
use Rattle.pst_ast.specs.DeclarationSpelling.{spell_next_field, spell_field, spell_reference, spell_claim, spell_members}
use Rattle.pst_ast.specs.DeclarationTree.{NextFieldTree, FieldTree, ReferenceTree, ClaimTree, MembersTree, MakeNextField, MakeField, MakeReference, MakeClaim, MakeMembers}
use Rattle.pst_ast.specs.ExpressionLimits.{counts_part}
use Rattle.pst_ast.specs.ExpressionProper.{IsProperPart}
use Rattle.pst_ast.specs.ExpressionSpelling.{spell_part}
use Rattle.pst_ast.specs.ExpressionTree.{PartTree, MakePart}
use Rattle.pst_ast.specs.Limits.{counted}
use Rattle.pst_ast.specs.Marks.{mark, name_token, claim_word_kind, reference_word_kind}
use Rattle.pst_ast.specs.SharedSpelling.{spell_names, spell_type_name, spell_type}
use Rattle.pst_ast.specs.declared.declaration.ClaimWord.TheVariants as the_claim_word
use Rattle.pst_ast.specs.declared.declaration.ClaimWord.{ClaimWord}
use Rattle.pst_ast.specs.declared.declaration.ReferenceWord.TheVariants as the_reference_word
use Rattle.pst_ast.specs.declared.declaration.ReferenceWord.{ReferenceWord}
use Rattle.pst_ast.specs.declared.leaf.Name.{Name}
use Rattle.pst_base.specs.declared.position.Place.{Place}
use Rattle.pst_parse_part.proofs.Following.{other_mark, other_name, next_list_in, next_part_in, index_rereads, reread_empty, IsName}
use Rattle.pst_parse_member.proofs.MembersExplain.{spell_word, counts_word, spell_reference_word, counts_reference_word, spell_claim_word, counts_claim_word}
use Rattle.pst_parse_member.proofs.TypesAgain.{type_rereads}
use Rattle.pst_parse_part.proofs.NamesAgain.{type_name_rereads, names_begins, names_rereads}
use Rattle.pst_parse_member.specs.Members.{field_by, word_by, next_field_by, part_by, claim_by, reference_word_by, members_by, reference_by, claim_word_by}
use Rattle.pst_parse_part.specs.Names.{names_by, type_name_by}
use Rattle.pst_parse_member.specs.Types.{type_by}
use Rattle.pst_parse_operator.proofs.Stops.{IsNo}
use Rattle.pst_parse_expr.specs.Constraints.{is_at}
use Rattle.pst_parse_operator.specs.Reading.{expr_at, maybe_index_by}
use Rattle.pst_reading.proofs.Rereading.{Rereads, Anything, reread_done, reread_mark, reread_name, reread_part, reread_last, reread_choice, EndsOption, reread_list}
use Rattle.pst_reading.proofs.Tokens.{mark_is_so, name_is_so}
use Rattle.pst_reading.specs.Lists.{list_by}
use Rattle.pst_reading.specs.Parser.{next}
use Rattle.pst_token.specs.declared.kind.Kind.TheVariants as kind
use Rattle.pst_token.specs.declared.kind.Kind.{Kind}
use Rattle.pst_token.specs.declared.token.Token.{Token}
use Rattle.std.proofs.Common.{refl, arith, length-append, ℕ, suc, ◌≤◌, ◌≡◌, true, false, List, [], ◌∷◌, ◌++◌, Option, Some, length}
use Rattle.std.specs.List.{flat_map}

pub word_rereads : {W : Type 0} (kind_of : W → Kind) (w : W) (depth : ℕ) (place : Place) → Rereads Anything (word_by (kind_of w) w depth) (spell_word kind_of (w, place)) (counts_word depth (w, place)) (w, place)
word_rereads kind_of w depth place = reread_empty (kind_of w) (counted depth 0) (λ p. (w, p)) place Anything

pub part_rereads : (size depth : ℕ) (x : PartTree) → IsProperPart x → length (spell_part x) ≤ size → Rereads (IsNo kind.LeftBracket) (part_by size depth) (spell_part x) (counts_part depth 0 x) x
part_rereads size depth (MakePart name index) proper short =
    reread_name _ (counted depth 0) _ name _ _ _
    (reread_last _ (maybe_index_by (expr_at (suc size)) depth 0) _ _ _ index _ (index_rereads size depth index proper (omega (arith, short))) refl)

pub part_begins : (E : Option Token → Type 0) → ((name : Name) → E (Some (name_token name))) → (x : PartTree) (us : List Token) → E (next (spell_part x ++ us))
part_begins E h (MakePart name index) us = h name

pub next_field_begins : (E : Option Token → Type 0) → ((place : Place) → E (Some (mark kind.Comma place))) → (x : NextFieldTree) (us : List Token) → E (next (spell_next_field x ++ us))
next_field_begins E h (MakeNextField comma part) us = h comma

pub next_field_some : (x : NextFieldTree) → 1 ≤ length (spell_next_field x)
next_field_some (MakeNextField comma part) = omega arith

pub next_field_rereads : (size depth : ℕ) (x : NextFieldTree) → IsProperNextField x → length (spell_next_field x) ≤ size → Rereads (IsNo kind.LeftBracket) (next_field_by size depth) (spell_next_field x) (counts_next_field depth x) x
next_field_rereads size depth (MakeNextField comma part) proper short =
    reread_mark _ kind.Comma (counted depth 0) _ comma _ _ _
    (reread_last _ (part_by size depth) _ _ _ part _ (part_rereads size depth part proper (omega (arith, short))) refl)

pub field_rereads : (size depth : ℕ) (x : FieldTree) → IsProperField x → length (spell_field x) ≤ size → Rereads Anything (field_by size depth) (spell_field x) (counts_field depth x) x
field_rereads size depth (MakeField rand field_type first rest semicolon) proper short =
    let long = length-append (spell_type field_type) (spell_part first ++ (flat_map spell_next_field rest ++ mark kind.Semicolon semicolon ∷ [])) in
    let long2 = length-append (spell_part first) (flat_map spell_next_field rest ++ mark kind.Semicolon semicolon ∷ []) in
    let long3 = length-append (flat_map spell_next_field rest) (mark kind.Semicolon semicolon ∷ []) in
    reread_mark _ kind.Rand (counted depth 0) _ rand _ _ _
    (reread_part _ IsName (type_by size depth) _ (spell_type field_type) _ field_type _ _ _ (type_rereads size depth field_type proper.0 (omega (arith, short, long, long2, long3))) (λ more m. (next_part_in IsName (spell_part first) (flat_map spell_next_field rest ++ mark kind.Semicolon semicolon ∷ []) more (part_begins IsName (λ p. (name_is_so p)) first ((flat_map spell_next_field rest ++ mark kind.Semicolon semicolon ∷ []) ++ more))))
    (reread_part _ (IsNo kind.LeftBracket) (part_by size depth) _ (spell_part first) _ first _ _ _ (part_rereads size depth first proper.1 (omega (arith, short, long, long2, long3))) (λ more m. (next_list_in (IsNo kind.LeftBracket) spell_next_field rest (mark kind.Semicolon semicolon ∷ []) more (λ x us. next_field_begins (IsNo kind.LeftBracket) (λ p. (other_mark kind.LeftBracket kind.Comma p refl)) x us) (other_mark kind.LeftBracket kind.Semicolon semicolon refl)))
    (reread_part _ (EndsOption (is_at kind.Comma) (IsNo kind.LeftBracket)) (list_by (is_at kind.Comma) (next_field_by size depth) size) _ (flat_map spell_next_field rest) _ rest _ _ _ (reread_list spell_next_field IsProperNextField (counts_next_field depth) (is_at kind.Comma) (IsNo kind.LeftBracket) (next_field_by size depth) size size (λ x p n. (next_field_rereads size depth x p n)) (λ x us p. record { found = next_field_begins (λ n. is_at kind.Comma n ≡ true) (mark_is_so kind.Comma) x us; good = (next_field_begins (IsNo kind.LeftBracket) (λ p. (other_mark kind.LeftBracket kind.Comma p refl)) x us) }) next_field_some rest proper.2 (omega (arith, short, long, long2, long3)) (omega (arith, short, long, long2, long3))) (λ more m. ((other_mark kind.Comma kind.Semicolon semicolon refl), (other_mark kind.LeftBracket kind.Semicolon semicolon refl)))
    (reread_mark _ kind.Semicolon (counted depth 0) _ semicolon _ _ _
    (reread_done _ _)))))

pub members_rereads : (size depth : ℕ) (x : MembersTree) → IsProperMembers x → length (spell_members x) ≤ size → Rereads Anything (members_by size depth) (spell_members x) (counts_members depth x) x
members_rereads size depth (MakeMembers member_type names semicolon) proper short =
    let long = length-append (spell_type_name member_type) (spell_names names ++ mark kind.Semicolon semicolon ∷ []) in
    let long2 = length-append (spell_names names) (mark kind.Semicolon semicolon ∷ []) in
    reread_part _ (IsNo kind.ColonColon) (type_name_by depth) _ (spell_type_name member_type) _ member_type _ _ _ (type_name_rereads depth member_type) (λ more m. (next_part_in (IsNo kind.ColonColon) (spell_names names) (mark kind.Semicolon semicolon ∷ []) more (names_begins (IsNo kind.ColonColon) (λ p. (other_name kind.ColonColon p refl)) names ((mark kind.Semicolon semicolon ∷ []) ++ more))))
    (reread_part _ (EndsOption (is_at kind.Comma) Anything) (names_by size depth) _ (spell_names names) _ names _ _ _ (names_rereads size depth names proper (omega (arith, short, long, long2))) (λ more m. ((other_mark kind.Comma kind.Semicolon semicolon refl), tt))
    (reread_mark _ kind.Semicolon (counted depth 0) _ semicolon _ _ _
    (reread_done _ _)))

pub reference_word_rereads : (depth : ℕ) (x : ReferenceWord × Place) → Rereads Anything (reference_word_by depth) (spell_reference_word x) (counts_reference_word depth x) x
reference_word_rereads depth (the_reference_word.Input, place) =
    reread_choice _ kind.Input _ _ _ _ _ true (λ rest m. (mark_is_so kind.Input place))
    (word_rereads reference_word_kind the_reference_word.Input depth place)
reference_word_rereads depth (the_reference_word.Output, place) =
    reread_choice _ kind.Input _ _ _ _ _ false (λ rest m. (other_mark kind.Input kind.Output place refl))
    (word_rereads reference_word_kind the_reference_word.Output depth place)

pub reference_rereads : (size depth : ℕ) (x : ReferenceTree) → IsProperReference x → length (spell_reference x) ≤ size → Rereads Anything (reference_by size depth) (spell_reference x) (counts_reference depth x) x
reference_rereads size depth (MakeReference word place object names semicolon) proper short =
    let long = length-append (spell_type_name object) (spell_names names ++ mark kind.Semicolon semicolon ∷ []) in
    let long2 = length-append (spell_names names) (mark kind.Semicolon semicolon ∷ []) in
    reread_part _ Anything (reference_word_by depth) _ (spell_reference_word (word, place)) _ (word, place) _ _ _ (reference_word_rereads depth (word, place)) (λ more m. tt)
    (reread_part _ (IsNo kind.ColonColon) (type_name_by depth) _ (spell_type_name object) _ object _ _ _ (type_name_rereads depth object) (λ more m. (next_part_in (IsNo kind.ColonColon) (spell_names names) (mark kind.Semicolon semicolon ∷ []) more (names_begins (IsNo kind.ColonColon) (λ p. (other_name kind.ColonColon p refl)) names ((mark kind.Semicolon semicolon ∷ []) ++ more))))
    (reread_part _ (EndsOption (is_at kind.Comma) Anything) (names_by size depth) _ (spell_names names) _ names _ _ _ (names_rereads size depth names proper (omega (arith, short, long, long2))) (λ more m. ((other_mark kind.Comma kind.Semicolon semicolon refl), tt))
    (reread_mark _ kind.Semicolon (counted depth 0) _ semicolon _ _ _
    (reread_done _ _))))

pub claim_word_rereads : (depth : ℕ) (x : ClaimWord × Place) → Rereads Anything (claim_word_by depth) (spell_claim_word x) (counts_claim_word depth x) x
claim_word_rereads depth (the_claim_word.Lock, place) =
    reread_choice _ kind.Lock _ _ _ _ _ true (λ rest m. (mark_is_so kind.Lock place))
    (word_rereads claim_word_kind the_claim_word.Lock depth place)
claim_word_rereads depth (the_claim_word.Share, place) =
    reread_choice _ kind.Lock _ _ _ _ _ false (λ rest m. (other_mark kind.Lock kind.Share place refl))
    (word_rereads claim_word_kind the_claim_word.Share depth place)

pub claim_rereads : (size depth : ℕ) (x : ClaimTree) → IsProperClaim x → length (spell_claim x) ≤ size → Rereads Anything (claim_by size depth) (spell_claim x) (counts_claim depth x) x
claim_rereads size depth (MakeClaim word place object names semicolon) proper short =
    let long = length-append (spell_type_name object) (spell_names names ++ mark kind.Semicolon semicolon ∷ []) in
    let long2 = length-append (spell_names names) (mark kind.Semicolon semicolon ∷ []) in
    reread_part _ Anything (claim_word_by depth) _ (spell_claim_word (word, place)) _ (word, place) _ _ _ (claim_word_rereads depth (word, place)) (λ more m. tt)
    (reread_part _ (IsNo kind.ColonColon) (type_name_by depth) _ (spell_type_name object) _ object _ _ _ (type_name_rereads depth object) (λ more m. (next_part_in (IsNo kind.ColonColon) (spell_names names) (mark kind.Semicolon semicolon ∷ []) more (names_begins (IsNo kind.ColonColon) (λ p. (other_name kind.ColonColon p refl)) names ((mark kind.Semicolon semicolon ∷ []) ++ more))))
    (reread_part _ (EndsOption (is_at kind.Comma) Anything) (names_by size depth) _ (spell_names names) _ names _ _ _ (names_rereads size depth names proper (omega (arith, short, long, long2))) (λ more m. ((other_mark kind.Comma kind.Semicolon semicolon refl), tt))
    (reread_mark _ kind.Semicolon (counted depth 0) _ semicolon _ _ _
    (reread_done _ _))))
