-- Types read what they spell again.
use Rattle.pst_ast.specs.ExpressionSpelling.{spell_ranges}
use Rattle.pst_ast.specs.Limits.{counted}
use Rattle.pst_ast.specs.Marks.{mark, spell_option}
use Rattle.pst_ast.specs.SharedLimits.{counts_domain, counts_type}
use Rattle.pst_ast.specs.SharedProper.{IsProperDomain, IsProperType}
use Rattle.pst_ast.specs.SharedSpelling.{spell_type_name, spell_plain, spell_domain, spell_type}
use Rattle.pst_ast.specs.SharedTree.{PlainTree, DomainTree, TypeTree, MakeDomain, TypePlain, TypeNamed}
use Rattle.pst_ast.specs.declared.shared.TypeName.{TypeName}
use Rattle.pst_base.specs.declared.position.Place.{Place}
use Rattle.pst_parse_part.proofs.Following.{other_mark, mark_is_no_name, name_is_other, next_option, next_part_in, reread_next, IsName, EndsRange}
use Rattle.pst_parse_member.specs.Types.{type_by, named_type_by, plain_type_by, domain_by}
use Rattle.pst_parse_part.specs.Names.{type_name_by}
use Rattle.pst_parse_part.specs.Ranges.{ranges_by}
use Rattle.pst_parse_part.specs.Plain.{plain_by}
use Rattle.pst_parse_operator.proofs.Stops.{IsNo, right_bracket_closes}
use Rattle.pst_parse_expr.specs.Constraints.{is_at}
use Rattle.pst_reading.proofs.Rereading.{Rereads, Anything, reread_done, narrower, reread_mark, reread_part, reread_last, EndsOption, reread_option}
use Rattle.pst_reading.proofs.Tokens.{mark_is_so, name_is_so}
use Rattle.pst_reading.specs.Kinds.{is_name, next_is}
use Rattle.pst_reading.specs.Options.{option_by}
use Rattle.pst_reading.specs.Parser.{next}
use Rattle.pst_token.specs.declared.kind.Kind.TheVariants as kind
use Rattle.pst_token.specs.declared.token.Token.{Token}
use Rattle.std.proofs.Common.{refl, arith, length-append, ℕ, ◌≤◌, ◌≡◌, true, false, List, [], ◌∷◌, ◌++◌, Option, Some, length}
use Rattle.pst_parse_part.proofs.PlainAgain.{plain_rereads, plain_begins}
use Rattle.pst_parse_part.proofs.NamesAgain.{type_name_rereads}
use Rattle.pst_parse_part.proofs.RangesAgain.{ranges_rereads}

-- ---- ranges

pub domain_begins : (E : Option Token → Type 0) → ((place : Place) → E (Some (mark kind.In place))) → (x : DomainTree) (us : List Token) → E (next (spell_domain x ++ us))
domain_begins E h (MakeDomain in_place left_bracket ranges right_bracket) us = h in_place

pub domain_rereads : (size depth : ℕ) (x : DomainTree) → IsProperDomain x → length (spell_domain x) ≤ size → Rereads Anything (domain_by size depth) (spell_domain x) (counts_domain depth x) x
domain_rereads size depth (MakeDomain in_place left_bracket ranges right_bracket) proper short =
    let long = length-append (spell_ranges ranges) (mark kind.RightBracket right_bracket ∷ []) in
    reread_mark _ kind.In (counted depth 0) _ in_place _ _ _
    (reread_mark _ kind.LeftBracket (counted depth 0) _ left_bracket _ _ _
    (reread_part _ (EndsOption (is_at kind.Comma) EndsRange) (ranges_by size depth) _ (spell_ranges ranges) _ ranges _ _ _ (ranges_rereads size depth ranges proper (omega (arith, short, long))) (λ more m. ((other_mark kind.Comma kind.RightBracket right_bracket refl), ((right_bracket_closes right_bracket), (other_mark kind.DotDot kind.RightBracket right_bracket refl))))
    (reread_mark _ kind.RightBracket (counted depth 0) _ right_bracket _ _ _
    (reread_done _ _))))

plain_type_rereads : (size depth : ℕ) (plain : PlainTree) (domain : Option DomainTree) → IsProperType (TypePlain plain domain) → length (spell_type (TypePlain plain domain)) ≤ size → Rereads IsName (plain_type_by size depth) (spell_type (TypePlain plain domain)) (counts_type depth (TypePlain plain domain)) (TypePlain plain domain)
plain_type_rereads size depth plain domain proper short =
    let long = length-append (spell_plain plain) (spell_option spell_domain domain) in
    reread_part _ (IsNo kind.LeftBracket) (plain_by size depth) _ (spell_plain plain) _ plain _ _ _ (plain_rereads size depth plain proper.0 (omega (arith, short, long))) (λ more m. (next_option (IsNo kind.LeftBracket) spell_domain domain more (λ x us. domain_begins (IsNo kind.LeftBracket) (λ p. (other_mark kind.LeftBracket kind.In p refl)) x us) (name_is_other kind.LeftBracket (next more) m refl)))
    (reread_last _ (option_by (is_at kind.In) (domain_by size depth)) _ _ _ domain _ (narrower (EndsOption (is_at kind.In) Anything) IsName _ _ _ _ (λ n m. ((name_is_other kind.In n m refl), tt)) (reread_option spell_domain IsProperDomain (counts_domain depth) (is_at kind.In) Anything (domain_by size depth) size (λ x p n. (domain_rereads size depth x p n)) (λ x us. domain_begins (λ n. is_at kind.In n ≡ true) (mark_is_so kind.In) x us) domain proper.1 (omega (arith, short, long)))) refl)

named_type_rereads : (size depth : ℕ) (name : TypeName) (domain : Option DomainTree) → IsProperType (TypeNamed name domain) → length (spell_type (TypeNamed name domain)) ≤ size → Rereads IsName (named_type_by size depth) (spell_type (TypeNamed name domain)) (counts_type depth (TypeNamed name domain)) (TypeNamed name domain)
named_type_rereads size depth name domain proper short =
    let long = length-append (spell_type_name name) (spell_option spell_domain domain) in
    reread_part _ (IsNo kind.ColonColon) (type_name_by depth) _ (spell_type_name name) _ name _ _ _ (type_name_rereads depth name) (λ more m. (next_option (IsNo kind.ColonColon) spell_domain domain more (λ x us. domain_begins (IsNo kind.ColonColon) (λ p. (other_mark kind.ColonColon kind.In p refl)) x us) (name_is_other kind.ColonColon (next more) m refl)))
    (reread_last _ (option_by (is_at kind.In) (domain_by size depth)) _ _ _ domain _ (narrower (EndsOption (is_at kind.In) Anything) IsName _ _ _ _ (λ n m. ((name_is_other kind.In n m refl), tt)) (reread_option spell_domain IsProperDomain (counts_domain depth) (is_at kind.In) Anything (domain_by size depth) size (λ x p n. (domain_rereads size depth x p n)) (λ x us. domain_begins (λ n. is_at kind.In n ≡ true) (mark_is_so kind.In) x us) domain proper (omega (arith, short, long)))) refl)

pub type_rereads : (size depth : ℕ) (x : TypeTree) → IsProperType x → length (spell_type x) ≤ size → Rereads IsName (type_by size depth) (spell_type x) (counts_type depth x) x
type_rereads size depth (TypePlain plain domain) proper short =
    reread_next _ (next_is is_name) _ _ _ _ _ false (λ rest m. next_part_in (λ n. next_is is_name n ≡ false) (spell_plain plain) (spell_option spell_domain domain) rest (plain_begins (λ n. next_is is_name n ≡ false) (λ p. mark_is_no_name kind.Int p refl) (λ p. mark_is_no_name kind.Bit p refl) (λ p. mark_is_no_name kind.Bool p refl) plain _))
    (plain_type_rereads size depth plain domain proper short)
type_rereads size depth (TypeNamed name domain) proper short =
    reread_next _ (next_is is_name) _ _ _ _ _ true (λ rest m. name_is_so name.first)
    (named_type_rereads size depth name domain proper short)
