-- What types explain.
use Rattle.pst_ast.specs.ExpressionProper.{IsProperRanges}
use Rattle.pst_ast.specs.ExpressionSpelling.{spell_ranges}
use Rattle.pst_ast.specs.Limits.{counted, counts_option}
use Rattle.pst_ast.specs.Marks.{spell_option, OptionIs}
use Rattle.pst_ast.specs.SharedLimits.{counts_type_name, counts_plain, counts_own_ranges, counts_domain, counts_type}
use Rattle.pst_ast.specs.SharedProper.{IsProperPlain, IsProperDomain, IsProperType}
use Rattle.pst_ast.specs.SharedSpelling.{spell_type_name, spell_plain, spell_domain, spell_type}
use Rattle.pst_ast.specs.SharedTree.{MakeDomain, TypePlain, TypeNamed}
use Rattle.pst_parse_part.proofs.ChoicesExplain.{explains_option, explains_if_next}
use Rattle.pst_parse_member.specs.Types.{type_by, named_type_by, plain_type_by, domain_by}
use Rattle.pst_parse_part.specs.Names.{type_name_by}
use Rattle.pst_parse_part.specs.Ranges.{ranges_by}
use Rattle.pst_parse_part.specs.Plain.{plain_by}
use Rattle.pst_parse_expr.proofs.SharedLaws.{IsAny}
use Rattle.pst_parse_expr.specs.Constraints.{is_at}
use Rattle.pst_reading.proofs.Chains.{explains_mark, explains_part}
use Rattle.pst_reading.proofs.Explaining.{Means, Explains, explains_done}
use Rattle.pst_reading.specs.Kinds.{is_name, next_is}
use Rattle.pst_reading.specs.Options.{option_by}
use Rattle.pst_token.specs.declared.kind.Kind.TheVariants as kind
use Rattle.std.proofs.Common.{refl, append-nil, ℕ}
use Rattle.pst_parse_part.proofs.PlainExplain.{plain_explains}
use Rattle.pst_parse_part.proofs.RangesExplain.{ranges_explains}
use Rattle.pst_parse_part.proofs.NamesExplain.{type_name_explains}

-- ---- ranges, each end of which is an outermost expression

pub domain_explains : (size depth : ℕ) → Explains (Means spell_domain IsProperDomain (counts_domain depth)) (domain_by size depth)
domain_explains size depth =
    explains_mark _ kind.In (counted depth 0) _ (λ in_place.
    explains_mark _ kind.LeftBracket (counted depth 0) _ (λ left_bracket.
    explains_part _ spell_ranges IsProperRanges (counts_own_ranges depth) (ranges_by size depth) _ (ranges_explains size depth) (λ ranges h2.
    explains_mark _ kind.RightBracket (counted depth 0) _ (λ right_bracket.
    explains_done _ (MakeDomain in_place left_bracket ranges right_bracket) (record { is = refl; proper = h2; counted = refl })))))

pub plain_type_explains : (size depth : ℕ) → Explains (Means spell_type IsProperType (counts_type depth)) (plain_type_by size depth)
plain_type_explains size depth =
    explains_part _ spell_plain IsProperPlain (counts_plain depth) (plain_by size depth) _ (plain_explains size depth) (λ plain h0.
    explains_part _ (spell_option spell_domain) (OptionIs IsProperDomain) (counts_option (counts_domain depth)) (option_by (is_at kind.In) (domain_by size depth)) _ (explains_option spell_domain IsProperDomain (counts_domain depth) (is_at kind.In) (domain_by size depth) (domain_explains size depth)) (λ domain h1.
    explains_done _ (TypePlain plain domain) (record { is = rw append-nil refl; proper = (h0, h1); counted = rw append-nil refl })))

pub named_type_explains : (size depth : ℕ) → Explains (Means spell_type IsProperType (counts_type depth)) (named_type_by size depth)
named_type_explains size depth =
    explains_part _ spell_type_name IsAny (counts_type_name depth) (type_name_by depth) _ (type_name_explains depth) (λ name h0.
    explains_part _ (spell_option spell_domain) (OptionIs IsProperDomain) (counts_option (counts_domain depth)) (option_by (is_at kind.In) (domain_by size depth)) _ (explains_option spell_domain IsProperDomain (counts_domain depth) (is_at kind.In) (domain_by size depth) (domain_explains size depth)) (λ domain h1.
    explains_done _ (TypeNamed name domain) (record { is = rw append-nil refl; proper = h1; counted = rw append-nil refl })))

pub type_explains : (size depth : ℕ) → Explains (Means spell_type IsProperType (counts_type depth)) (type_by size depth)
type_explains size depth = explains_if_next (Means spell_type IsProperType (counts_type depth)) (next_is is_name) _ _ (named_type_explains size depth) (plain_type_explains size depth)
