-- What plain types explain.
use Rattle.pst_ast.specs.ExpressionLimits.{counts_expr}
use Rattle.pst_ast.specs.ExpressionProper.{IsProperExpr}
use Rattle.pst_ast.specs.ExpressionSpelling.{spell_expr}
use Rattle.pst_ast.specs.Limits.{counted, counts_option}
use Rattle.pst_ast.specs.Marks.{spell_option, OptionIs}
use Rattle.pst_ast.specs.SharedLimits.{counts_low, counts_width, counts_plain}
use Rattle.pst_ast.specs.SharedProper.{IsProperLow, IsProperWidth, IsProperPlain}
use Rattle.pst_ast.specs.SharedSpelling.{spell_low, spell_width, spell_plain}
use Rattle.pst_ast.specs.SharedTree.{MakeLow, MakeWidth, PlainInt, PlainBit, PlainBool}
use Rattle.pst_parse_part.proofs.ChoicesExplain.{explains_if_mark, explains_option, explains_empty}
use Rattle.pst_parse_part.specs.Plain.{int_by, low_by, plain_by, width_by, bit_by}
use Rattle.pst_parse_expr.proofs.Answering.{explains}
use Rattle.pst_parse_expr.specs.Constraints.{outermost_at, is_at}
use Rattle.pst_reading.proofs.Chains.{explains_mark, explains_part}
use Rattle.pst_reading.proofs.Explaining.{Means, Explains, explains_done}
use Rattle.pst_reading.specs.Options.{option_by}
use Rattle.pst_token.specs.declared.kind.Kind.TheVariants as kind
use Rattle.std.proofs.Common.{refl, append-nil, ℕ, suc}

pub low_explains : (size depth : ℕ) → Explains (Means spell_low IsProperLow (counts_low depth)) (low_by size depth)
low_explains size depth =
    explains_mark _ kind.Colon (counted depth 0) _ (λ colon.
    explains_part _ spell_expr IsProperExpr (counts_expr depth 0) (outermost_at (suc size) depth) _ (explains depth (suc size)) (λ expr h1.
    explains_done _ (MakeLow colon expr) (record { is = rw append-nil refl; proper = h1; counted = rw append-nil refl })))

pub width_explains : (size depth : ℕ) → Explains (Means spell_width IsProperWidth (counts_width depth)) (width_by size depth)
width_explains size depth =
    explains_mark _ kind.LeftBracket (counted depth 0) _ (λ left_bracket.
    explains_part _ spell_expr IsProperExpr (counts_expr depth 0) (outermost_at (suc size) depth) _ (explains depth (suc size)) (λ expr h1.
    explains_part _ (spell_option spell_low) (OptionIs IsProperLow) (counts_option (counts_low depth)) (option_by (is_at kind.Colon) (low_by size depth)) _ (explains_option spell_low IsProperLow (counts_low depth) (is_at kind.Colon) (low_by size depth) (low_explains size depth)) (λ low h2.
    explains_mark _ kind.RightBracket (counted depth 0) _ (λ right_bracket.
    explains_done _ (MakeWidth left_bracket expr low right_bracket) (record { is = refl; proper = (h1, h2); counted = refl })))))

pub int_explains : (size depth : ℕ) → Explains (Means spell_plain IsProperPlain (counts_plain depth)) (int_by size depth)
int_explains size depth =
    explains_mark _ kind.Int (counted depth 0) _ (λ int.
    explains_part _ (spell_option spell_width) (OptionIs IsProperWidth) (counts_option (counts_width depth)) (option_by (is_at kind.LeftBracket) (width_by size depth)) _ (explains_option spell_width IsProperWidth (counts_width depth) (is_at kind.LeftBracket) (width_by size depth) (width_explains size depth)) (λ width h1.
    explains_done _ (PlainInt int width) (record { is = rw append-nil refl; proper = h1; counted = rw append-nil refl })))

pub bit_explains : (size depth : ℕ) → Explains (Means spell_plain IsProperPlain (counts_plain depth)) (bit_by size depth)
bit_explains size depth =
    explains_mark _ kind.Bit (counted depth 0) _ (λ bit.
    explains_part _ (spell_option spell_width) (OptionIs IsProperWidth) (counts_option (counts_width depth)) (option_by (is_at kind.LeftBracket) (width_by size depth)) _ (explains_option spell_width IsProperWidth (counts_width depth) (is_at kind.LeftBracket) (width_by size depth) (width_explains size depth)) (λ width h1.
    explains_done _ (PlainBit bit width) (record { is = rw append-nil refl; proper = h1; counted = rw append-nil refl })))

pub plain_explains : (size depth : ℕ) → Explains (Means spell_plain IsProperPlain (counts_plain depth)) (plain_by size depth)
plain_explains size depth =
    let M = Means spell_plain IsProperPlain (counts_plain depth) in
    explains_if_mark M kind.Int _ _ (int_explains size depth)
    (explains_if_mark M kind.Bit _ _ (bit_explains size depth)
    (explains_empty M kind.Bool (counted depth 0) PlainBool (λ p. record { is = refl; proper = tt; counted = refl })))
