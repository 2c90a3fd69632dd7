-- Plain types read what they spell again.
use Rattle.pst_ast.specs.ExpressionSpelling.{spell_expr}
use Rattle.pst_ast.specs.Limits.{counted}
use Rattle.pst_ast.specs.Marks.{mark, spell_option}
use Rattle.pst_ast.specs.SharedLimits.{counts_low, counts_width, counts_plain}
use Rattle.pst_ast.specs.SharedProper.{IsProperLow, IsProperWidth, IsProperPlain}
use Rattle.pst_ast.specs.SharedSpelling.{spell_low, spell_width, spell_plain}
use Rattle.pst_ast.specs.SharedTree.{LowTree, WidthTree, PlainTree, MakeLow, MakeWidth, PlainInt, PlainBit, PlainBool}
use Rattle.pst_base.specs.declared.position.Place.{Place}
use Rattle.pst_parse_part.proofs.Following.{other_mark, next_option_in, expr_rereads, reread_empty}
use Rattle.pst_parse_operator.proofs.Stops.{colon_closes, IsNo, Separates, right_bracket_closes}
use Rattle.pst_parse_part.specs.Plain.{int_by, low_by, plain_by, width_by, bit_by}
use Rattle.pst_parse_expr.specs.Constraints.{outermost_at, is_at}
use Rattle.pst_reading.proofs.Rereading.{Rereads, Anything, reread_done, narrower, reread_mark, reread_part, reread_last, reread_choice, EndsOption, reread_option}
use Rattle.pst_reading.proofs.Tokens.{mark_is_so}
use Rattle.pst_reading.specs.Options.{option_by}
use Rattle.pst_reading.specs.Parser.{next}
use Rattle.pst_token.specs.declared.kind.Kind.TheVariants as kind
use Rattle.pst_token.specs.declared.token.Token.{Token}
use Rattle.std.proofs.Common.{refl, arith, length-append, ℕ, suc, ◌≤◌, ◌≡◌, true, false, List, [], ◌∷◌, ◌++◌, Option, Some, length}

pub low_rereads : (size depth : ℕ) (x : LowTree) → IsProperLow x → length (spell_low x) ≤ size → Rereads (Separates 0) (low_by size depth) (spell_low x) (counts_low depth x) x
low_rereads size depth (MakeLow colon expr) proper short =
    reread_mark _ kind.Colon (counted depth 0) _ colon _ _ _
    (reread_last _ (outermost_at (suc size) depth) _ _ _ expr _ (expr_rereads size depth expr proper (omega (arith, short))) refl)

pub low_begins : (E : Option Token → Type 0) → ((place : Place) → E (Some (mark kind.Colon place))) → (x : LowTree) (us : List Token) → E (next (spell_low x ++ us))
low_begins E h (MakeLow colon expr) us = h colon

pub width_begins : (E : Option Token → Type 0) → ((place : Place) → E (Some (mark kind.LeftBracket place))) → (x : WidthTree) (us : List Token) → E (next (spell_width x ++ us))
width_begins E h (MakeWidth left_bracket expr low right_bracket) us = h left_bracket

pub width_rereads : (size depth : ℕ) (x : WidthTree) → IsProperWidth x → length (spell_width x) ≤ size → Rereads Anything (width_by size depth) (spell_width x) (counts_width depth x) x
width_rereads size depth (MakeWidth left_bracket expr low right_bracket) proper short =
    let long = length-append (spell_expr expr) (spell_option spell_low low ++ mark kind.RightBracket right_bracket ∷ []) in
    let long2 = length-append (spell_option spell_low low) (mark kind.RightBracket right_bracket ∷ []) in
    reread_mark _ kind.LeftBracket (counted depth 0) _ left_bracket _ _ _
    (reread_part _ (Separates 0) (outermost_at (suc size) depth) _ (spell_expr expr) _ expr _ _ _ (expr_rereads size depth expr proper.0 (omega (arith, short, long, long2))) (λ more m. (next_option_in (Separates 0) spell_low low (mark kind.RightBracket right_bracket ∷ []) more (λ x us. low_begins (Separates 0) (λ p. (colon_closes p)) x us) (right_bracket_closes right_bracket)))
    (reread_part _ (EndsOption (is_at kind.Colon) (Separates 0)) (option_by (is_at kind.Colon) (low_by size depth)) _ (spell_option spell_low low) _ low _ _ _ (reread_option spell_low IsProperLow (counts_low depth) (is_at kind.Colon) (Separates 0) (low_by size depth) size (λ x p n. (low_rereads size depth x p n)) (λ x us. low_begins (λ n. is_at kind.Colon n ≡ true) (mark_is_so kind.Colon) x us) low proper.1 (omega (arith, short, long, long2))) (λ more m. ((other_mark kind.Colon kind.RightBracket right_bracket refl), (right_bracket_closes right_bracket)))
    (reread_mark _ kind.RightBracket (counted depth 0) _ right_bracket _ _ _
    (reread_done _ _))))

int_rereads : (size depth : ℕ) (int : Place) (width : Option WidthTree) → IsProperPlain (PlainInt int width) → length (spell_plain (PlainInt int width)) ≤ size → Rereads (IsNo kind.LeftBracket) (int_by size depth) (spell_plain (PlainInt int width)) (counts_plain depth (PlainInt int width)) (PlainInt int width)
int_rereads size depth int width proper short =
    reread_mark _ kind.Int (counted depth 0) _ int _ _ _
    (reread_last _ (option_by (is_at kind.LeftBracket) (width_by size depth)) _ _ _ width _ (narrower (EndsOption (is_at kind.LeftBracket) Anything) (IsNo kind.LeftBracket) _ _ _ _ (λ n m. (m, tt)) (reread_option spell_width IsProperWidth (counts_width depth) (is_at kind.LeftBracket) Anything (width_by size depth) size (λ x p n. (width_rereads size depth x p n)) (λ x us. width_begins (λ n. is_at kind.LeftBracket n ≡ true) (mark_is_so kind.LeftBracket) x us) width proper (omega (arith, short)))) refl)

bit_rereads : (size depth : ℕ) (bit : Place) (width : Option WidthTree) → IsProperPlain (PlainBit bit width) → length (spell_plain (PlainBit bit width)) ≤ size → Rereads (IsNo kind.LeftBracket) (bit_by size depth) (spell_plain (PlainBit bit width)) (counts_plain depth (PlainBit bit width)) (PlainBit bit width)
bit_rereads size depth bit width proper short =
    reread_mark _ kind.Bit (counted depth 0) _ bit _ _ _
    (reread_last _ (option_by (is_at kind.LeftBracket) (width_by size depth)) _ _ _ width _ (narrower (EndsOption (is_at kind.LeftBracket) Anything) (IsNo kind.LeftBracket) _ _ _ _ (λ n m. (m, tt)) (reread_option spell_width IsProperWidth (counts_width depth) (is_at kind.LeftBracket) Anything (width_by size depth) size (λ x p n. (width_rereads size depth x p n)) (λ x us. width_begins (λ n. is_at kind.LeftBracket n ≡ true) (mark_is_so kind.LeftBracket) x us) width proper (omega (arith, short)))) refl)

pub plain_rereads : (size depth : ℕ) (x : PlainTree) → IsProperPlain x → length (spell_plain x) ≤ size → Rereads (IsNo kind.LeftBracket) (plain_by size depth) (spell_plain x) (counts_plain depth x) x
plain_rereads size depth (PlainInt int width) proper short =
    reread_choice _ kind.Int _ _ _ _ _ true (λ rest m. mark_is_so kind.Int int)
    (int_rereads size depth int width proper short)
plain_rereads size depth (PlainBit bit width) proper short =
    reread_choice _ kind.Int _ _ _ _ _ false (λ rest m. other_mark kind.Int kind.Bit bit refl)
    (reread_choice _ kind.Bit _ _ _ _ _ true (λ rest m. mark_is_so kind.Bit bit)
    (bit_rereads size depth bit width proper short))
plain_rereads size depth (PlainBool place) proper short =
    reread_choice _ kind.Int _ _ _ _ _ false (λ rest m. other_mark kind.Int kind.Bool place refl)
    (reread_choice _ kind.Bit _ _ _ _ _ false (λ rest m. other_mark kind.Bit kind.Bool place refl)
    (reread_empty kind.Bool (counted depth 0) PlainBool place (IsNo kind.LeftBracket)))

pub plain_begins : (E : Option Token → Type 0) → ((place : Place) → E (Some (mark kind.Int place))) → ((place : Place) → E (Some (mark kind.Bit place))) → ((place : Place) → E (Some (mark kind.Bool place))) → (x : PlainTree) (us : List Token) → E (next (spell_plain x ++ us))
plain_begins E int_case bit_case bool_case (PlainInt int width) us = int_case int
plain_begins E int_case bit_case bool_case (PlainBit bit width) us = bit_case bit
plain_begins E int_case bit_case bool_case (PlainBool place) us = bool_case place
