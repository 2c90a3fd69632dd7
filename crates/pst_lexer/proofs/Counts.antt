-- How many tokens parts have.
use Rattle.std.proofs.Common.{◌≡◌, ℕ, suc, ◌+◌, ◌≤◌, List, [], ◌∷◌, ◌++◌, length, refl, ap, sym, ◌∙◌, arith, length-append}
use Rattle.pst_base.specs.declared.position.Place.{Place}
use Rattle.pst_token.specs.declared.token.Token.{Token}
use Rattle.pst_token.specs.Lexemes.{Lexeme, spelled}
use Rattle.pst_token.specs.Parts.{Part, blank, comment, lexeme}
use Rattle.pst_token.specs.Tokens.{lexemes_after, lexemes_of, AreTokensOf}
use Rattle.pst_token.proofs.TokenLists.{length-tokens}
use Rattle.pst_lexer.specs.Fault.{token_count}

pub length-lexemes_after : (file : ℕ) (before : List ℕ) (parts : List Part) → length (lexemes_after file before parts) ≡ token_count parts
length-lexemes_after file before [] = refl
length-lexemes_after file before (blank b ∷ parts) = length-lexemes_after file (before ++ b ∷ []) parts
length-lexemes_after file before (comment bytes ∷ parts) = length-lexemes_after file (before ++ bytes) parts
length-lexemes_after file before (lexeme l ∷ parts) = ap suc (length-lexemes_after file (before ++ spelled l) parts)

pub count-tokens : (names : List (List ℕ)) (file : ℕ) (parts : List Part) (tokens : List Token) → AreTokensOf names (lexemes_of file parts) tokens → length tokens ≡ token_count parts
count-tokens names file parts tokens h = length-tokens names (lexemes_of file parts) tokens h ∙ length-lexemes_after file [] parts

pub token_count-append : (ps qs : List Part) → token_count (ps ++ qs) ≡ token_count ps + token_count qs
token_count-append [] qs = omega arith
token_count-append (blank b ∷ ps) qs = token_count-append ps qs
token_count-append (comment bytes ∷ ps) qs = token_count-append ps qs
token_count-append (lexeme l ∷ ps) qs = let later = token_count-append ps qs in omega arith
