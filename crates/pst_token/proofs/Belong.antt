-- The tokens of a text stand in its file, and their names have numbers of the table.
use Rattle.std.proofs.Common.{◌≡◌, ℕ, ◌<◌, List, [], ◌∷◌, ◌++◌, length, pos, refl, ap, sym, subst, ◌∙◌}
use Rattle.std.specs.List.{AllByRecursion}
use Rattle.std.proofs.lemmas.Option.{slice_get_within}
use Rattle.pst_base.specs.declared.position.Place.{Place}
use Rattle.pst_token.specs.declared.kind.Kind.{Kind}
use Rattle.pst_token.specs.declared.kind.Kind.TheVariants as kind
use Rattle.pst_token.specs.declared.token.Token.{Token}
use Rattle.pst_token.specs.Spelling.{spelling_of}
use Rattle.pst_token.specs.Lexemes.{Lexeme, fixed, name, number, spelled, IsLexeme}
use Rattle.pst_token.specs.Parts.{Part, blank, comment, lexeme}
use Rattle.pst_token.specs.Tokens.{place_after, lexemes_after, lexemes_of, IsTokenOf, AreTokensOf, token_of, AreTokens}
use Rattle.pst_token.specs.Laws.{HasItsNumber, TokensBelong}
use Rattle.pst_token.proofs.Ordered.{are_lexemes, token_place}

-- what is asked of each token
abbrev Belongs : ℕ → List (List ℕ) → Token → Type 0
Belongs file names t = (t.place.file ≡ file) × HasItsNumber names t

-- the lexemes stand in the file
in_file : (file : ℕ) (before : List ℕ) (parts : List Part) → AllByRecursion (λ (l : Lexeme × Place). l.1.file ≡ file) (lexemes_after file before parts)
in_file file before [] = tt
in_file file before (blank b ∷ parts) = in_file file (before ++ b ∷ []) parts
in_file file before (comment bytes ∷ parts) = in_file file (before ++ bytes) parts
in_file file before (lexeme l ∷ parts) = (refl, in_file file (before ++ spelled l) parts)

token_number : (names : List (List ℕ)) (l : Lexeme) (place : Place) (t : Token) → IsLexeme l → IsTokenOf names l place t → HasItsNumber names t
token_number names (fixed k) place t some is is_name =
    let same : k ≡ kind.Name = sym (ap (λ (u : Token). u.kind) is) ∙ is_name in
    absurd (some (ap spelling_of same))
token_number names (name bytes) place t _ (id, there, is) is_name =
    subst (λ n. n < length names) (sym (ap (λ (u : Token). u.name.0) is)) (slice_get_within names id bytes there)
token_number names (number bytes value) place t _ is is_name = let same : kind.Number ≡ kind.Name = sym (ap (λ (u : Token). u.kind) is) ∙ is_name in cc

all_belong : (file : ℕ) (names : List (List ℕ)) (ls : List (Lexeme × Place)) (ts : List Token) → AllByRecursion (λ (l : Lexeme × Place). IsLexeme l.0) ls
    → AllByRecursion (λ (l : Lexeme × Place). l.1.file ≡ file) ls → AreTokensOf names ls ts → AllByRecursion (Belongs file names) ts
all_belong file names [] [] are inside h = tt
all_belong file names [] (t ∷ ts) are inside h = absurd h
all_belong file names (l ∷ ls) [] are inside h = absurd h
all_belong file names (l ∷ ls) (t ∷ ts) are inside h =
    ((ap (λ (p : Place). p.file) (token_place names l.0 l.1 t h.0) ∙ inside.0, token_number names l.0 l.1 t are.0 h.0), all_belong file names ls ts are.1 inside.1 h.1)

all_push : {X : Type 0} (P : X → Type 0) (xs : List X) (x : X) → AllByRecursion P xs → P x → AllByRecursion P (xs ++ x ∷ [])
all_push P [] x h p = (p, tt)
all_push P (y ∷ xs) x h p = (h.0, all_push P xs x h.1 p)

firsts : (file : ℕ) (names : List (List ℕ)) (ts : List Token) → AllByRecursion (Belongs file names) ts → AllByRecursion (λ (t : Token). t.place.file ≡ file) ts × AllByRecursion (HasItsNumber names) ts
firsts file names [] h = (tt, tt)
firsts file names (t ∷ ts) h = let (files, numbers) = firsts file names ts h.1 in ((h.0.0, files), (h.0.1, numbers))

pub belong : TokensBelong
belong file names text tokens h =
    let before = all_belong file names (lexemes_of file h.parts) h.before_end (are_lexemes file [] h.parts [] h.reading.front.stand) (in_file file [] h.parts) h.each in
    let last : Token = token_of kind.End 0 (pos 0) (place_after file text) in
    let all : AllByRecursion (Belongs file names) (h.before_end ++ last ∷ []) = all_push (Belongs file names) h.before_end last before (refl, λ is_name. cc) in
    firsts file names tokens (subst (AllByRecursion (Belongs file names)) (sym h.all) all)
