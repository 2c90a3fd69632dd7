-- The tokens of a text end once, and their places rise.
use Rattle.std.proofs.Common.{◌≡◌, ◌≢◌, ℕ, ◌⊎◌, inl, inr, List, [], ◌∷◌, ◌++◌, map, pos, refl, ap, sym, subst, ◌∙◌, append_assoc, append-nil}
use Rattle.std.specs.List.{AllByRecursion}
use Rattle.pst_base.specs.declared.position.Place.{Place}
use Rattle.pst_token.specs.declared.kind.Kind.TheVariants as kind
use Rattle.pst_token.specs.declared.token.Token.{Token}
use Rattle.pst_token.specs.Spelling.{spelling_of}
use Rattle.pst_token.specs.Lexemes.{Lexeme, fixed, name, number, spelled, IsLexeme}
use Rattle.pst_token.specs.Parts.{Part, blank, comment, lexeme, bytes_of, text_of, Stand}
use Rattle.pst_token.specs.Tokens.{place_after, lexemes_after, IsTokenOf, AreTokensOf, token_of, AreTokens}
use Rattle.pst_base.specs.Places.{IsBefore}
use Rattle.pst_token.specs.Order.{AreRising}
use Rattle.pst_token.specs.Laws.{EndsOnce}
use Rattle.pst_token.proofs.Places.{place_after-later, transitive}
use Rattle.pst_token.proofs.Readings.{some_bytes}

abbrev places_of : List (Lexeme × Place) → List Place
places_of ls = map (λ l. l.1) ls

-- the places of the lexemes and of what stands behind them
abbrev places_to : ℕ → List ℕ → List Part → List Place
places_to file before parts = places_of (lexemes_after file before parts) ++ place_after file (before ++ text_of parts) ∷ []

-- rising places, none of which is before the first
record RiseFrom (p : Place) (places : List Place) : Type 0 where
  first : Place
  others : List Place
  split : places ≡ first ∷ others
  at_least : (first ≡ p) ⊎ IsBefore p first
  rising : AreRising places

from_earlier : (p q : Place) (places : List Place) → IsBefore p q → RiseFrom q places → RiseFrom p places
from_earlier p q places earlier from = record {
  first = from.first;
  others = from.others;
  split = from.split;
  at_least =
      elim from.at_least [
        | inl same ↦ inr (subst (IsBefore p) (sym same) earlier)
        | inr later ↦ inr (transitive p q from.first earlier later)
      ];
  rising = from.rising;
}

-- a place in front of later ones
in_front : (p q : Place) (places : List Place) → IsBefore p q → RiseFrom q places → RiseFrom p (p ∷ places)
in_front p q places earlier from =
    let later : IsBefore p from.first =
    elim from.at_least [
      | inl same ↦ subst (IsBefore p) (sym same) earlier
      | inr behind ↦ transitive p q from.first earlier behind
    ] in
    record {
      first = p;
      others = places;
      split = refl;
      at_least = inl refl;
      rising = subst (λ ps. AreRising (p ∷ ps)) (sym from.split) (later, subst AreRising from.split from.rising);
    }

rise : (file : ℕ) (before : List ℕ) (parts : List Part) (rest : List ℕ) → Stand parts rest → RiseFrom (place_after file before) (places_to file before parts)
rise file before [] rest stand =
    record { first = place_after file (before ++ []); others = []; split = refl; at_least = inl (ap (place_after file) (append-nil before)); rising = tt }
rise file before (blank b ∷ parts) rest (stands, narrow, stand) =
    subst (λ bs. RiseFrom (place_after file before) (places_of (lexemes_after file (before ++ b ∷ []) parts) ++ place_after file bs ∷ [])) (append_assoc before (b ∷ []) (text_of parts))
    (from_earlier (place_after file before) (place_after file (before ++ b ∷ [])) (places_to file (before ++ b ∷ []) parts) (place_after-later file before (b ∷ []) (some_bytes (blank b) (text_of parts ++ rest) stands)) (rise file (before ++ b ∷ []) parts rest stand))
rise file before (comment bytes ∷ parts) rest (stands, narrow, stand) =
    subst (λ bs. RiseFrom (place_after file before) (places_of (lexemes_after file (before ++ bytes) parts) ++ place_after file bs ∷ [])) (append_assoc before bytes (text_of parts))
    (from_earlier (place_after file before) (place_after file (before ++ bytes)) (places_to file (before ++ bytes) parts) (place_after-later file before bytes (some_bytes (comment bytes) (text_of parts ++ rest) stands)) (rise file (before ++ bytes) parts rest stand))
rise file before (lexeme l ∷ parts) rest (stands, narrow, stand) =
    subst (λ bs. RiseFrom (place_after file before) (place_after file before ∷ (places_of (lexemes_after file (before ++ spelled l) parts) ++ place_after file bs ∷ []))) (append_assoc before (spelled l) (text_of parts))
    (in_front (place_after file before) (place_after file (before ++ spelled l)) (places_to file (before ++ spelled l) parts) (place_after-later file before (spelled l) (some_bytes (lexeme l) (text_of parts ++ rest) stands)) (rise file (before ++ spelled l) parts rest stand))

-- a token stands where its lexeme does
pub token_place : (names : List (List ℕ)) (l : Lexeme) (place : Place) (t : Token) → IsTokenOf names l place t → t.place ≡ place
token_place names (fixed k) place t is = ap (λ (u : Token). u.place) is
token_place names (name bytes) place t (id, _, is) = ap (λ (u : Token). u.place) is
token_place names (number bytes value) place t is = ap (λ (u : Token). u.place) is

token_places : (names : List (List ℕ)) (ls : List (Lexeme × Place)) (ts : List Token) → AreTokensOf names ls ts → map (λ (t : Token). t.place) ts ≡ places_of ls
token_places names [] [] h = refl
token_places names [] (t ∷ ts) h = absurd h
token_places names (l ∷ ls) [] h = absurd h
token_places names (l ∷ ls) (t ∷ ts) h = λ i. token_place names l.0 l.1 t h.0 i ∷ token_places names ls ts h.1 i

map-push : {X Y : Type 0} (f : X → Y) (xs : List X) (x : X) → map f (xs ++ x ∷ []) ≡ map f xs ++ f x ∷ []
map-push f [] x = refl
map-push f (y ∷ xs) x = ap (λ ys. f y ∷ ys) (map-push f xs x)

pub rising : (file : ℕ) (names : List (List ℕ)) (text : List ℕ) (tokens : List Token) → AreTokens file names text tokens → AreRising (map (λ (t : Token). t.place) tokens)
rising file names text tokens h =
    let from = rise file [] h.parts [] h.reading.front.stand in
    let whole : text_of h.parts ≡ text = sym (append-nil (text_of h.parts)) ∙ sym h.reading.front.made in
    let places : map (λ (t : Token). t.place) tokens ≡ places_to file [] h.parts =
    ap (map (λ (t : Token). t.place)) h.all ∙ map-push (λ (t : Token). t.place) h.before_end (token_of kind.End 0 (pos 0) (place_after file text))
    ∙ (λ i. token_places names (lexemes_after file [] h.parts) h.before_end h.each i ++ place_after file (sym whole i) ∷ []) in
    subst AreRising (sym places) from.rising

-- the lexemes among parts that stand are spelled by the rules
pub are_lexemes : (file : ℕ) (before : List ℕ) (parts : List Part) (rest : List ℕ) → Stand parts rest → AllByRecursion (λ (l : Lexeme × Place). IsLexeme l.0) (lexemes_after file before parts)
are_lexemes file before [] rest stand = tt
are_lexemes file before (blank b ∷ parts) rest (_, _, stand) = are_lexemes file (before ++ b ∷ []) parts rest stand
are_lexemes file before (comment bytes ∷ parts) rest (_, _, stand) = are_lexemes file (before ++ bytes) parts rest stand
are_lexemes file before (lexeme l ∷ parts) rest (stands, _, stand) = (stands.spells, are_lexemes file (before ++ spelled l) parts rest stand)

-- a lexeme's token is no `End`
token_no_end : (names : List (List ℕ)) (l : Lexeme) (place : Place) (t : Token) → IsLexeme l → IsTokenOf names l place t → t.kind ≢ kind.End
token_no_end names (fixed k) place t some is ends =
    let same : k ≡ kind.End = sym (ap (λ (u : Token). u.kind) is) ∙ ends in
    some (ap spelling_of same)
token_no_end names (name bytes) place t _ (id, _, is) ends = let same : kind.Name ≡ kind.End = sym (ap (λ (u : Token). u.kind) is) ∙ ends in cc
token_no_end names (number bytes value) place t _ is ends = let same : kind.Number ≡ kind.End = sym (ap (λ (u : Token). u.kind) is) ∙ ends in cc

no_end : (names : List (List ℕ)) (ls : List (Lexeme × Place)) (ts : List Token) → AllByRecursion (λ (l : Lexeme × Place). IsLexeme l.0) ls → AreTokensOf names ls ts → AllByRecursion (λ (t : Token). t.kind ≢ kind.End) ts
no_end names [] [] are h = tt
no_end names [] (t ∷ ts) are h = absurd h
no_end names (l ∷ ls) [] are h = absurd h
no_end names (l ∷ ls) (t ∷ ts) are h = (token_no_end names l.0 l.1 t are.0 h.0, no_end names ls ts are.1 h.1)

pub ends_once : (file : ℕ) (names : List (List ℕ)) (text : List ℕ) (tokens : List Token) → AreTokens file names text tokens → EndsOnce tokens
ends_once file names text tokens h = record {
  before_end = h.before_end;
  last = token_of kind.End 0 (pos 0) (place_after file text);
  all = h.all;
  is_end = refl;
  only = no_end names (lexemes_after file [] h.parts) h.before_end (are_lexemes file [] h.parts [] h.reading.front.stand) h.each;
}
