-- Token lists grow at their end, with the parts of a text and with the table of names.
use Rattle.std.proofs.Common.{◌≡◌, ◌≢◌, ℕ, suc, zero, ◌+◌, ◌<◌, ◌≤◌, ◌⊎◌, inl, inr, List, [], ◌∷◌, ◌++◌, length, map, Some, pos, refl, ap, sym, subst, ◌∙◌, arith, length-append, append_assoc, append-nil}
use Rattle.std.specs.Prelude.{slice_get}
use Rattle.std.proofs.lemmas.List.Concat.{flat_map-append}
use Rattle.std.proofs.lemmas.List.{nil_from_length}
use Rattle.pst_base.specs.declared.position.Place.{Place}
use Rattle.pst_token.specs.declared.token.Token.{Token}
use Rattle.pst_token.specs.Lexemes.{Lexeme, fixed, name, number, spelled}
use Rattle.pst_token.specs.Parts.{Part, blank, comment, lexeme, bytes_of, text_of, MayStand, IsNarrow, Stand, BeginsWith}
use Rattle.pst_token.specs.Tokens.{place_after, lexemes_after, lexemes_of, IsTokenOf, AreTokensOf, token_of}

pub text_of-append : (ps qs : List Part) → text_of (ps ++ qs) ≡ text_of ps ++ text_of qs
text_of-append ps qs = flat_map-append bytes_of ps qs

pub text_of-push : (ps : List Part) (p : Part) → text_of (ps ++ p ∷ []) ≡ text_of ps ++ bytes_of p
text_of-push ps p = text_of-append ps (p ∷ []) ∙ ap (λ bs. text_of ps ++ bs) (append-nil (bytes_of p))

-- one part more, behind those that stand
pub stand-push : (ps : List Part) (p : Part) (rest : List ℕ) → Stand ps (bytes_of p ++ rest) → MayStand p rest → IsNarrow p → Stand (ps ++ p ∷ []) rest
stand-push [] p rest before stands narrow = (stands, narrow, tt)
stand-push (q ∷ ps) p rest (q_stands, q_narrow, before) stands narrow = (
  subst (MayStand q) (sym (append_assoc (text_of ps) (bytes_of p) rest) ∙ ap (λ bs. bs ++ rest) (sym (text_of-push ps p))) q_stands,
  q_narrow,
  stand-push ps p rest before stands narrow,
)

pub begins-push : (text : List ℕ) (ps : List Part) (p : Part) (rest : List ℕ) → BeginsWith text ps (bytes_of p ++ rest) → MayStand p rest → IsNarrow p → BeginsWith text (ps ++ p ∷ []) rest
begins-push text ps p rest front stands narrow = record {
  made = front.made ∙ sym (append_assoc (text_of ps) (bytes_of p) rest) ∙ ap (λ bs. bs ++ rest) (sym (text_of-push ps p));
  stand = stand-push ps p rest front.stand stands narrow;
}

-- the lexemes of parts, and of more parts behind them
pub lexemes_after-append : (file : ℕ) (before : List ℕ) (ps qs : List Part)
    → lexemes_after file before (ps ++ qs) ≡ lexemes_after file before ps ++ lexemes_after file (before ++ text_of ps) qs
lexemes_after-append file before [] qs = ap (λ bs. lexemes_after file bs qs) (sym (append-nil before))
lexemes_after-append file before (blank b ∷ ps) qs =
    lexemes_after-append file (before ++ b ∷ []) ps qs
    ∙ ap (λ bs. lexemes_after file (before ++ b ∷ []) ps ++ lexemes_after file bs qs) (append_assoc before (b ∷ []) (text_of ps))
lexemes_after-append file before (comment bytes ∷ ps) qs =
    lexemes_after-append file (before ++ bytes) ps qs
    ∙ ap (λ bs. lexemes_after file (before ++ bytes) ps ++ lexemes_after file bs qs) (append_assoc before bytes (text_of ps))
lexemes_after-append file before (lexeme l ∷ ps) qs =
    ap (λ ls. (l, place_after file before) ∷ ls) (
    lexemes_after-append file (before ++ spelled l) ps qs
    ∙ ap (λ bs. lexemes_after file (before ++ spelled l) ps ++ lexemes_after file bs qs) (append_assoc before (spelled l) (text_of ps))
    )

-- the lexemes once a part is added
pub lexemes_of-push : (file : ℕ) (ps : List Part) (p : Part) → lexemes_of file (ps ++ p ∷ []) ≡ lexemes_of file ps ++ lexemes_after file (text_of ps) (p ∷ [])
lexemes_of-push file ps p = lexemes_after-append file [] ps (p ∷ [])

pub tokens-append : (names : List (List ℕ)) (ls ms : List (Lexeme × Place)) (ts us : List Token) → AreTokensOf names ls ts → AreTokensOf names ms us → AreTokensOf names (ls ++ ms) (ts ++ us)
tokens-append names [] ms [] us h k = k
tokens-append names [] ms (t ∷ ts) us h k = absurd h
tokens-append names (l ∷ ls) ms [] us h k = absurd h
tokens-append names (l ∷ ls) ms (t ∷ ts) us h k = (h.0, tokens-append names ls ms ts us h.1 k)

pub length-tokens : (names : List (List ℕ)) (ls : List (Lexeme × Place)) (ts : List Token) → AreTokensOf names ls ts → length ts ≡ length ls
length-tokens names [] [] h = refl
length-tokens names [] (t ∷ ts) h = absurd h
length-tokens names (l ∷ ls) [] h = absurd h
length-tokens names (l ∷ ls) (t ∷ ts) h = ap suc (length-tokens names ls ts h.1)

-- a text keeps its number in a longer table
pub slice_get-longer : {X : Type 0} (xs more : List X) (i : ℕ) (x : X) → slice_get xs i ≡ Some x → slice_get (xs ++ more) i ≡ Some x
slice_get-longer [] more i x h = cc
slice_get-longer (y ∷ xs) more zero x h = h
slice_get-longer (y ∷ xs) more (suc i) x h = slice_get-longer xs more i x h

token-longer : (names more : List (List ℕ)) (l : Lexeme) (place : Place) (t : Token) → IsTokenOf names l place t → IsTokenOf (names ++ more) l place t
token-longer names more (fixed k) place t h = h
token-longer names more (name bytes) place t (id, there, is) = (id, slice_get-longer names more id bytes there, is)
token-longer names more (number bytes value) place t h = h

pub tokens-longer : (names more : List (List ℕ)) (ls : List (Lexeme × Place)) (ts : List Token) → AreTokensOf names ls ts → AreTokensOf (names ++ more) ls ts
tokens-longer names more [] [] h = tt
tokens-longer names more [] (t ∷ ts) h = absurd h
tokens-longer names more (l ∷ ls) [] h = absurd h
tokens-longer names more (l ∷ ls) (t ∷ ts) h = (token-longer names more l.0 l.1 t h.0, tokens-longer names more ls ts h.1)
