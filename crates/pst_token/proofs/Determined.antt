-- A text has one token list in a table of different names.
use Rattle.std.proofs.Common.{◌≡◌, ℕ, zero, suc, Bool, true, false, List, [], ◌∷◌, ◌++◌, Some, refl, ap, sym, subst, ◌∙◌, pos}
use Rattle.std.specs.Prelude.{slice_get}
use Rattle.std.specs.List.{AllByRecursion, IsDistinct}
use Rattle.std.specs.Str.{bytes_eq}
use Rattle.std.proofs.lemmas.Bool.{both_ways}
use Rattle.std.proofs.lemmas.Slice.Eq.{bytes_eq-Decides}
use Rattle.pst_base.specs.declared.position.Place.{Place}
use Rattle.pst_base.specs.Names.{AreDifferent}
use Rattle.pst_token.specs.declared.kind.Kind.TheVariants as kind
use Rattle.pst_token.specs.declared.token.Token.{Token}
use Rattle.pst_token.specs.Lexemes.{Lexeme, fixed, name, number}
use Rattle.pst_token.specs.Parts.{Part}
use Rattle.pst_token.specs.Tokens.{place_after, lexemes_of, IsTokenOf, AreTokensOf, token_of, AreTokens, complete}
use Rattle.pst_token.proofs.Readings.{one_reading}

-- an element behind a text that differs from all of them differs from it
differs_at : (text : List ℕ) (names : List (List ℕ)) (i : ℕ) → AllByRecursion (λ other. bytes_eq text other ≡ false) names → slice_get names i ≡ Some text → ⊥
differs_at text [] i all there = cc
differs_at text (other ∷ names) zero all there =
    let same : text ≡ other = cc in
    both_ways (bytes_eq text other) all.0 ((bytes_eq-Decides text other).1 same)
differs_at text (other ∷ names) (suc i) all there = differs_at text names i all.1 there

-- a text has one number
one_number : (names : List (List ℕ)) (text : List ℕ) (i j : ℕ) → AreDifferent names → slice_get names i ≡ Some text → slice_get names j ≡ Some text → i ≡ j
unfolding IsDistinct
one_number [] text i j different at_i at_j = cc
one_number (other ∷ names) text zero zero different at_i at_j = refl
one_number (other ∷ names) text zero (suc j) different at_i at_j =
    let same : other ≡ text = cc in
    absurd (differs_at other names j different.0 (at_j ∙ ap Some (sym same)))
one_number (other ∷ names) text (suc i) zero different at_i at_j =
    let same : other ≡ text = cc in
    absurd (differs_at other names i different.0 (at_i ∙ ap Some (sym same)))
one_number (other ∷ names) text (suc i) (suc j) different at_i at_j = ap suc (one_number names text i j different.1 at_i at_j)

one_token : (names : List (List ℕ)) (l : Lexeme) (place : Place) (t u : Token) → AreDifferent names → IsTokenOf names l place t → IsTokenOf names l place u → t ≡ u
one_token names (fixed k) place t u different h k_is = h ∙ sym k_is
one_token names (name bytes) place t u different (i, at_i, is) (j, at_j, is_too) =
    is ∙ ap (λ id. token_of kind.Name id (pos 0) place) (one_number names bytes i j different at_i at_j) ∙ sym is_too
one_token names (number bytes value) place t u different h k_is = h ∙ sym k_is

one_list : (names : List (List ℕ)) (ls : List (Lexeme × Place)) (ts us : List Token) → AreDifferent names → AreTokensOf names ls ts → AreTokensOf names ls us → ts ≡ us
one_list names [] [] [] different h k = refl
one_list names [] [] (u ∷ us) different h k = absurd k
one_list names [] (t ∷ ts) us different h k = absurd h
one_list names (l ∷ ls) [] us different h k = absurd h
one_list names (l ∷ ls) (t ∷ ts) [] different h k = absurd k
one_list names (l ∷ ls) (t ∷ ts) (u ∷ us) different h k = λ i. one_token names l.0 l.1 t u different h.0 k.0 i ∷ one_list names ls ts us different h.1 k.1 i

pub determined : (file : ℕ) (names : List (List ℕ)) (text : List ℕ) (tokens others : List Token)
    → AreDifferent names → AreTokens file names text tokens → AreTokens file names text others → tokens ≡ others
determined file names text tokens others different h k =
    let (same, _, _) = one_reading text h.parts k.parts [] [] complete complete h.reading k.reading in
    let before : h.before_end ≡ k.before_end = one_list names (lexemes_of file k.parts) h.before_end k.before_end different (subst (λ parts. AreTokensOf names (lexemes_of file parts) h.before_end) same h.each) k.each in
    h.all ∙ ap (λ ts. ts ++ token_of kind.End 0 (pos 0) (place_after file text) ∷ []) before ∙ sym k.all
