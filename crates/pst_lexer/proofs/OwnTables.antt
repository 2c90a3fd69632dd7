-- A text has one own table, and in it one list of tokens.
use Rattle.std.proofs.Common.{◌≡◌, ◌≢◌, ◌∙◌, ℕ, zero, suc, ◌+◌, ◌<◌, ◌≤◌, ◌⊎◌, inl, inr, Bool, true, false, List, [], ◌∷◌, ◌++◌, length, ⊎_elim, refl, ap, sym, subst, arith, pos}
use Rattle.std.specs.Prelude.{slice_get, Some, None}
use Rattle.std.specs.List.{AllByRecursion, IsDistinct}
use Rattle.std.specs.Str.{bytes_eq}
use Rattle.std.proofs.lemmas.Bool.{both_ways, cases_lt}
use Rattle.std.proofs.lemmas.Slice.Eq.{bytes_eq-Decides}
use Rattle.pst_base.specs.declared.position.Place.{Place}
use Rattle.pst_base.specs.Names.{AreDifferent}
use Rattle.pst_token.specs.declared.kind.Kind.TheVariants as kind
use Rattle.pst_token.specs.declared.token.Token.{Token}
use Rattle.pst_token.specs.Spelling.{spelling_of}
use Rattle.pst_token.specs.Lexemes.{Lexeme, fixed, name, number, IsLexeme}
use Rattle.pst_token.specs.Tokens.{place_after, lexemes_of, IsTokenOf, AreTokensOf, token_of, complete, AreTokens}
use Rattle.pst_token.proofs.Readings.{one_reading}
use Rattle.pst_token.proofs.Ordered.{are_lexemes}
use Rattle.pst_lexer.specs.Numbering.{Numbers, Other, Known, New, AreNumbered, AreOwnTokens}

-- a text that differs from all of a list isn't in it
differs_at : (text : List ℕ) (names : List (List ℕ)) (i : ℕ) → AllByRecursion (λ other. bytes_eq text other ≡ false) names → slice_get names i ≡ Some text → ⊥
differs_at text [] i all there = cc
differs_at text (other ∷ names) zero all there =
    let same : text ≡ other = cc in
    both_ways (bytes_eq text other) all.0 ((bytes_eq-Decides text other).1 same)
differs_at text (other ∷ names) (suc i) all there = differs_at text names i all.1 there

-- a text has one number
one_number : (names : List (List ℕ)) (text : List ℕ) (i j : ℕ) → AreDifferent names → slice_get names i ≡ Some text → slice_get names j ≡ Some text → i ≡ j
unfolding IsDistinct
one_number [] text i j different at_i at_j = cc
one_number (other ∷ names) text zero zero different at_i at_j = refl
one_number (other ∷ names) text zero (suc j) different at_i at_j =
    let same : other ≡ text = cc in
    absurd (differs_at other names j different.0 (at_j ∙ ap Some (sym same)))
one_number (other ∷ names) text (suc i) zero different at_i at_j =
    let same : other ≡ text = cc in
    absurd (differs_at other names i different.0 (at_i ∙ ap Some (sym same)))
one_number (other ∷ names) text (suc i) (suc j) different at_i at_j = ap suc (one_number names text i j different.1 at_i at_j)

-- two tables have the same texts below a number
abbrev pub Agree : List (List ℕ) → List (List ℕ) → ℕ → Type 0
Agree names others free = (k : ℕ) → k < free → slice_get names k ≡ slice_get others k

-- what two tables with the same first texts make of the same lexemes
pub record IsSame (names others : List (List ℕ)) (tokens more : List Token) (next after : ℕ) : Type 0 where
  pub tokens_same : tokens ≡ more
  pub next_same : next ≡ after
  pub agree : Agree names others next

-- one more text, under the same number
agree_on : (names others : List (List ℕ)) (free : ℕ) (bytes : List ℕ) → Agree names others free → slice_get names free ≡ Some bytes → slice_get others free ≡ Some bytes → Agree names others (suc free)
agree_on names others free bytes agree here there k below = ⊎_elim (λ lower. agree k lower) (
    λ not_lower.
    let at : k ≡ free = omega (arith, not_lower, below) in
    subst (λ n. slice_get names n ≡ slice_get others n) (sym at) (here ∙ sym there)
    ) (cases_lt k free)

-- a name has the same number in both tables
record IsOneName (names others : List (List ℕ)) (id other middle next : ℕ) : Type 0 where
  id_same : id ≡ other
  next_same : middle ≡ next
  agree : Agree names others middle

one_name : (names others : List (List ℕ)) (bytes : List ℕ) (place : Place) (free id other middle next : ℕ) → AreDifferent names → AreDifferent others → Agree names others free
    → slice_get names id ≡ Some bytes → slice_get others other ≡ Some bytes
    → Numbers free (token_of kind.Name id (pos 0) place) middle → Numbers free (token_of kind.Name other (pos 0) place) next
    → IsOneName names others id other middle next
one_name names others bytes place free id other _ next d e agree here there (Other none) k_is = absurd (none refl)
one_name names others bytes place free id other middle _ d e agree here there h (Other none) = absurd (none refl)
one_name names others bytes place free id other _ _ d e agree here there (Known named below) (Known also lower) =
    record { id_same = one_number others bytes id other e (sym (agree id below) ∙ here) there; next_same = refl; agree = agree }
one_name names others bytes place free id other _ _ d e agree here there (Known named below) (New also at) =
    let same : id ≡ other = one_number others bytes id other e (sym (agree id below) ∙ here) there in
    absurd (omega (arith, same, below, at))
one_name names others bytes place free id other _ _ d e agree here there (New named at) (Known also below) =
    let same : id ≡ other = one_number names bytes id other d here (agree other below ∙ there) in
    absurd (omega (arith, same, below, at))
one_name names others bytes place free id other _ _ d e agree here there (New named at) (New also too) = record {
  id_same = at ∙ sym too;
  next_same = refl;
  agree = agree_on names others free bytes agree (subst (λ n. slice_get names n ≡ Some bytes) at here) (subst (λ n. slice_get others n ≡ Some bytes) too there);
}

-- a token that is no name takes no number
no_number : (free : ℕ) (token : Token) (next : ℕ) → token.kind ≢ kind.Name → Numbers free token next → next ≡ free
no_number free token _ other (Other none) = refl
no_number free token _ other (Known named below) = absurd (other named)
no_number free token _ other (New named at) = absurd (other named)

-- one lexeme has one token in both tables
record IsOneToken (names others : List (List ℕ)) (t u : Token) (middle next : ℕ) : Type 0 where
  token_same : t ≡ u
  next_same : middle ≡ next
  agree : Agree names others middle

-- a token that is no name, in both tables
one_mark : (names others : List (List ℕ)) (free : ℕ) (t u v : Token) (middle next : ℕ) → Agree names others free → v.kind ≢ kind.Name → t ≡ v → u ≡ v → Numbers free t middle → Numbers free u next → IsOneToken names others t u middle next
one_mark names others free t u v middle next agree mark is is_too h k_is =
    let first : middle ≡ free = no_number free t middle (λ named. mark (sym (ap (λ (w : Token). w.kind) is) ∙ named)) h in
    let second : next ≡ free = no_number free u next (λ named. mark (sym (ap (λ (w : Token). w.kind) is_too) ∙ named)) k_is in
    record { token_same = is ∙ sym is_too; next_same = first ∙ sym second; agree = subst (λ n. Agree names others n) (sym first) agree }

one_token : (names others : List (List ℕ)) (l : Lexeme) (place : Place) (free : ℕ) (t u : Token) (middle next : ℕ) → AreDifferent names → AreDifferent others → Agree names others free → IsLexeme l
    → IsTokenOf names l place t → IsTokenOf others l place u → Numbers free t middle → Numbers free u next → IsOneToken names others t u middle next
one_token names others (fixed k) place free t u middle next d e agree some is is_too h k_is =
    one_mark names others free t u (token_of k 0 (pos 0) place) middle next agree (λ same. some (ap spelling_of same)) is is_too h k_is
one_token names others (number bytes value) place free t u middle next d e agree some is is_too h k_is =
    one_mark names others free t u (token_of kind.Number 0 (pos value) place) middle next agree (λ same. cc) is is_too h k_is
one_token names others (name bytes) place free t u middle next d e agree some (id, here, is) (other, there, is_too) h k_is =
    let one = one_name names others bytes place free id other middle next d e agree here there (subst (λ w. Numbers free w middle) is h) (subst (λ w. Numbers free w next) is_too k_is) in
    record { token_same = is ∙ ap (λ n. token_of kind.Name n (pos 0) place) one.id_same ∙ sym is_too; next_same = one.next_same; agree = one.agree }

same_tokens : (names others : List (List ℕ)) (ls : List (Lexeme × Place)) (free : ℕ) (ts us : List Token) (next after : ℕ) → AreDifferent names → AreDifferent others → Agree names others free
    → AllByRecursion (λ (l : Lexeme × Place). IsLexeme l.0) ls → AreTokensOf names ls ts → AreTokensOf others ls us → AreNumbered free ts next → AreNumbered free us after → IsSame names others ts us next after
same_tokens names others [] free [] [] next after d e agree some are too h k = record { tokens_same = refl; next_same = h ∙ sym k; agree = subst (λ n. Agree names others n) (sym h) agree }
same_tokens names others [] free [] (u ∷ us) next after d e agree some are too h k = absurd too
same_tokens names others [] free (t ∷ ts) us next after d e agree some are too h k = absurd are
same_tokens names others (l ∷ ls) free [] us next after d e agree some are too h k = absurd are
same_tokens names others (l ∷ ls) free (t ∷ ts) [] next after d e agree some are too h k = absurd too
same_tokens names others (l ∷ ls) free (t ∷ ts) (u ∷ us) next after d e agree some are too (middle, here, rest) (other, there, more) =
    let one = one_token names others l.0 l.1 free t u middle other d e agree some.0 are.0 too.0 here there in
    let all = same_tokens names others ls middle ts us next after d e one.agree some.1 are.1 too.1 rest (subst (λ n. AreNumbered n us after) (sym one.next_same) more) in
    record { tokens_same = λ i. one.token_same i ∷ all.tokens_same i; next_same = all.next_same; agree = all.agree }

-- `End` takes no number
without_end : (free : ℕ) (tokens : List Token) (last : Token) (next : ℕ) → last.kind ≢ kind.Name → AreNumbered free (tokens ++ last ∷ []) next → AreNumbered free tokens next
without_end free [] last next other (middle, here, rest) = rest ∙ no_number free last middle other here
without_end free (t ∷ tokens) last next other (middle, here, rest) = (middle, here, without_end middle tokens last next other rest)

-- tables that agree up to their ends are the same
pub same_tables : (names others : List (List ℕ)) → length names ≡ length others → Agree names others (length names) → names ≡ others
same_tables [] [] long agree = refl
same_tables [] (o ∷ others) long agree = absurd (cc)
same_tables (n ∷ names) [] long agree = absurd (cc)
same_tables (n ∷ names) (o ∷ others) long agree =
    let first : Some n ≡ Some o = agree 0 (omega arith) in
    let head : n ≡ o = cc in
    let tail = same_tables names others (cc) (λ k below. agree (suc k) (omega (arith, below))) in
    λ i. head i ∷ tail i

-- one text has one list of tokens, in tables that agree on the names before it
pub same_text : (file : ℕ) (text : List ℕ) (names others : List (List ℕ)) (free : ℕ) (tokens more : List Token) (next after : ℕ) → AreDifferent names → AreDifferent others → Agree names others free
    → AreTokens file names text tokens → AreTokens file others text more → AreNumbered free tokens next → AreNumbered free more after → IsSame names others tokens more next after
same_text file text names others free tokens more next after d e agree h k here there =
    let (same, _, _) = one_reading text h.parts k.parts [] [] complete complete h.reading k.reading in
    let last : Token = token_of kind.End 0 (pos 0) (place_after file text) in
    let first : AreNumbered free h.before_end next = without_end free h.before_end last next (λ named. cc) (subst (λ ts. AreNumbered free ts next) h.all here) in
    let second : AreNumbered free k.before_end after = without_end free k.before_end last after (λ named. cc) (subst (λ ts. AreNumbered free ts after) k.all there) in
    let all = same_tokens names others (lexemes_of file h.parts) free h.before_end k.before_end next after d e agree
    (are_lexemes file [] h.parts [] h.reading.front.stand) h.each (subst (λ parts. AreTokensOf others (lexemes_of file parts) k.before_end) (sym same) k.each) first second in
    record { tokens_same = h.all ∙ ap (λ ts. ts ++ last ∷ []) all.tokens_same ∙ sym k.all; next_same = all.next_same; agree = all.agree }

pub one_table : (file : ℕ) (text : List ℕ) (names others : List (List ℕ)) (tokens more : List Token) → AreOwnTokens file text names tokens → AreOwnTokens file text others more → (names ≡ others) × (tokens ≡ more)
one_table file text names others tokens more h k =
    let all = same_text file text names others 0 tokens more (length names) (length others) h.different k.different (λ n below. absurd (omega (arith, below))) h.are k.are h.numbered k.numbered in
    (same_tables names others all.next_same all.agree, all.tokens_same)
