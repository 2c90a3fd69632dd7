-- Tokens of texts, one after another.
use Rattle.std.proofs.Common.{◌≡◌, ◌≢◌, ◌∙◌, ℕ, zero, suc, ◌+◌, ◌-◌, ◌<◌, ◌≤◌, List, [], ◌∷◌, ◌++◌, length, get_or, take, map, refl, ap, sym, subst, arith, length-append}
use Rattle.std.specs.Prelude.{Some, None, slice_get}
use Rattle.std.specs.List.{AllZip, sum, sum_by}
use Rattle.std.proofs.lemmas.List.{take_more, take_all, length-take-le}
use Rattle.std.proofs.lemmas.List.Sums.{sum_by-append, sum-map, sum_by-cons}
use Rattle.std.proofs.lemmas.Option.{slice_get_read}
use Rattle.pst_token.specs.declared.token.Token.{Token}
use Rattle.pst_token.specs.Laws.{EndsOnce, TokensStayAsNamesGrow, TokensAreInOrder}
use Rattle.pst_token.specs.Lexemes.{spelled}
use Rattle.pst_token.specs.Parts.{Part, blank, comment, lexeme}
use Rattle.pst_token.specs.Tokens.{AreTokens, AreTokensOf, lexemes_after}
use Rattle.pst_lexer.specs.declared.fault.LexFault.{LexFault}
use Rattle.pst_lexer.specs.Fault.{HasFault, token_count}
use Rattle.pst_lexer.specs.Numbering.{AreNumbered}
use Rattle.pst_base.specs.Names.{AreDifferent}
use Rattle.pst_texts.specs.Texts.{AreTokensInTurn, AreTokensOfTexts}
use Rattle.pst_sources_read.specs.Limits.{most_tokens}
use Rattle.pst_sources_read.specs.Lexed.{AreLexed, HasTokenCount, HasTextFault}
use Rattle.pst_sources_read.specs.TextsLexed.{IsTextLexed, IsTextAdded, AreLexedSoFar}

-- the parts of tokens are as many
as_many : (file : ℕ) (names : List (List ℕ)) (before : List ℕ) (parts : List Part) (ts : List Token) → AreTokensOf names (lexemes_after file before parts) ts → length ts ≡ token_count parts
as_many file names before [] [] h = refl
as_many file names before [] (t ∷ ts) h = absurd h
as_many file names before (blank b ∷ parts) ts h = as_many file names (before ++ b ∷ []) parts ts h
as_many file names before (comment bytes ∷ parts) ts h = as_many file names (before ++ bytes) parts ts h
as_many file names before (lexeme l ∷ parts) [] h = absurd h
as_many file names before (lexeme l ∷ parts) (t ∷ ts) h = ap suc (as_many file names (before ++ spelled l) parts ts h.1)

-- a list of tokens has an end
pub some_tokens : (file : ℕ) (names : List (List ℕ)) (text : List ℕ) (tokens : List Token) → AreTokens file names text tokens → 1 ≤ length tokens
some_tokens file names text tokens h =
    let all = ap length h.all ∙ length-append h.before_end _ in
    omega (arith, all)

-- and its text so many tokens
pub counted : (file : ℕ) (names : List (List ℕ)) (text : List ℕ) (tokens : List Token) → AreTokens file names text tokens → HasTokenCount text (length tokens - 1)
counted file names text tokens h =
    let count = as_many file names [] h.parts h.before_end h.each in
    let all : length tokens ≡ length h.before_end + 1 = ap length h.all ∙ length-append h.before_end _ in
    record { parts = h.parts; reading = h.reading; count_is = omega (arith, count, all) }

pub counted_in_turn : (file : ℕ) (names texts : List (List ℕ)) (tokens : List (List Token)) (free next : ℕ) → AreTokensInTurn file names texts tokens free next
    → AllZip HasTokenCount texts (map (λ (ts : List Token). length ts - 1) tokens)
counted_in_turn file names [] [] free next h = tt
counted_in_turn file names [] (ts ∷ more) free next h = absurd h
counted_in_turn file names (text ∷ texts) [] free next h = absurd h
counted_in_turn file names (text ∷ texts) (ts ∷ more) free next (middle, here, numbered, later) =
    (counted file names text ts here, counted_in_turn (suc file) names texts more middle next later)

-- the table may grow
grown_in_turn : TokensStayAsNamesGrow → (file : ℕ) (names added texts : List (List ℕ)) (tokens : List (List Token)) (free next : ℕ) → AreTokensInTurn file names texts tokens free next
    → AreTokensInTurn file (names ++ added) texts tokens free next
grown_in_turn stay file names added [] [] free next h = h
grown_in_turn stay file names added [] (ts ∷ more) free next h = absurd h
grown_in_turn stay file names added (text ∷ texts) [] free next h = absurd h
grown_in_turn stay file names added (text ∷ texts) (ts ∷ more) free next (middle, here, numbered, later) =
    (middle, stay file names added text ts here, numbered, grown_in_turn stay (suc file) names added texts more middle next later)

-- one more text
more_in_turn : (file : ℕ) (names texts : List (List ℕ)) (tokens : List (List Token)) (free middle next : ℕ) (text : List ℕ) (ts : List Token)
    → AreTokensInTurn file names texts tokens free middle → AreTokens (file + length texts) names text ts → AreNumbered middle ts next
    → AreTokensInTurn file names (texts ++ text ∷ []) (tokens ++ ts ∷ []) free next
more_in_turn file names [] [] free middle next text ts h are numbered =
    let here : file + 0 ≡ file = omega arith in
    (next, subst (λ f. AreTokens f names text ts) here are, subst (λ n. AreNumbered n ts next) h numbered, refl)
more_in_turn file names [] (t ∷ more) free middle next text ts h are numbered = absurd h
more_in_turn file names (t ∷ texts) [] free middle next text ts h are numbered = absurd h
more_in_turn file names (t ∷ texts) (us ∷ more) free middle next text ts (first, here, firsts, later) are numbered =
    let behind : file + suc (length texts) ≡ suc file + length texts = omega arith in
    (first, here, firsts, more_in_turn (suc file) names texts more first middle next text ts later (subst (λ f. AreTokens f names text ts) behind are) numbered)

-- what stands in turn ends once
pub ends_in_turn : TokensAreInOrder → (file : ℕ) (names texts : List (List ℕ)) (tokens : List (List Token)) (free next : ℕ) → AreTokensInTurn file names texts tokens free next
    → (i : ℕ) (ts : List Token) → slice_get tokens i ≡ Some ts → EndsOnce ts
ends_in_turn order file names [] [] free next h i ts there = absurd (none i there)
  where
    none : (k : ℕ) → slice_get {X = List Token} [] k ≡ Some ts → ⊥
    none zero e = cc
    none (suc k) e = cc
ends_in_turn order file names [] (us ∷ more) free next h i ts there = absurd h
ends_in_turn order file names (text ∷ texts) [] free next h i ts there = absurd h
ends_in_turn order file names (text ∷ texts) (us ∷ more) free next (middle, here, numbered, later) zero ts there =
    let same : us ≡ ts = cc in subst EndsOnce same (order file names text us here).0
ends_in_turn order file names (text ∷ texts) (us ∷ more) free next (middle, here, numbered, later) (suc i) ts there =
    ends_in_turn order (suc file) names texts more middle next later i ts there

-- ---- the loop

pub none_so_far : (texts : List (List ℕ)) (names : List (List ℕ)) → names ≡ [] → AreLexedSoFar texts 0 names [] most_tokens
none_so_far texts names empty = record { turn = ap length empty; room_is = refl }

pub more_so_far : TokensStayAsNamesGrow → (texts : List (List ℕ)) (i : ℕ) (text : List ℕ) (old new : List (List ℕ)) (before after : List (List Token)) (room left : ℕ)
    → i < length texts → text ≡ get_or texts i text → AreLexedSoFar texts i old before room → IsTextAdded i room left text old new before after
    → AreLexedSoFar texts (i + 1) new after left
more_so_far stay texts i text old new before after room left below is so_far added =
    let ts = added.tokens in
    let more : take (i + 1) texts ≡ take i texts ++ text ∷ [] = take_more texts i text below ∙ ap (λ (z : List ℕ). take i texts ++ z ∷ []) (sym is) in
    let long : i ≡ 0 + length (take i texts) = let e = length-take-le i texts (omega (arith, below)) in omega (arith, e) in
    let grown : AreTokensInTurn 0 new (take i texts) before 0 (length old) =
    subst (λ (names : List (List ℕ)). AreTokensInTurn 0 names (take i texts) before 0 (length old)) (sym added.lexed.grown.1) (grown_in_turn stay 0 old added.lexed.grown.0 (take i texts) before 0 (length old) so_far.turn) in
    let all : AreTokensInTurn 0 new (take i texts ++ text ∷ []) (before ++ ts ∷ []) 0 (length new) =
    more_in_turn 0 new (take i texts) before 0 (length old) (length new) text ts grown (subst (λ f. AreTokens f new text ts) long added.lexed.are) added.lexed.numbered in
    let one : sum_by (λ (us : List Token). length us - 1) (ts ∷ []) ≡ (length ts - 1) + 0 = sum_by-cons (λ (us : List Token). length us - 1) ts [] in
    let sums : sum_by (λ (us : List Token). length us - 1) (before ++ ts ∷ []) ≡ sum_by (λ (us : List Token). length us - 1) before + sum_by (λ (us : List Token). length us - 1) (ts ∷ []) = sum_by-append (λ (us : List Token). length us - 1) before (ts ∷ []) in
    let room_was = so_far.room_is in
    let left_is = added.left_is in
    record {
      turn = subst (λ (us : List (List Token)). AreTokensInTurn 0 new (take (i + 1) texts) us 0 (length new)) (sym added.added) (subst (λ (ys : List (List ℕ)). AreTokensInTurn 0 new ys (before ++ ts ∷ []) 0 (length new)) (sym more) all);
      room_is = let e = ap (λ (us : List (List Token)). sum_by (λ (u : List Token). length u - 1) us) added.added in omega (arith, e, one, sums, room_was, left_is);
    }

pub all_lexed : (texts : List (List ℕ)) (i : ℕ) (names : List (List ℕ)) (tokens : List (List Token)) (room : ℕ)
    → length texts ≤ i → AreLexedSoFar texts i names tokens room → AreDifferent names → AreLexed texts names tokens
all_lexed texts i names tokens room end so_far different =
    let room_is = so_far.room_is in
    record {
      are = record { different = different; are = subst (λ (ys : List (List ℕ)). AreTokensInTurn 0 names ys tokens 0 (length names)) (take_all i texts end) so_far.turn };
      room = omega (arith, room_is);
    }

-- the next text has a fault
pub fault_so_far : (texts : List (List ℕ)) (i : ℕ) (text : List ℕ) (names : List (List ℕ)) (tokens : List (List Token)) (room : ℕ) (f : LexFault)
    → i < length texts → text ≡ get_or texts i text → AreLexedSoFar texts i names tokens room → HasFault i room text f → HasTextFault texts f
fault_so_far texts i text names tokens room f below is so_far has =
    let counts = map (λ (ts : List Token). length ts - 1) tokens in
    let sums : sum counts ≡ sum_by (λ (ts : List Token). length ts - 1) tokens = sum-map (λ (ts : List Token). length ts - 1) tokens in
    let room_is = so_far.room_is in
    let left : room ≡ most_tokens - sum counts = omega (arith, sums, room_is) in
    record {
      number = i;
      text = text;
      there = slice_get_read texts (length texts) i text refl below is;
      counts = counts;
      counted = counted_in_turn 0 names (take i texts) tokens 0 (length names) so_far.turn;
      room = omega (arith, sums, room_is);
      has = subst (λ r. HasFault i r text f) left has;
    }
