-- Texts have tokens, or a first fault.
use Rattle.std.proofs.Common.{◌≡◌, ◌∙◌, ℕ, zero, suc, ◌+◌, ◌-◌, ◌<◌, ◌≤◌, ◌⊎◌, inl, inr, List, [], ◌∷◌, length, take, map, refl, ap, sym, subst, arith}
use Rattle.std.specs.Prelude.{Some, slice_get}
use Rattle.std.specs.List.{AllZip, sum, sum_by}
use Rattle.std.proofs.lemmas.List.{take_all}
use Rattle.std.proofs.lemmas.List.Sums.{sum_by-cons, sum-map}
use Rattle.pst_token.specs.declared.token.Token.{Token}
use Rattle.pst_token.specs.Tokens.{complete}
use Rattle.pst_token.specs.Laws.{EachTextHasOneReading}
use Rattle.pst_lexer.specs.declared.fault.LexFault.{LexFault}
use Rattle.pst_lexer.specs.Fault.{HasFault, HasTokens, EachTextHasOneOutcome, token_count}
use Rattle.pst_sources_read.specs.Limits.{most_tokens}
use Rattle.pst_sources_read.specs.Lexed.{AreLexed, HasTokenCount, HasTextFault}
use Rattle.pst_sources_read.proofs.Counted.{counted_in_turn}
use Rattle.pst_outcome.proofs.OneReading.{tri, inside, below}

one_count : EachTextHasOneReading → (text : List ℕ) (a b : ℕ) → HasTokenCount text a → HasTokenCount text b → a ≡ b
one_count readings text a b h k =
    let all = readings text in
    let one = all.only h.parts [] complete h.reading in
    let two = all.only k.parts [] complete k.reading in
    h.count_is ∙ ap token_count (one.0 ∙ sym two.0) ∙ sym k.count_is

one_counts : EachTextHasOneReading → (texts : List (List ℕ)) (xs ys : List ℕ) → AllZip HasTokenCount texts xs → AllZip HasTokenCount texts ys → xs ≡ ys
one_counts readings [] [] [] h k = refl
one_counts readings [] [] (y ∷ ys) h k = absurd k
one_counts readings [] (x ∷ xs) ys h k = absurd h
one_counts readings (t ∷ texts) [] ys h k = absurd h
one_counts readings (t ∷ texts) (x ∷ xs) [] h k = absurd k
one_counts readings (t ∷ texts) (x ∷ xs) (y ∷ ys) h k =
    let here : x ≡ y = one_count readings t x y h.0 k.0 in
    let rest : xs ≡ ys = one_counts readings texts xs ys h.1 k.1 in
    cc

-- a text before the end of those that are lists of tokens is one, and there is room for its tokens behind those before it
record IsThere (text : List ℕ) (front counts : List ℕ) : Type 0 where
  count : ℕ
  is : HasTokenCount text count
  room : sum front + count ≤ sum counts

lexed_there : EachTextHasOneReading → (texts : List (List ℕ)) (n m : ℕ) (text : List ℕ) (front counts : List ℕ) → n < m → slice_get texts n ≡ Some text
    → AllZip HasTokenCount (take n texts) front → AllZip HasTokenCount (take m texts) counts → IsThere text front counts
lexed_there readings texts n zero text front counts low there h k = absurd (omega (arith, low))
lexed_there readings [] zero (suc m) text front counts low there h k = absurd (cc)
lexed_there readings [] (suc n) (suc m) text front counts low there h k = absurd (cc)
lexed_there readings (t ∷ texts) zero (suc m) text [] [] low there h k = absurd k
lexed_there readings (t ∷ texts) zero (suc m) text [] (c ∷ counts) low there h k =
    let sums : sum (c ∷ counts) ≡ c + sum counts = sum_by-cons (λ x. x) c counts in
    record { count = c; is = subst (λ u. HasTokenCount u c) (inside there) k.0; room = omega (arith, sums) }
lexed_there readings (t ∷ texts) zero (suc m) text (x ∷ front) counts low there h k = absurd h
lexed_there readings (t ∷ texts) (suc n) (suc m) text [] counts low there h k = absurd h
lexed_there readings (t ∷ texts) (suc n) (suc m) text (x ∷ front) [] low there h k = absurd k
lexed_there readings (t ∷ texts) (suc n) (suc m) text (x ∷ front) (c ∷ counts) low there h k =
    let one : x ≡ c = one_count readings t x c h.0 k.0 in
    let rest = lexed_there readings texts n m text front counts (omega (arith, low)) there h.1 k.1 in
    let room = rest.room in
    let left : sum (x ∷ front) ≡ x + sum front = sum_by-cons (λ z. z) x front in
    let right : sum (c ∷ counts) ≡ c + sum counts = sum_by-cons (λ z. z) c counts in
    record { count = rest.count; is = rest.is; room = omega (arith, room, one, left, right) }

-- so it has no fault in that room
no_fault : EachTextHasOneOutcome → (number : ℕ) (text : List ℕ) (front counts : List ℕ) (f : LexFault) → IsThere text front counts → sum counts ≤ most_tokens → HasFault number (most_tokens - sum front) text f → ⊥
no_fault outcomes number text front counts f there few has =
    let is = there.is in
    let room = there.room in
    let count_is = is.count_is in
    let fits : HasTokens (most_tokens - sum front) text = record { parts = is.parts; reading = is.reading; few = omega (arith, room, count_is, few) } in
    (outcomes number (most_tokens - sum front) text).apart fits f has

earlier_fault : EachTextHasOneReading → EachTextHasOneOutcome → (texts : List (List ℕ)) (f g : LexFault) (a : HasTextFault texts f) (b : HasTextFault texts g) → a.number < b.number → ⊥
earlier_fault readings outcomes texts f g a b low =
    no_fault outcomes a.number a.text a.counts b.counts f (lexed_there readings texts a.number b.number a.text a.counts b.counts low a.there a.counted b.counted) b.room a.has

-- texts have one first fault
pub one_text_fault : EachTextHasOneReading → EachTextHasOneOutcome → (texts : List (List ℕ)) (f g : LexFault) → HasTextFault texts f → HasTextFault texts g → f ≡ g
one_text_fault readings outcomes texts f g a b = by_order (tri a.number b.number)
  where
    by_order : (a.number < b.number) ⊎ ((a.number ≡ b.number) ⊎ (b.number < a.number)) → f ≡ g
    by_order (inl low) = absurd (earlier_fault readings outcomes texts f g a b low)
    by_order (inr (inr high)) = absurd (earlier_fault readings outcomes texts g f b a high)
    by_order (inr (inl same)) =
        let text : b.text ≡ a.text = inside (sym b.there ∙ ap (slice_get texts) (sym same) ∙ a.there) in
        let counts : b.counts ≡ a.counts = one_counts readings (take a.number texts) b.counts a.counts (subst (λ n. AllZip HasTokenCount (take n texts) b.counts) (sym same) b.counted) a.counted in
        let moved : HasFault a.number (most_tokens - sum a.counts) a.text g =
        subst (λ t. HasFault a.number (most_tokens - sum a.counts) t g) text
        (subst (λ (cs : List ℕ). HasFault a.number (most_tokens - sum cs) b.text g) counts (subst (λ n. HasFault n (most_tokens - sum b.counts) b.text g) (sym same) b.has)) in
        (outcomes a.number (most_tokens - sum a.counts) a.text).one f g a.has moved

-- texts that are lists of tokens have none
pub no_text_fault : EachTextHasOneReading → EachTextHasOneOutcome → (texts names : List (List ℕ)) (tokens : List (List Token)) (f : LexFault) → AreLexed texts names tokens → HasTextFault texts f → ⊥
no_text_fault readings outcomes texts names tokens f lexed a =
    let counts = map (λ (ts : List Token). length ts - 1) tokens in
    let sums : sum counts ≡ sum_by (λ (ts : List Token). length ts - 1) tokens = sum-map (λ (ts : List Token). length ts - 1) tokens in
    let few = lexed.room in
    no_fault outcomes a.number a.text a.counts counts f
    (lexed_there readings texts a.number (length texts) a.text a.counts counts (below texts a.number a.text a.there) a.there a.counted
    (subst (λ (ts : List (List ℕ)). AllZip HasTokenCount ts counts) (sym (take_all (length texts) texts (omega arith))) (counted_in_turn 0 names texts tokens 0 (length names) lexed.are.are)))
    (omega (arith, sums, few)) a.has
