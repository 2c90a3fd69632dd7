-- Where the first `*/` of a comment ends, by indices of the text.
use Rattle.std.proofs.Common.{◌≡◌, ℕ, zero, suc, ◌+◌, ◌-◌, ◌<◌, ◌≤◌, Bool, true, false, not, ◌⊎◌, inl, inr, List, [], ◌∷◌, ◌++◌, Option, Some, None, length, take, drop, get_or, max, codes, refl, ap, sym, subst, ◌∙◌, arith, length-append, length-drop, length-take-le, take-append-drop, get_or-drop, get_or-take, drop-cons, append_assoc}
use Rattle.std.proofs.lemmas.Bool.{cases_lt}
use Rattle.std.proofs.lemmas.List.{get_or-append-add}
use Rattle.pst_token.specs.Next.{closed_len}
use Rattle.pst_token.proofs.Closed.{closed_reaches, closed_found, ClosesAt}

-- a `*/` ends with the byte at k
pub record Closes (text : List ℕ) (k : ℕ) : Type 0 where
  pub within : k < length text
  pub behind : 3 ≤ k
  pub slash : get_or text k 0 ≡ 47
  pub star : get_or text (k - 1) 0 ≡ 42

-- no `*/` ends before k
abbrev pub NoneCloses : List ℕ → ℕ → Type 0
NoneCloses text k = (i : ℕ) → i < k → Closes text i → ⊥

-- a `*/` in the text behind `/*`
closes_from_split : (text inner rest : List ℕ) → drop 2 text ≡ (inner ++ codes "*/") ++ rest → Closes text (length inner + 3)
closes_from_split text inner rest split =
    let lengths : length (drop 2 text) ≡ (length inner + 2) + length rest = ap length split ∙ length-append (inner ++ codes "*/") rest ∙ ap (λ n. n + length rest) (length-append inner (codes "*/")) in
    let regrouped : drop 2 text ≡ inner ++ 42 ∷ 47 ∷ rest = split ∙ append_assoc inner (codes "*/") rest in
    let slash_at : 2 + (length inner + 1) ≡ length inner + 3 = omega arith in
    let star_at : 2 + (length inner + 0) ≡ (length inner + 3) - 1 = omega arith in
    record {
      within = omega (arith, length-drop 2 text);
      behind = omega arith;
      slash = ap (λ n. get_or text n 0) (sym slash_at) ∙ sym (get_or-drop 2 text (length inner + 1) 0) ∙ ap (λ bs. get_or bs (length inner + 1) 0) regrouped ∙ get_or-append-add inner (42 ∷ 47 ∷ rest) 1 0;
      star = ap (λ n. get_or text n 0) (sym star_at) ∙ sym (get_or-drop 2 text (length inner + 0) 0) ∙ ap (λ bs. get_or bs (length inner + 0) 0) regrouped ∙ get_or-append-add inner (42 ∷ 47 ∷ rest) 0 0;
    }

-- the text behind `/*` is cut at a `*/`
split_at : (text : List ℕ) (k : ℕ) → Closes text k → (rest : List ℕ) × (drop 2 text ≡ (take (k - 3) (drop 2 text) ++ codes "*/") ++ rest)
split_at text k closes =
    let m : ℕ = k - 3 in
    let within = closes.within in
    let behind = closes.behind in
    let body : List ℕ = drop 2 text in
    let lengths : length body ≡ length text - 2 = length-drop 2 text in
    let first : m < length body = omega arith in
    let second : suc m < length body = omega arith in
    let star_at : 2 + m ≡ k - 1 = omega arith in
    let slash_at : 2 + suc m ≡ k = omega arith in
    let star : get_or body m 0 ≡ 42 = get_or-drop 2 text m 0 ∙ ap (λ n. get_or text n 0) star_at ∙ closes.star in
    let slash : get_or body (suc m) 0 ≡ 47 = get_or-drop 2 text (suc m) 0 ∙ ap (λ n. get_or text n 0) slash_at ∙ closes.slash in
    let tail : drop m body ≡ 42 ∷ 47 ∷ drop (suc (suc m)) body =
    drop-cons body m 0 first ∙ (λ i. star i ∷ drop-cons body (suc m) 0 second i) ∙ ap (λ b. 42 ∷ b ∷ drop (suc (suc m)) body) slash in
    (drop (suc (suc m)) body, sym (take-append-drop m body) ∙ ap (λ bs. take m body ++ bs) tail ∙ sym (append_assoc (take m body) (codes "*/") (drop (suc (suc m)) body)))

some_not_none : (bytes : List ℕ) → ((n : ℕ) → closed_len bytes ≡ Some n → ⊥) → closed_len bytes ≡ None
some_not_none bytes never = by_found (closed_len bytes) refl
  where
    by_found : (o : Option ℕ) → closed_len bytes ≡ o → closed_len bytes ≡ None
    by_found None is = is
    by_found (Some n) is = absurd (never n is)

pub none_closed : (text : List ℕ) → NoneCloses text (length text) → closed_len (drop 2 text) ≡ None
none_closed text none = some_not_none (drop 2 text) closed_nowhere
  where
    closed_nowhere : (n : ℕ) → closed_len (drop 2 text) ≡ Some n → ⊥
    closed_nowhere n found =
        let (inner, rest, split, long) = closed_found (drop 2 text) n found in
        let closes = closes_from_split text inner rest split in
        none (length inner + 3) closes.within closes

pub none_before : (text : List ℕ) (seen : ℕ) → seen ≤ length text → closed_len (drop 2 (take seen text)) ≡ None → NoneCloses text seen
none_before text seen within none i before closes =
    let front : Closes (take seen text) i = record {
      within = omega (arith, length-take-le seen text within);
      behind = closes.behind;
      slash = get_or-take seen text i 0 before ∙ closes.slash;
      star = get_or-take seen text (i - 1) 0 (omega (arith, closes.behind)) ∙ closes.star;
    } in
    let (rest, split) = split_at (take seen text) i front in
    let (n, reached, _) = closed_reaches (take (i - 3) (drop 2 (take seen text))) rest in
    let both : None ≡ Some n = sym none ∙ ap closed_len split ∙ reached in
    cc

pub first_closed : (text : List ℕ) (k : ℕ) → NoneCloses text k → Closes text k → (n : ℕ) × (k + 1 ≡ 2 + n) × (closed_len (drop 2 text) ≡ Some n)
first_closed text k none closes =
    let within = closes.within in
    let behind = closes.behind in
    let (rest, split) = split_at text k closes in
    let (n, reached, least) = closed_reaches (take (k - 3) (drop 2 text)) rest in
    let found : closed_len (drop 2 text) ≡ Some n = ap closed_len split ∙ reached in
    let (inner, after, cut, long) = closed_found (drop 2 text) n found in
    let other = closes_from_split text inner after cut in
    let front : k - 3 ≤ length (drop 2 text) = omega (arith, length-drop 2 text) in
    let not_before : k ≤ length inner + 3 =
    elim (cases_lt (length inner + 3) k) [
      | inl before ↦ absurd (none (length inner + 3) before other)
      | inr behind_it ↦ behind_it
    ] in
    (n, omega (arith, length-take-le (k - 3) (drop 2 text) front), found)

-- what was looked at before, and the three bytes that close nothing
pub none_from : (text : List ℕ) (seen k : ℕ) → seen ≤ length text → k ≡ max seen 3 → closed_len (drop 2 (take seen text)) ≡ None → NoneCloses text k
none_from text seen k within is none i before closes =
    elim (cases_lt i seen) [
      | inl early ↦ none_before text seen within none i early closes
      | inr late ↦ let behind = closes.behind in absurd (omega arith)
    ]
