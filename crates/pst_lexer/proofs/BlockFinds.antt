-- A comment that begins with `/*`, whatever follows.
use Rattle.std.proofs.Common.{◌≡◌, ℕ, suc, ◌+◌, ◌<◌, ◌≤◌, Bool, true, false, cond, ◌&&◌, List, [], ◌∷◌, ◌++◌, Option, Some, None, length, take, drop, codes, nat_eq, refl, ap, sym, subst, ◌∙◌, arith, append-nil}
use Rattle.std.proofs.lemmas.Bool.{cond-true, cond-false}
use Rattle.std.proofs.lemmas.List.{take-append-le}
use Rattle.std.specs.List.{starts_with}
use Rattle.std.specs.Option.{option_map}
use Rattle.pst_token.specs.Parts.{Part, comment, bytes_of}
use Rattle.pst_token.specs.Next.{next, block_part, closed_len}
use Rattle.pst_token.proofs.Closed.{starts_two}
use Rattle.pst_lexer.specs.Finding.{MayFollow, Begins, BeginsNone}
use Rattle.pst_lexer.proofs.Follows.{nothing_follows}

-- a `*/` stays the first one when more follows
closed_append : (bytes more : List ℕ) (n : ℕ) → closed_len bytes ≡ Some n → closed_len (bytes ++ more) ≡ Some n
closed_append [] more n found = cc
closed_append (b ∷ []) more n found = by_test (nat_eq 42 b) refl found
  where
    by_test : (t : Bool) → nat_eq 42 b ≡ t → cond (t && false) (Some 2) (option_map suc (closed_len [])) ≡ Some n → closed_len ((b ∷ []) ++ more) ≡ Some n
    by_test true h e = cc
    by_test false h e = cc
closed_append (b ∷ c ∷ bytes) more n found = by_test (nat_eq 42 b && (nat_eq 47 c && true)) refl (closed_append (c ∷ bytes) more) found
  where
    behind : (o : Option ℕ) → closed_len (c ∷ bytes) ≡ o → ((m : ℕ) → closed_len (c ∷ bytes) ≡ Some m → closed_len ((c ∷ bytes) ++ more) ≡ Some m) → option_map suc o ≡ Some n
        → option_map suc (closed_len ((c ∷ bytes) ++ more)) ≡ Some n
    behind None none later e = cc
    behind (Some m) is later e = ap (option_map suc) (later m is) ∙ e

    by_test : (t : Bool) → (nat_eq 42 b && (nat_eq 47 c && true)) ≡ t → ((m : ℕ) → closed_len (c ∷ bytes) ≡ Some m → closed_len ((c ∷ bytes) ++ more) ≡ Some m)
        → cond t (Some 2) (option_map suc (closed_len (c ∷ bytes))) ≡ Some n → closed_len ((b ∷ c ∷ bytes) ++ more) ≡ Some n
    by_test true h later e = cond-true (nat_eq 42 b && (nat_eq 47 c && true)) _ _ h ∙ e
    by_test false h later e = cond-false (nat_eq 42 b && (nat_eq 47 c && true)) _ _ h ∙ behind (closed_len (c ∷ bytes)) refl later e

next-block : (after : List ℕ) → next (47 ∷ 42 ∷ after) ≡ option_map (λ n. comment (take (2 + n) (47 ∷ 42 ∷ after))) (closed_len after)
unfolding next block_part
next-block after = refl

pub block_begins : (text : List ℕ) (is_last : Bool) (len n : ℕ) → starts_with nat_eq text (codes "/*") ≡ true → len ≡ 2 + n → len ≤ length text → closed_len (drop 2 text) ≡ Some n
    → Begins text is_last len (comment (take len text))
block_begins text is_last len n begins reach within found =
    let (after, is) = starts_two 47 42 text begins in
    let inside : closed_len after ≡ Some n = ap (λ (t : List ℕ). closed_len (drop 2 t)) (sym is) ∙ found in
    record {
      some = omega arith;
      within = within;
      bytes = refl;
      found = λ more may.
          ap (λ t. next (t ++ more)) is ∙ next-block (after ++ more)
          ∙ ap (option_map (λ m. comment (take (2 + m) (47 ∷ 42 ∷ (after ++ more))))) (closed_append after more n inside)
          ∙ ap (λ m. Some (comment (take m (47 ∷ 42 ∷ (after ++ more))))) (sym reach)
          ∙ ap (λ t. Some (comment (take len (t ++ more)))) (sym is)
          ∙ ap (λ t. Some (comment t)) (take-append-le len text more within);
    }

pub block_none : (text : List ℕ) (is_last : Bool) → starts_with nat_eq text (codes "/*") ≡ true → is_last ≡ true → closed_len (drop 2 text) ≡ None → BeginsNone text is_last
block_none text is_last begins last none more may =
    let (after, is) = starts_two 47 42 text begins in
    let nothing : more ≡ [] = nothing_follows is_last more last may in
    let inside : closed_len after ≡ None = ap (λ (t : List ℕ). closed_len (drop 2 t)) (sym is) ∙ none in
    ap (λ m. next (text ++ m)) nothing ∙ ap next (append-nil text ∙ is) ∙ next-block after
    ∙ ap (option_map (λ m. comment (take (2 + m) (47 ∷ 42 ∷ after)))) inside
