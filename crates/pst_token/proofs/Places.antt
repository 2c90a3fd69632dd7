-- How places move on along a text.
use Rattle.std.proofs.Common.{◌≡◌, ◌≢◌, ℕ, suc, ◌+◌, ◌<◌, Bool, true, false, not, cond, ◌⊎◌, inl, inr, List, [], ◌∷◌, ◌++◌, reverse, refl, ap, sym, subst, ◌∙◌, arith, append-nil, append_assoc, add-zero}
use Rattle.std.specs.List.{count_by, suffix_len, prefix_len}
use Rattle.std.proofs.lemmas.List.Sums.{sum_by_push}
use Rattle.std.proofs.lemmas.List.{reverse-append}
use Rattle.pst_base.specs.declared.position.Place.{Place}
use Rattle.pst_token.specs.Parts.{is_line_feed}
use Rattle.pst_token.specs.Tokens.{place_after}
use Rattle.pst_base.specs.Places.{IsBefore}
use Rattle.pst_token.specs.Order.{after_byte}

lines_push : (bytes : List ℕ) (b : ℕ) → 1 + count_by is_line_feed (bytes ++ b ∷ []) ≡ (1 + count_by is_line_feed bytes) + cond (is_line_feed b) 1 0
lines_push bytes b = let more = sum_by_push (λ (x : ℕ). cond (is_line_feed x) 1 0) bytes b in omega arith

columns_push : (bytes : List ℕ) (b : ℕ) → 1 + suffix_len (λ x. not (is_line_feed x)) (bytes ++ b ∷ []) ≡ cond (is_line_feed b) 1 ((1 + suffix_len (λ x. not (is_line_feed x)) bytes) + 1)
columns_push bytes b =
    ap (λ (bs : List ℕ). 1 + prefix_len (λ x. not (is_line_feed x)) bs) (reverse-append bytes (b ∷ [])) ∙ by_test (is_line_feed b) (prefix_len (λ x. not (is_line_feed x)) (reverse bytes))
  where
    by_test : (t : Bool) (n : ℕ) → 1 + cond (not t) (1 + n) 0 ≡ cond t 1 ((1 + n) + 1)
    by_test true n = omega arith
    by_test false n = omega arith

pub place_after-push : (file : ℕ) (bytes : List ℕ) (b : ℕ) → place_after file (bytes ++ b ∷ []) ≡ after_byte (place_after file bytes) b
place_after-push file bytes b = λ i. record { file = file; line = lines_push bytes b i; column = columns_push bytes b i }

later : (p : Place) (b : ℕ) → IsBefore p (after_byte p b)
later p b = by_test (is_line_feed b)
  where
    by_test : (t : Bool) → IsBefore p (record p { line = p.line + cond t 1 0; column = cond t 1 (p.column + 1) })
    by_test true = inr (refl, inl (omega arith))
    by_test false = inr (refl, inr (omega arith, omega arith))

pub transitive : (p q r : Place) → IsBefore p q → IsBefore q r → IsBefore p r
transitive p q r (inl a) (inl b) = inl (omega arith)
transitive p q r (inl a) (inr (b, _)) = inl (omega arith)
transitive p q r (inr (a, _)) (inl b) = inl (omega arith)
transitive p q r (inr (a, inl c)) (inr (b, inl d)) = inr (a ∙ b, inl (omega arith))
transitive p q r (inr (a, inl c)) (inr (b, inr (d, e))) = inr (a ∙ b, inl (omega arith))
transitive p q r (inr (a, inr (c, f))) (inr (b, inl d)) = inr (a ∙ b, inl (omega arith))
transitive p q r (inr (a, inr (c, f))) (inr (b, inr (d, e))) = inr (a ∙ b, inr (c ∙ d, omega arith))

-- later bytes stand at later places
pub place_after-later : (file : ℕ) (before bytes : List ℕ) → bytes ≢ [] → IsBefore (place_after file before) (place_after file (before ++ bytes))
place_after-later file before [] some = absurd (some refl)
place_after-later file before (b ∷ []) some = subst (IsBefore (place_after file before)) (sym (place_after-push file before b)) (later (place_after file before) b)
place_after-later file before (b ∷ c ∷ bytes) some =
    let next : IsBefore (place_after file (before ++ b ∷ [])) (place_after file ((before ++ b ∷ []) ++ c ∷ bytes)) = place_after-later file (before ++ b ∷ []) (c ∷ bytes) (λ nothing. cc) in
    transitive (place_after file before) (place_after file (before ++ b ∷ [])) (place_after file (before ++ b ∷ c ∷ bytes))
    (subst (IsBefore (place_after file before)) (sym (place_after-push file before b)) (later (place_after file before) b))
    (subst (λ bs. IsBefore (place_after file (before ++ b ∷ [])) (place_after file bs)) (append_assoc before (b ∷ []) (c ∷ bytes)) next)
