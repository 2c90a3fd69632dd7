-- Spans in ascending order that don't touch are told by their numbers.
use Rattle.std.proofs.Common.{◌≡◌, ◌⊎◌, inl, inr, arith, ℕ, zero, suc, ◌<◌, length, get_or, refl, sym, subst}
use Rattle.std.specs.Prelude.{ℤ, pos, ◌+ℤ◌, ◌≤ℤ◌, ◌<ℤ◌, List, [], ◌∷◌, All, AllPairs}
use Rattle.std.proofs.lemmas.Int.{ints, by_lt_z}
use Rattle.pst_expr.specs.declared.ranges.Span.{Span}
use Rattle.pst_expr.specs.Spans.{IsInSpan, IsInSpans}

abbrev pub In : ℤ → List Span → Type 0
In v [] = ⊥
In v (s ∷ more) = IsInSpan v s ⊎ In v more

-- each number of a span is far below those of the later ones
abbrev pub AreApart : List Span → Type 0
AreApart [] = Unit {0}
AreApart (s ∷ more) = (s.low ≤ℤ s.high) × ((v : ℤ) → In v more → (s.high +ℤ pos 1) <ℤ v) × AreApart more

pub to_any : (v : ℤ) (spans : List Span) → In v spans → IsInSpans v spans
to_any v [] h = absurd h
to_any v (s ∷ more) (inl h) = (0, s, omega arith, refl, h)
to_any v (s ∷ more) (inr h) = let a = to_any v more h in (suc a.0, a.1, omega (arith, a.2), a.3, a.4)

in_at : (v : ℤ) (spans : List Span) (k : ℕ) (s : Span) → k < length spans → get_or spans k s ≡ s → IsInSpan v s → In v spans
in_at v [] k s less is h = absurd (omega (arith, less))
in_at v (t ∷ more) zero s less is h = inl (subst (λ (x : Span). IsInSpan v x) (sym is) h)
in_at v (t ∷ more) (suc k) s less is h = inr (in_at v more k s (omega (arith, less)) is h)

pub from_any : (v : ℤ) (spans : List Span) → IsInSpans v spans → In v spans
from_any v spans a = in_at v spans a.0 a.1 a.2 a.3 a.4

-- in the tail of such spans, a number is in a later span
far : (s : Span) (more : List Span) → AllPairs (λ a b. (a.high +ℤ pos 1) <ℤ b.low) (s ∷ more) → (v : ℤ) → In v more → (s.high +ℤ pos 1) <ℤ v
far s more pairs v has =
    let a = to_any v more has in
    let low : (s.high +ℤ pos 1) <ℤ a.1.low = subst (λ (x : Span). (s.high +ℤ pos 1) <ℤ x.low) a.3 (pairs 0 (suc a.0) a.1 (omega arith) (omega (arith, a.2))) in
    let above : a.1.low ≤ℤ v = a.4.0 in
    omega (arith, ints)

pub apart : (spans : List Span) → All (λ s. s.low ≤ℤ s.high) spans → AllPairs (λ s t. (s.high +ℤ pos 1) <ℤ t.low) spans → AreApart spans
apart [] upright pairs = tt
apart (s ∷ more) upright pairs =
    (upright 0 s (omega arith), far s more pairs, apart more (λ k d h. upright (suc k) d (omega (arith, h))) (λ i j d less h. pairs (suc i) (suc j) d (omega (arith, less)) (omega (arith, h))))

low_is_least : (s : Span) (more : List Span) → AreApart (s ∷ more) → (v : ℤ) → In v (s ∷ more) → s.low ≤ℤ v
low_is_least s more good v (inl h) = h.0
low_is_least s more good v (inr h) = let far_off = good.1 v h in let upright = good.0 in omega (arith, ints)

-- the number behind a span is in none of them
pub none_behind : (s : Span) (more : List Span) → AreApart (s ∷ more) → In (s.high +ℤ pos 1) (s ∷ more) → ⊥
none_behind s more good (inl h) = let below = h.1 in omega (arith, ints)
none_behind s more good (inr h) = let far_off = good.1 (s.high +ℤ pos 1) h in omega (arith, ints)

same_low : (a b : ℤ) → a ≤ℤ b → b ≤ℤ a → a ≡ b
same_low a b h k = omega (arith, ints)

-- a span isn't higher than one that begins where it does and has the same numbers behind it
not_higher : (s t : Span) (more : List Span) → AreApart (s ∷ more) → s.low ≡ t.low → (In (s.high +ℤ pos 1) (t ∷ []) → In (s.high +ℤ pos 1) (s ∷ more)) → t.high ≤ℤ s.high
not_higher s t more good low to =
    by_lt_z s.high t.high
    (λ less. let upright = good.0 in absurd (none_behind s more good (to (inl (subst (λ (z : ℤ). z ≤ℤ (s.high +ℤ pos 1)) low (omega (arith, ints)), omega (arith, ints))))))
    (λ most. most)

first_only : (v : ℤ) (t : Span) (rest : List Span) → In v (t ∷ []) → In v (t ∷ rest)
first_only v t rest (inl h) = inl h
first_only v t rest (inr h) = absurd h

-- what is behind the first of one list is behind that of the other
behind : (s t : Span) (more rest : List Span) → AreApart (s ∷ more) → s ≡ t → (v : ℤ) → In v more → In v (t ∷ rest) → In v rest
behind s t more rest good same v has (inl h) =
    let far_off = good.1 v has in
    let below : v ≤ℤ s.high = subst (λ (x : Span). v ≤ℤ x.high) (sym same) h.1 in
    absurd (omega (arith, ints))
behind s t more rest good same v has (inr h) = h

same_spans : (xs ys : List Span) → AreApart xs → AreApart ys → ((v : ℤ) → In v xs → In v ys) → ((v : ℤ) → In v ys → In v xs) → xs ≡ ys
same_spans [] [] good other to from = refl
same_spans [] (y ∷ ys) good other to from = absurd (from y.low (inl (omega (arith, ints), other.0)))
same_spans (x ∷ xs) [] good other to from = absurd (to x.low (inl (omega (arith, ints), good.0)))
same_spans (x ∷ xs) (y ∷ ys) good other to from =
    let low : x.low ≡ y.low = same_low x.low y.low (low_is_least x xs good y.low (from y.low (inl (omega (arith, ints), other.0)))) (low_is_least y ys other x.low (to x.low (inl (omega (arith, ints), good.0)))) in
    let high : x.high ≡ y.high =
    same_low x.high y.high
    (not_higher y x ys other (sym low) (λ h. to (y.high +ℤ pos 1) (first_only (y.high +ℤ pos 1) x xs h)))
    (not_higher x y xs good low (λ h. from (x.high +ℤ pos 1) (first_only (x.high +ℤ pos 1) y ys h))) in
    let same : x ≡ y = λ i. record { low = low i; high = high i } in
    let rest = same_spans xs ys good.2 other.2 (λ v has. behind x y xs ys good same v has (to v (inr has))) (λ v has. behind y x ys xs other (sym same) v has (from v (inr has))) in
    λ i. same i ∷ rest i

pub domains_are_one : (xs ys : List Span) → All (λ s. s.low ≤ℤ s.high) xs → AllPairs (λ s t. (s.high +ℤ pos 1) <ℤ t.low) xs → All (λ s. s.low ≤ℤ s.high) ys → AllPairs (λ s t. (s.high +ℤ pos 1) <ℤ t.low) ys
    → ((v : ℤ) → IsInSpans v xs → IsInSpans v ys) → ((v : ℤ) → IsInSpans v ys → IsInSpans v xs) → xs ≡ ys
domains_are_one xs ys upright pairs also others to from =
    same_spans xs ys (apart xs upright pairs) (apart ys also others) (λ v h. from_any v ys (to v (to_any v xs h))) (λ v h. from_any v xs (from v (to_any v ys h)))
