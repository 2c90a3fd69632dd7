-- The numbers of spans, one span after another.
use Rattle.std.proofs.Common.{◌≡◌, ◌⊎◌, inl, inr, arith, ℕ, zero, suc, ◌<◌, length, get_or, Bool, true, false, refl, sym, subst, ◌∙◌, true≢false}
use Rattle.std.specs.Prelude.{ℤ, ◌≤ℤ◌, int_le, List, [], ◌∷◌, ◌++◌, All, if◌then◌else◌}
use Rattle.std.specs.List.{filter}
use Rattle.std.specs.List.Sorted.{IsPermutation}
use Rattle.std.proofs.lemmas.Int.{ints}
use Rattle.std.proofs.lemmas.List.Elements.{All-cons, All-nil}
use Rattle.std.proofs.lemmas.List.Sorted.{Contains-permutation, IsPermutation-sym}
use Rattle.pst_expr.specs.declared.ranges.Span.{Span}
use Rattle.pst_expr.specs.Spans.{IsInSpan, IsInSpans}
use Rattle.pst_joined_spans.specs.Steps.{is_upright}

abbrev pub In : ℤ → List Span → Type 0
In v [] = ⊥
In v (s ∷ more) = IsInSpan v s ⊎ In v more

pub to_any : (v : ℤ) (spans : List Span) → In v spans → IsInSpans v spans
to_any v [] h = absurd h
to_any v (s ∷ more) (inl h) = (0, s, omega arith, refl, h)
to_any v (s ∷ more) (inr h) = let a = to_any v more h in (suc a.0, a.1, omega (arith, a.2), a.3, a.4)

in_at : (v : ℤ) (spans : List Span) (k : ℕ) (s : Span) → k < length spans → get_or spans k s ≡ s → IsInSpan v s → In v spans
in_at v [] k s less is h = absurd (omega (arith, less))
in_at v (t ∷ more) zero s less is h = inl (subst (λ (x : Span). IsInSpan v x) (sym is) h)
in_at v (t ∷ more) (suc k) s less is h = inr (in_at v more k s (omega (arith, less)) is h)

pub from_any : (v : ℤ) (spans : List Span) → IsInSpans v spans → In v spans
from_any v spans a = in_at v spans a.0 a.1 a.2 a.3 a.4

-- ---- lists after lists

pub in_left : (v : ℤ) (xs ys : List Span) → In v xs → In v (xs ++ ys)
in_left v [] ys h = absurd h
in_left v (s ∷ xs) ys (inl h) = inl h
in_left v (s ∷ xs) ys (inr h) = inr (in_left v xs ys h)

pub in_right : (v : ℤ) (xs ys : List Span) → In v ys → In v (xs ++ ys)
in_right v [] ys h = h
in_right v (s ∷ xs) ys h = inr (in_right v xs ys h)

deeper : (v : ℤ) (s : Span) (xs ys : List Span) → In v xs ⊎ In v ys → In v (s ∷ xs) ⊎ In v ys
deeper v s xs ys (inl h) = inl (inr h)
deeper v s xs ys (inr h) = inr h

pub in_parts : (v : ℤ) (xs ys : List Span) → In v (xs ++ ys) → In v xs ⊎ In v ys
in_parts v [] ys h = inr h
in_parts v (s ∷ xs) ys (inl h) = inl (inl h)
in_parts v (s ∷ xs) ys (inr h) = deeper v s xs ys (in_parts v xs ys h)

-- ---- in another order

pub reordered : (v : ℤ) (xs ys : List Span) → IsPermutation xs ys → In v xs → In v ys
reordered v xs ys same h =
    let a = to_any v xs h in
    let c = Contains-permutation xs ys a.1 same (a.0, a.2, a.3) in
    in_at v ys c.0 a.1 c.1 c.2 a.4

pub ordered_back : (v : ℤ) (xs ys : List Span) → IsPermutation xs ys → In v ys → In v xs
ordered_back v xs ys same h = reordered v ys xs (IsPermutation-sym xs ys same) h

-- ---- without reversed ones

by_le : (a b : ℤ) → int_le a b ≡ true → a ≤ℤ b
by_le a b t = omega (arith, ints, t)

le_test : (a b : ℤ) → a ≤ℤ b → int_le a b ≡ true
le_test a b h = grind (arith, ints)

kept : (b : Bool) (s : Span) (more : List Span) → is_upright s ≡ b → All (λ s. s.low ≤ℤ s.high) more → All (λ s. s.low ≤ℤ s.high) (if b then s ∷ more else more)
kept true s more is rest = All-cons (λ (s : Span). s.low ≤ℤ s.high) s more (by_le s.low s.high is) rest
kept false s more is rest = rest

pub all_upright : (spans : List Span) → All (λ s. s.low ≤ℤ s.high) (filter is_upright spans)
all_upright [] = All-nil (λ (s : Span). s.low ≤ℤ s.high)
all_upright (s ∷ more) = kept (is_upright s) s (filter is_upright more) refl (all_upright more)

within : (v : ℤ) (b : Bool) (s : Span) (some more : List Span) → (In v some → In v more) → In v (if b then s ∷ some else some) → In v (s ∷ more)
within v true s some more rest (inl h) = inl h
within v true s some more rest (inr h) = inr (rest h)
within v false s some more rest h = inr (rest h)

pub of_all : (v : ℤ) (spans : List Span) → In v (filter is_upright spans) → In v spans
of_all v [] h = h
of_all v (s ∷ more) h = within v (is_upright s) s (filter is_upright more) more (of_all v more) h

there : (v : ℤ) (b : Bool) (s : Span) (some more : List Span) → is_upright s ≡ b → (In v more → In v some) → In v (s ∷ more) → In v (if b then s ∷ some else some)
there v true s some more is rest (inl h) = inl h
there v true s some more is rest (inr h) = inr (rest h)
there v false s some more is rest (inl h) = absurd (true≢false (sym (le_test s.low s.high (omega (arith, ints, h.0, h.1))) ∙ is))
there v false s some more is rest (inr h) = rest h

pub of_upright : (v : ℤ) (spans : List Span) → In v spans → In v (filter is_upright spans)
of_upright v [] h = h
of_upright v (s ∷ more) h = there v (is_upright s) s (filter is_upright more) more refl (of_upright v more) h
