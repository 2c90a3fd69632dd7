-- Spans that don't touch are the fewest with their numbers.
use Rattle.std.proofs.Common.{◌≡◌, ◌⊎◌, ⊎_elim, true≢false, inl, inr, arith, ◌<◌, ◌≤◌, ◌+◌, length, refl}
use Rattle.std.specs.Prelude.{ℤ, pos, ◌+ℤ◌, ◌≤ℤ◌, ◌<ℤ◌, int_lt, Bool, true, false, List, [], ◌∷◌, All, AllPairs, if◌then◌else◌}
use Rattle.std.specs.List.{filter}
use Rattle.std.proofs.lemmas.Int.{ints}
use Rattle.pst_expr.specs.declared.ranges.Span.{Span}
use Rattle.pst_expr.specs.Spans.{IsInSpan, IsInSpans}
use Rattle.pst_type_rules.proofs.OneDomain.{In, to_any, from_any, AreApart, apart, none_behind}

-- a span that begins behind all of x
abbrev is_later : Span → Span → Bool
is_later x y = int_lt x.high y.low

later : (x y : Span) → is_later x y ≡ true → x.high <ℤ y.low
later x y e = omega (arith, ints, e)

not_later : (x y : Span) → is_later x y ≡ false → y.low ≤ℤ x.high
not_later x y e = omega (arith, ints, e)

kept_short : (b : Bool) (y : Span) (ys : List Span) → length (if b then y ∷ ys else ys) ≤ length ys + 1
kept_short true y ys = omega arith
kept_short false y ys = omega arith

dropped_short : (b : Bool) (y : Span) (ys : List Span) → b ≡ false → length (if b then y ∷ ys else ys) ≤ length ys
dropped_short true y ys e = absurd (true≢false e)
dropped_short false y ys e = omega arith

not_longer : (x : Span) (ys : List Span) → length (filter (is_later x) ys) ≤ length ys
not_longer x [] = omega arith
not_longer x (y ∷ ys) = omega (arith, kept_short (is_later x y) y (filter (is_later x) ys), not_longer x ys)

is_not_later : (x y : Span) (v : ℤ) → y.low ≤ℤ v → v ≤ℤ x.high → is_later x y ≡ false
is_not_later x y v above below = grind (arith, ints)

-- one that has a number of x is dropped
shorter : (x : Span) (v : ℤ) → v ≤ℤ x.high → (ys : List Span) → In v ys → length (filter (is_later x) ys) < length ys
shorter x v below [] has = absurd has
shorter x v below (y ∷ ys) (inl h) = omega (arith, dropped_short (is_later x y) y (filter (is_later x) ys) (is_not_later x y v h.0 below), not_longer x ys)
shorter x v below (y ∷ ys) (inr has) = omega (arith, kept_short (is_later x y) y (filter (is_later x) ys), shorter x v below ys has)

in_tail : (b : Bool) (v : ℤ) (y : Span) (ys : List Span) → In v ys → In v (if b then y ∷ ys else ys)
in_tail true v y ys has = inr has
in_tail false v y ys has = has

in_head : (b : Bool) (v : ℤ) (y : Span) (ys : List Span) → IsInSpan v y → (b ≡ false → ⊥) → In v (if b then y ∷ ys else ys)
in_head true v y ys h missing = inl h
in_head false v y ys h missing = absurd (missing refl)

-- what lies far behind x is kept, where the number behind x is missing
kept : (x : Span) (v : ℤ) → (x.high +ℤ pos 1) <ℤ v → (ys : List Span) → (In (x.high +ℤ pos 1) ys → ⊥) → In v ys → In v (filter (is_later x) ys)
kept x v far [] missing has = absurd has
kept x v far (y ∷ ys) missing (inl h) =
    in_head (is_later x y) v y (filter (is_later x) ys) h
    (λ e. let low = not_later x y e in let high : v ≤ℤ y.high = h.1 in missing (inl (omega (arith, ints), omega (arith, ints))))
kept x v far (y ∷ ys) missing (inr has) = in_tail (is_later x y) v y (filter (is_later x) ys) (kept x v far ys (λ h. missing (inr h)) has)

in_either : (b : Bool) (v : ℤ) (x y : Span) (ys : List Span) → is_later x y ≡ b → In v (if b then y ∷ ys else ys) → (IsInSpan v y × (x.high <ℤ y.low)) ⊎ In v ys
in_either true v x y ys e (inl h) = inl (h, later x y e)
in_either true v x y ys e (inr h) = inr h
in_either false v x y ys e h = inr h

-- what is kept was there, and lies behind x
behind_low : (x y : Span) (v : ℤ) → IsInSpan v y → x.high <ℤ y.low → x.high <ℤ v
behind_low x y v h less = let low : y.low ≤ℤ v = h.0 in omega (arith, ints)

-- what is kept was there, and lies behind x
was_there : (x : Span) (v : ℤ) (ys : List Span) → In v (filter (is_later x) ys) → In v ys × (x.high <ℤ v)
was_there x v [] has = absurd has
was_there x v (y ∷ ys) has =
    ⊎_elim
    (λ h. (inl h.0, behind_low x y v h.0 h.1))
    (λ h. let there = was_there x v ys h in (inr there.0, there.1))
    (in_either (is_later x y) v x y (filter (is_later x) ys) refl has)

not_in_first : (x : Span) (xs : List Span) (v : ℤ) → x.high <ℤ v → In v (x ∷ xs) → In v xs
not_in_first x xs v behind (inl h) = let below : v ≤ℤ x.high = h.1 in absurd (omega (arith, ints))
not_in_first x xs v behind (inr h) = h

shortest : (xs ys : List Span) → AreApart xs → ((v : ℤ) → In v xs → In v ys) → ((v : ℤ) → In v ys → In v xs) → length xs ≤ length ys
shortest [] ys good to from = omega arith
shortest (x ∷ xs) ys good to from =
    let missing : In (x.high +ℤ pos 1) ys → ⊥ = λ h. none_behind x xs good (from (x.high +ℤ pos 1) h) in
    let rest = shortest xs (filter (is_later x) ys) good.2
    (λ v has. kept x v (good.1 v has) ys missing (to v (inr has)))
    (λ v has. let there = was_there x v ys has in not_in_first x xs v there.1 (from v there.0)) in
    omega (arith, rest, shorter x x.low good.0 ys (to x.low (inl (omega (arith, ints), good.0))))

pub shortest_domain : (xs ys : List Span) → All (λ s. s.low ≤ℤ s.high) xs → AllPairs (λ s t. (s.high +ℤ pos 1) <ℤ t.low) xs
    → ((v : ℤ) → IsInSpans v xs → IsInSpans v ys) → ((v : ℤ) → IsInSpans v ys → IsInSpans v xs) → length xs ≤ length ys
shortest_domain xs ys upright pairs to from = shortest xs ys (apart xs upright pairs) (λ v h. from_any v ys (to v (to_any v xs h))) (λ v h. from_any v xs (from v (to_any v ys h)))
