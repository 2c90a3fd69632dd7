-- What a span has of ascending spans.
use Rattle.std.proofs.Common.{◌≡◌, ◌↔◌, ◌⊎◌, inl, inr, ⊎_elim, arith, ℕ, zero, suc, ◌+◌, ◌-◌, ◌<◌, ◌≤◌, length, drop-cons, get_or, drop, take, Bool, true, false, refl, sym, subst, ap, ◌∙◌}
use Rattle.std.specs.Prelude.{ℤ, pos, ◌+ℤ◌, ◌≤ℤ◌, ◌<ℤ◌, int_le, int_lt, List, [], ◌∷◌, ◌++◌, if◌then◌else◌}
use Rattle.std.specs.Int.{int_max, int_min}
use Rattle.std.specs.List.Sorted.{IsPartitionedBy}
use Rattle.std.proofs.lemmas.Bool.{cases_lt}
use Rattle.std.proofs.lemmas.List.{length-drop, take_all}
use Rattle.std.proofs.lemmas.Int.{ints, clamps}
use Rattle.pst_expr.specs.declared.ranges.Span.{Span}
use Rattle.pst_expr.specs.Spans.{IsInSpan, IsInSpans}
use Rattle.pst_joined_spans.specs.Joined.{AreJoined, HaveCommon}
use Rattle.pst_joined_spans.specs.Steps.{HasMore, cut, cuts, span}
use Rattle.pst_joined_spans.proofs.In.{In, to_any, from_any, in_left, in_right, in_parts}
use Rattle.pst_joined_spans.proofs.Joining.{AllFrom, Joined, from_joined}

-- ---- one span of another

between : (a b c d v : ℤ) → int_max a b ≤ℤ v → v ≤ℤ int_min c d → (a ≤ℤ v) × (v ≤ℤ c) × (b ≤ℤ v) × (v ≤ℤ d)
between a b c d v l h = (omega (arith, ints, clamps, l), omega (arith, ints, clamps, h), omega (arith, ints, clamps, l), omega (arith, ints, clamps, h))

inside : (a b c d v : ℤ) → a ≤ℤ v → v ≤ℤ c → b ≤ℤ v → v ≤ℤ d → (int_max a b ≤ℤ v) × (v ≤ℤ int_min c d)
inside a b c d v p q r s = (omega (arith, ints, clamps, p, r), omega (arith, ints, clamps, q, s))

cut_by : (v : ℤ) (r s : Span) (b : Bool) → In v (if b then span (int_max r.low s.low) (int_min r.high s.high) ∷ [] else []) → IsInSpan v r × IsInSpan v s
cut_by v r s true (inl h) = let all = between r.low s.low r.high s.high v h.0 h.1 in ((all.0, all.1), (all.2, all.3))
cut_by v r s true (inr h) = absurd h
cut_by v r s false h = absurd h

pub of_cut : (v : ℤ) (r s : Span) → In v (cut r s) → IsInSpan v r × IsInSpan v s
of_cut v r s h = cut_by v r s (int_le (int_max r.low s.low) (int_min r.high s.high)) h

by_cut : (v : ℤ) (r s : Span) (b : Bool) → int_le (int_max r.low s.low) (int_min r.high s.high) ≡ b → IsInSpan v r → IsInSpan v s → In v (if b then span (int_max r.low s.low) (int_min r.high s.high) ∷ [] else [])
by_cut v r s true is p q = inl (inside r.low s.low r.high s.high v p.0 p.1 q.0 q.1)
by_cut v r s false is p q =
    let all = inside r.low s.low r.high s.high v p.0 p.1 q.0 q.1 in
    let low = all.0 in
    let high = all.1 in
    let over : int_min r.high s.high <ℤ int_max r.low s.low = omega (arith, ints, is) in
    absurd (omega (arith, ints, low, high, over))

pub to_cut : (v : ℤ) (r s : Span) → IsInSpan v r → IsInSpan v s → In v (cut r s)
to_cut v r s p q = by_cut v r s (int_le (int_max r.low s.low) (int_min r.high s.high)) refl p q

-- ---- one span of many

from_low : (l v : ℤ) (spans : List Span) → AllFrom l spans → In v spans → l ≤ℤ v
from_low l v [] all h = absurd h
from_low l v (s ∷ more) all (inl h) = let low = all.0 in let at = h.0 in omega (arith, ints, low, at)
from_low l v (s ∷ more) all (inr h) = from_low l v more all.1 h

of_either : (v : ℤ) (r s : Span) (more : List Span) → (In v (cuts r more) → IsInSpan v r × In v more) → In v (cut r s) ⊎ In v (cuts r more) → IsInSpan v r × In v (s ∷ more)
of_either v r s more rest (inl h) = let both = of_cut v r s h in (both.0, inl both.1)
of_either v r s more rest (inr h) = let both = rest h in (both.0, inr both.1)

cuts_by : (v : ℤ) (r s : Span) (more : List Span) (b : Bool) → (In v (cuts r more) → IsInSpan v r × In v more) → In v (if b then [] else cut r s ++ cuts r more) → IsInSpan v r × In v (s ∷ more)
cuts_by v r s more true rest h = absurd h
cuts_by v r s more false rest h = of_either v r s more rest (in_parts v (cut r s) (cuts r more) h)

pub of_cuts : (v : ℤ) (r : Span) (spans : List Span) → In v (cuts r spans) → IsInSpan v r × In v spans
of_cuts v r [] h = absurd h
of_cuts v r (s ∷ more) h = cuts_by v r s more (int_lt r.high s.low) (of_cuts v r more) h

by_cuts : (v : ℤ) (r s : Span) (more : List Span) (b : Bool) → int_lt r.high s.low ≡ b → Joined (s ∷ more) → IsInSpan v r → (In v more → In v (cuts r more)) → In v (s ∷ more) → In v (if b then [] else cut r s ++ cuts r more)
by_cuts v r s more true is j p rest (inl h) = let at = h.0 in let high = p.1 in absurd (omega (arith, ints, is, at, high))
by_cuts v r s more true is j p rest (inr h) =
    let at = from_low (s.high +ℤ pos 2) v more j.1 h in
    let up = j.0 in
    let high = p.1 in
    absurd (omega (arith, ints, is, at, up, high))
by_cuts v r s more false is j p rest (inl h) = in_left v (cut r s) (cuts r more) (to_cut v r s p h)
by_cuts v r s more false is j p rest (inr h) = in_right v (cut r s) (cuts r more) (rest h)

pub to_cuts : (v : ℤ) (r : Span) (spans : List Span) → Joined spans → IsInSpan v r → In v spans → In v (cuts r spans)
to_cuts v r [] j p h = absurd h
to_cuts v r (s ∷ more) j p h = by_cuts v r s more (int_lt r.high s.low) refl j p (λ g. to_cuts v r more j.2 p g) h

-- ---- behind those that end below it

pub by_lt : (a b : ℤ) → int_lt a b ≡ true → a <ℤ b
by_lt a b t = omega (arith, ints, t)

lt_test : (a b : ℤ) → a <ℤ b → int_lt a b ≡ true
lt_test a b h = grind (arith, ints)

high_at : (spans : List Span) → AreJoined spans → (i k : ℕ) (d : Span) → i ≤ k → k < length spans → (get_or spans i d).high ≤ℤ (get_or spans k d).high
high_at spans j i k d le within =
    ⊎_elim
    (λ less. let far = j.apart i k d less within in let up = j.upright k d within in omega (arith, ints, far, up))
    (λ at. let e : i ≡ k = omega (arith, at, le) in subst (λ (n : ℕ). (get_or spans i d).high ≤ℤ (get_or spans n d).high) e (omega (arith, ints)))
    (cases_lt i k)

-- those that end below a number stand first
pub lower_first : (low : ℤ) (spans : List Span) → AreJoined spans → IsPartitionedBy (λ s. int_lt s.high low) spans
lower_first low spans j i k d le within less =
    let up = high_at spans j i k d le within in
    let under = by_lt (get_or spans k d).high low less in
    lt_test (get_or spans i d).high low (omega (arith, ints, up, under))

pub in_whole : (v : ℤ) (n : ℕ) (spans : List Span) → In v (drop n spans) → In v spans
in_whole v zero spans h = h
in_whole v (suc n) [] h = absurd h
in_whole v (suc n) (s ∷ more) h = inr (in_whole v n more h)

pub in_dropped : (v low : ℤ) (n : ℕ) (spans : List Span) → ((k : ℕ) (d : Span) → k < n → (get_or spans k d).high <ℤ low) → low ≤ℤ v → In v spans → In v (drop n spans)
in_dropped v low zero spans below le h = h
in_dropped v low (suc n) [] below le h = absurd h
in_dropped v low (suc n) (s ∷ more) below le (inl h) = let under = below 0 s (omega arith) in let high = h.1 in absurd (omega (arith, ints, under, le, high))
in_dropped v low (suc n) (s ∷ more) below le (inr h) = in_dropped v low n more (λ k d less. below (suc k) d (omega (arith, less))) le h

pub joined_behind : (n : ℕ) (spans : List Span) → Joined spans → Joined (drop n spans)
joined_behind zero spans j = j
joined_behind (suc n) [] j = tt
joined_behind (suc n) (s ∷ more) j = joined_behind n more j.2

module _ (before spans : List Span) (r : Span) (n : ℕ) (j : AreJoined spans) (below : (k : ℕ) (d : Span) → k < n → (get_or spans k d).high <ℤ r.low) where
  more_to : (v : ℤ) → In v before ⊎ In v (cuts r (drop n spans)) → IsInSpans v before ⊎ (IsInSpans v spans × IsInSpan v r)
  more_to v (inl h) = inl (to_any v before h)
  more_to v (inr h) = let both = of_cuts v r (drop n spans) h in inr (to_any v spans (in_whole v n spans both.1), both.0)

  more_from : (v : ℤ) → IsInSpans v before ⊎ (IsInSpans v spans × IsInSpan v r) → In v (before ++ cuts r (drop n spans))
  more_from v (inl h) = in_left v before (cuts r (drop n spans)) (from_any v before h)
  more_from v (inr h) =
      in_right v before (cuts r (drop n spans))
      (to_cuts v r (drop n spans) (joined_behind n spans (from_joined spans j)) h.1 (in_dropped v r.low n spans below h.1.0 (from_any v spans h.0)))

  pub has_more : (after : List Span) → after ≡ before ++ cuts r (drop n spans) → HasMore before spans r after
  has_more after is v = (
    λ h. more_to v (in_parts v before (cuts r (drop n spans)) (subst (In v) is (from_any v after h))),
    λ h. to_any v after (subst (In v) (sym is) (more_from v h)),
  )

-- ---- the ranges that are left

-- what was found, and what spans have of the ranges that are left, is what they have of all
abbrev pub IsLeft : List Span → List Span → List Span → List Span → Type 0
IsLeft spans found left all = (v : ℤ) → (IsInSpans v found ⊎ (IsInSpans v spans × IsInSpans v left)) ↔ (IsInSpans v spans × IsInSpans v all)

in_none : (v : ℤ) → IsInSpans v [] → ⊥
in_none v h = from_any v [] h

module _ (spans : List Span) where
  nothing_found : (all : List Span) (v : ℤ) → IsInSpans v [] ⊎ (IsInSpans v spans × IsInSpans v all) → IsInSpans v spans × IsInSpans v all
  nothing_found all v (inl h) = absurd (in_none v h)
  nothing_found all v (inr h) = h

  pub at_first : (all : List Span) → IsLeft spans [] all all
  at_first all v = (nothing_found all v, λ h. inr h)

  nothing_left : (found : List Span) (v : ℤ) → IsInSpans v found ⊎ (IsInSpans v spans × IsInSpans v []) → IsInSpans v found
  nothing_left found v (inl h) = h
  nothing_left found v (inr h) = absurd (in_none v h.1)

  pub at_last : (found all : List Span) → IsLeft spans found [] all → HaveCommon spans all found
  at_last found all left v = (λ h. (left v).0 (inl h), λ h. nothing_left found v ((left v).1 h))

  module _ (found more all : List Span) (r : Span) (after : List Span) (left : IsLeft spans found (r ∷ more) all) (has : HasMore found spans r after) where
    back : (v : ℤ) → IsInSpans v found ⊎ (IsInSpans v spans × IsInSpan v r) → IsInSpans v found ⊎ (IsInSpans v spans × IsInSpans v (r ∷ more))
    back v (inl h) = inl h
    back v (inr h) = inr (h.0, to_any v (r ∷ more) (inl h.1))

    step_to : (v : ℤ) → IsInSpans v after ⊎ (IsInSpans v spans × IsInSpans v more) → IsInSpans v spans × IsInSpans v all
    step_to v (inl h) = (left v).0 (back v ((has v).0 h))
    step_to v (inr h) = (left v).0 (inr (h.0, to_any v (r ∷ more) (inr (from_any v more h.1))))

    by_range : (v : ℤ) → IsInSpans v spans → In v (r ∷ more) → IsInSpans v after ⊎ (IsInSpans v spans × IsInSpans v more)
    by_range v p (inl h) = inl ((has v).1 (inr (p, h)))
    by_range v p (inr h) = inr (p, to_any v more h)

    step_from : (v : ℤ) → IsInSpans v found ⊎ (IsInSpans v spans × IsInSpans v (r ∷ more)) → IsInSpans v after ⊎ (IsInSpans v spans × IsInSpans v more)
    step_from v (inl h) = inl ((has v).1 (inl h))
    step_from v (inr h) = by_range v h.0 (from_any v (r ∷ more) h.1)

    pub at_next : IsLeft spans after more all
    at_next v = (step_to v, λ h. step_from v ((left v).1 h))

  pub at_step : (found others after : List Span) (i : ℕ) (d : Span) → i < length others → IsLeft spans found (drop i others) others → HasMore found spans (get_or others i d) after
      → IsLeft spans after (drop (i + 1) others) others
  at_step found others after i d less left has =
      let next : suc i ≡ i + 1 = omega arith in
      subst (λ (n : ℕ). IsLeft spans after (drop n others) others) next
      (at_next found (drop (suc i) others) others (get_or others i d) after (subst (λ (l : List Span). IsLeft spans found l others) (drop-cons others i d less) left) has)

pub has_more_behind : (before spans : List Span) (r : Span) (n : ℕ) → AreJoined spans → n ≤ length spans → ((k : ℕ) (d : Span) → k < n → (get_or spans k d).high <ℤ r.low) → (after : List Span)
    → after ≡ before ++ cuts r (take (length spans - n) (drop n spans)) → HasMore before spans r after
has_more_behind before spans r n j within below after is =
    let long = length-drop n spans in
    let whole = take_all (length spans - n) (drop n spans) (omega (arith, long, within)) in
    has_more before spans r n j below after (is ∙ ap (λ (l : List Span). before ++ cuts r l) whole)
