-- The values of a domain lie between its least and its greatest.
use Rattle.std.proofs.Common.{◌≡◌, ℕ, zero, suc, ◌<◌, ℤ, ◌≤ℤ◌, ◌<ℤ◌, List, [], ◌∷◌, length, get_or, AllPairs, Some, refl, sym, subst, arith}
use Rattle.std.specs.Prelude.{slice_get}
use Rattle.std.proofs.lemmas.Int.{ints}
use Rattle.pst_expr.specs.declared.ranges.Span.{Span}
use Rattle.pst_expr.specs.Spans.{IsInSpan, IsInSpans, IsDomain}
use Rattle.pst_legal.specs.Standing.{last_high, hull}
use Rattle.pst_built.proofs.SoundActs.{all_get}
use Rattle.pst_built.specs.Known.{Allows}

abbrev AreUpright : List Span → Type 0
AreUpright spans = (k : ℕ) (s : Span) → slice_get spans k ≡ Some s → s.low ≤ℤ s.high

abbrev Ascend : List Span → Type 0
Ascend spans = AllPairs (λ s t. s.high <ℤ t.low) spans

tail : (s : Span) (more : List Span) → Ascend (s ∷ more) → Ascend more
tail s more up i j d l below = up (suc i) (suc j) d (omega (arith, l)) (omega (arith, below))

up_to_last : (s : Span) (more : List Span) → AreUpright (s ∷ more) → Ascend (s ∷ more) → s.high ≤ℤ last_high s.high more
up_to_last s [] upright up = omega (arith, ints)
up_to_last s (t ∷ more) upright up =
    let one : s.high <ℤ t.low = up 0 1 s (omega arith) (omega arith) in
    let two = upright 1 t refl in
    let three = up_to_last t more (λ k x is. upright (suc k) x is) (tail s (t ∷ more) up) in
    omega (arith, ints, one, two, three)

below_last : (s : Span) (more : List Span) → AreUpright (s ∷ more) → Ascend (s ∷ more) → (v : ℤ) (k : ℕ) (x : Span) → k < length (s ∷ more) → get_or (s ∷ more) k x ≡ x → IsInSpan v x → v ≤ℤ last_high s.high more
below_last s more upright up v zero x l e is =
    let own : IsInSpan v s = subst (IsInSpan v) (sym e) is in
    let last = up_to_last s more upright up in
    omega (arith, ints, own.1, last)
below_last s [] upright up v (suc k) x l e is = absurd (omega (arith, l))
below_last s (t ∷ more) upright up v (suc k) x l e is = below_last t more (λ i y at. upright (suc i) y at) (tail s (t ∷ more) up) v k x (omega (arith, l)) e is

above_first : (s : Span) (more : List Span) → AreUpright (s ∷ more) → Ascend (s ∷ more) → (v : ℤ) (k : ℕ) (x : Span) → k < length (s ∷ more) → get_or (s ∷ more) k x ≡ x → IsInSpan v x → s.low ≤ℤ v
above_first s more upright up v zero x l e is = let own : IsInSpan v s = subst (IsInSpan v) (sym e) is in own.0
above_first s more upright up v (suc k) x l e is =
    let one : s.high <ℤ x.low = subst (λ (y : Span). s.high <ℤ y.low) e (up 0 (suc k) x (omega arith) l) in
    let two = upright 0 s refl in
    omega (arith, ints, one, two, is.0)

pub in_hull : (spans : List Span) → IsDomain spans → (v : ℤ) → IsInSpans v spans → Allows (hull spans) v
in_hull [] domain v (k, x, l, e, is) = absurd (omega (arith, l))
in_hull (s ∷ more) domain v (k, x, l, e, is) =
    let upright : AreUpright (s ∷ more) = λ i y at. all_get (λ (t : Span). t.low ≤ℤ t.high) (s ∷ more) i y domain.upright at in
    (above_first s more upright domain.ascending v k x l e is, below_last s more upright domain.ascending v k x l e is)
