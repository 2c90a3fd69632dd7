-- Spans by their lows, joined where they touch.
use Rattle.std.proofs.Common.{◌≡◌, ◌⊎◌, inl, inr, arith, ℕ, suc, ◌+◌, get_or, ◌++◌, ap, Bool, true, false, refl, sym, subst, ◌∙◌}
use Rattle.std.specs.Prelude.{ℤ, pos, ◌+ℤ◌, ◌≤ℤ◌, ◌<ℤ◌, int_le, List, [], ◌∷◌, All, if◌then◌else◌}
use Rattle.std.specs.Int.{int_max}
use Rattle.std.specs.List.{filter}
use Rattle.std.specs.List.Sorted.{IsPermutation}
use Rattle.std.specs.Ordering.{int_cmp, is_lt}
use Rattle.std.proofs.lemmas.Int.{ints, clamps}
use Rattle.std.proofs.lemmas.Bool.{cond-true, cond-false}
use Rattle.std.proofs.lemmas.List.{append_assoc}
use Rattle.std.proofs.lemmas.List.Elements.{All-cons, All-nil, All-head, All-tail}
use Rattle.std.proofs.lemmas.List.Kept.{AllPairs-cons}
use Rattle.std.proofs.lemmas.List.Sorted.{All-permutation}
use Rattle.pst_expr.specs.declared.ranges.Span.{Span}
use Rattle.pst_expr.specs.Spans.{IsInSpan}
use Rattle.pst_joined_spans.specs.Joined.{AreJoined, HaveSame}
use Rattle.pst_joined_spans.specs.Steps.{AreByLow, both, is_upright, joined, joined_from, touches}
use Rattle.pst_joined_spans.proofs.In.{In, to_any, from_any, reordered, ordered_back, all_upright, of_all, of_upright}

abbrev IsUpright : Span → Type 0
IsUpright s = s.low ≤ℤ s.high

-- upright, and by their lows from one on
abbrev Chain : ℤ → List Span → Type 0
Chain low [] = Unit {0}
Chain low (s ∷ more) = (low ≤ℤ s.low) × (s.low ≤ℤ s.high) × Chain s.low more

-- each begins there or above
abbrev pub AllFrom : ℤ → List Span → Type 0
AllFrom l [] = Unit {0}
AllFrom l (s ∷ more) = (l ≤ℤ s.low) × AllFrom l more

-- joined, one after another
abbrev pub Joined : List Span → Type 0
Joined [] = Unit {0}
Joined (s ∷ more) = (s.low ≤ℤ s.high) × AllFrom (s.high +ℤ pos 2) more × Joined more

-- ---- a span that touches the next

le_of : (a b : ℤ) → int_le a b ≡ true → a ≤ℤ b
le_of a b t = omega (arith, ints, t)

gt_of : (a b : ℤ) → int_le a (b +ℤ pos 1) ≡ false → (b +ℤ pos 2) ≤ℤ a
gt_of a b f = omega (arith, ints, f)

wide : (a b c : ℤ) → a ≤ℤ b → a ≤ℤ int_max b c
wide a b c h = omega (arith, ints, clamps, h)

first_in : (a b c v : ℤ) → a ≤ℤ v → v ≤ℤ b → v ≤ℤ int_max b c
first_in a b c v l h = omega (arith, ints, clamps, l, h)

second_in : (b d v : ℤ) → v ≤ℤ d → v ≤ℤ int_max b d
second_in b d v h = omega (arith, ints, clamps, h)

either : (v : ℤ) (s t : Span) → t.low ≤ℤ (s.high +ℤ pos 1) → (b : Bool) → int_le v s.high ≡ b → IsInSpan v (both s t) → IsInSpan v s ⊎ IsInSpan v t
either v s t near true is h = inl (h.0, le_of v s.high is)
either v s t near false is h =
    let high : v ≤ℤ int_max s.high t.high = h.1 in
    let above : s.high <ℤ v = omega (arith, ints, is) in
    inr (omega (arith, ints, near, above), omega (arith, ints, clamps, high, above))

regroup : (v : ℤ) (s t : Span) (more : List Span) → IsInSpan v s ⊎ IsInSpan v t → In v (s ∷ t ∷ more)
regroup v s t more (inl h) = inl h
regroup v s t more (inr h) = inr (inl h)

module _ (s t : Span) (more : List Span) (v : ℤ) where
  abbrev Next : Bool → Type 0
  Next b = In v (if b then joined_from (both s t) more else s ∷ joined_from t more)

  apart_to : (near : t.low ≤ℤ (s.high +ℤ pos 1)) → In v (both s t ∷ more) → In v (s ∷ t ∷ more)
  apart_to near (inl h) = regroup v s t more (either v s t near (int_le v s.high) refl h)
  apart_to near (inr h) = inr (inr h)

  together : (low : s.low ≤ℤ t.low) → In v (s ∷ t ∷ more) → In v (both s t ∷ more)
  together low (inl h) = inl (h.0, first_in s.low s.high t.high v h.0 h.1)
  together low (inr (inl h)) = inl (omega (arith, ints, low, h.0), second_in s.high t.high v h.1)
  together low (inr (inr h)) = inr h

  step_to : (b : Bool) → touches s t ≡ b → (In v (joined_from (both s t) more) → In v (both s t ∷ more)) → (In v (joined_from t more) → In v (t ∷ more)) → Next b → In v (s ∷ t ∷ more)
  step_to true is one two h = apart_to (le_of t.low (s.high +ℤ pos 1) is) (one h)
  step_to false is one two (inl h) = inl h
  step_to false is one two (inr h) = inr (two h)

  step_from : (b : Bool) → s.low ≤ℤ t.low → (In v (both s t ∷ more) → In v (joined_from (both s t) more)) → (In v (t ∷ more) → In v (joined_from t more)) → In v (s ∷ t ∷ more) → Next b
  step_from true low one two h = one (together low h)
  step_from false low one two (inl h) = inl h
  step_from false low one two (inr h) = inr (two h)

lower : (l low : ℤ) (more : List Span) → l ≤ℤ low → Chain low more → Chain l more
lower l low [] h chain = tt
lower l low (s ∷ more) h chain = let below = chain.0 in (omega (arith, ints, h, below), chain.1, chain.2)

pub joined_to : (s : Span) (more : List Span) (v : ℤ) → In v (joined_from s more) → In v (s ∷ more)
joined_to s [] v h = h
joined_to s (t ∷ more) v h = step_to s t more v (touches s t) refl (joined_to (both s t) more v) (joined_to t more v) h

pub joined_back : (s : Span) (more : List Span) → Chain s.low more → (v : ℤ) → In v (s ∷ more) → In v (joined_from s more)
joined_back s [] chain v h = h
joined_back s (t ∷ more) chain v h =
    step_from s t more v (touches s t) chain.0 (joined_back (both s t) more (lower s.low t.low more chain.0 chain.2) v) (joined_back t more chain.2 v) h

-- ---- what is joined

pub from_lower : (l m : ℤ) (more : List Span) → l ≤ℤ m → AllFrom m more → AllFrom l more
from_lower l m [] h all = tt
from_lower l m (s ∷ more) h all = let below = all.0 in (omega (arith, ints, h, below), from_lower l m more h all.1)

all_step : (l : ℤ) (s t : Span) (more : List Span) (b : Bool) → l ≤ℤ s.low → AllFrom l (joined_from (both s t) more) → AllFrom l (joined_from t more) → AllFrom l (if b then joined_from (both s t) more else s ∷ joined_from t more)
all_step l s t more true h one two = one
all_step l s t more false h one two = (h, two)

all_from : (l : ℤ) (s : Span) (more : List Span) → l ≤ℤ s.low → Chain s.low more → AllFrom l (joined_from s more)
all_from l s [] h chain = (h, tt)
all_from l s (t ∷ more) h chain =
    let next = chain.0 in
    all_step l s t more (touches s t) h (all_from l (both s t) more h (lower s.low t.low more chain.0 chain.2)) (all_from l t more (omega (arith, ints, h, next)) chain.2)

are_step : (s t : Span) (more : List Span) (b : Bool) → touches s t ≡ b → IsUpright s → Chain t.low more → Joined (joined_from (both s t) more) → Joined (joined_from t more)
    → Joined (if b then joined_from (both s t) more else s ∷ joined_from t more)
are_step s t more true is up chain one two = one
are_step s t more false is up chain one two = (up, all_from (s.high +ℤ pos 2) t more (gt_of t.low s.high is) chain, two)

are_joined_from : (s : Span) (more : List Span) → IsUpright s → Chain s.low more → Joined (joined_from s more)
are_joined_from s [] up chain = (up, tt, tt)
are_joined_from s (t ∷ more) up chain =
    are_step s t more (touches s t) refl up chain.2
    (are_joined_from (both s t) more (wide s.low s.high t.high up) (lower s.low t.low more chain.0 chain.2)) (are_joined_from t more chain.1 chain.2)

-- ---- as it is said of lists

far : (h : ℤ) (more : List Span) → AllFrom (h +ℤ pos 2) more → All (λ t. (h +ℤ pos 1) <ℤ t.low) more
far h [] all = All-nil (λ (t : Span). (h +ℤ pos 1) <ℤ t.low)
far h (t ∷ more) all = let low = all.0 in All-cons (λ (t : Span). (h +ℤ pos 1) <ℤ t.low) t more (omega (arith, ints, low)) (far h more all.1)

pub to_joined : (spans : List Span) → Joined spans → AreJoined spans
to_joined [] h = record { upright = λ k d less. absurd (omega (arith, less)); apart = λ i j d less within. absurd (omega (arith, within)) }
to_joined (s ∷ more) h =
    let rest = to_joined more h.2 in
    record {
      upright = All-cons IsUpright s more h.0 rest.upright;
      apart = AllPairs-cons (λ (s t : Span). (s.high +ℤ pos 1) <ℤ t.low) s more (far s.high more h.1) rest.apart;
    }

near : (s : Span) (more : List Span) → All (λ t. (s.high +ℤ pos 1) <ℤ t.low) more → AllFrom (s.high +ℤ pos 2) more
near s [] all = tt
near s (t ∷ more) all =
    let low = All-head (λ (t : Span). (s.high +ℤ pos 1) <ℤ t.low) t more all in (omega (arith, ints, low), near s more (All-tail (λ (t : Span). (s.high +ℤ pos 1) <ℤ t.low) t more all))

pub from_joined : (spans : List Span) → AreJoined spans → Joined spans
from_joined [] j = tt
from_joined (s ∷ more) j = (
  All-head IsUpright s more j.upright,
  near s more (λ k d less. j.apart 0 (suc k) d (omega arith) (omega (arith, less))),
  from_joined more (record { upright = All-tail IsUpright s more j.upright; apart = λ i k d less within. j.apart (suc i) (suc k) d (omega (arith, less)) (omega (arith, within)) }),
)

-- ---- one after another

pub next_together : (found : List Span) (s t : Span) (more : List Span) → touches s t ≡ true → found ++ joined_from (both s t) more ≡ found ++ joined_from s (t ∷ more)
next_together found s t more is = ap (λ (l : List Span). found ++ l) (sym (cond-true (touches s t) (joined_from (both s t) more) (s ∷ joined_from t more) is))

pub next_apart : (found : List Span) (s t : Span) (more : List Span) → touches s t ≡ false → (found ++ s ∷ []) ++ joined_from t more ≡ found ++ joined_from s (t ∷ more)
next_apart found s t more is =
    append_assoc found (s ∷ []) (joined_from t more) ∙ ap (λ (l : List Span). found ++ l) (sym (cond-false (touches s t) (joined_from (both s t) more) (s ∷ joined_from t more) is))

-- ---- sorted

-- what isn't less in the order is no less
pub not_less : (a b : ℤ) → is_lt (int_cmp b a) ≡ false → a ≤ℤ b
not_less a b e = grind (arith, ints)

behind_first : (s : Span) (more : List Span) → AreByLow (s ∷ more) → AreByLow more
behind_first s more by k d less =
    let e : suc k + 1 ≡ suc (k + 1) = omega arith in
    subst (λ (n : ℕ). (get_or more k d).low ≤ℤ (get_or (s ∷ more) n d).low) e (by (suc k) d (omega (arith, less)))

chain_behind : (s : Span) (more : List Span) → AreByLow (s ∷ more) → All IsUpright more → Chain s.low more
chain_behind s [] by up = tt
chain_behind s (t ∷ more) by up =
    (by 0 s (omega arith), All-head IsUpright t more up, chain_behind t more (behind_first s (t ∷ more) by) (All-tail IsUpright t more up))

are_joined : (sorted : List Span) → AreByLow sorted → All IsUpright sorted → AreJoined (joined sorted)
are_joined [] by up = to_joined [] tt
are_joined (s ∷ more) by up = to_joined (joined_from s more) (are_joined_from s more (All-head IsUpright s more up) (chain_behind s more by (All-tail IsUpright s more up)))

to_sorted : (sorted : List Span) (v : ℤ) → In v (joined sorted) → In v sorted
to_sorted [] v h = h
to_sorted (s ∷ more) v h = joined_to s more v h

from_sorted : (sorted : List Span) → AreByLow sorted → All IsUpright sorted → (v : ℤ) → In v sorted → In v (joined sorted)
from_sorted [] by up v h = h
from_sorted (s ∷ more) by up v h = joined_back s more (chain_behind s more by (All-tail IsUpright s more up)) v h

module _ (spans upright sorted : List Span) (are : upright ≡ filter is_upright spans) (same : IsPermutation upright sorted) (by : AreByLow sorted) where
  up : All IsUpright sorted
  up = All-permutation IsUpright upright sorted same (subst (All IsUpright) (sym are) (all_upright spans))

  pub all_joined : AreJoined (joined sorted)
  all_joined = are_joined sorted by up

  pub same_numbers : HaveSame (joined sorted) spans
  same_numbers v = (
    λ h. to_any v spans (of_all v spans (subst (In v) are (ordered_back v upright sorted same (to_sorted sorted v (from_any v (joined sorted) h))))),
    λ h. to_any v (joined sorted) (from_sorted sorted by up v (reordered v upright sorted same (subst (In v) (sym are) (of_upright v spans (from_any v spans h))))),
  )
