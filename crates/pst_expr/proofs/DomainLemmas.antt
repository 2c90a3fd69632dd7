-- The numbers of a domain: each once, in ascending order.
use Rattle.std.proofs.Common.{◌≡◌, ⊎_elim, ℕ, zero, suc, ◌-◌, ◌<◌, ℤ, pos, ◌+ℤ◌, ◌-ℤ◌, ◌≤ℤ◌, ◌<ℤ◌, nat_abs, List, [], ◌∷◌, ◌++◌, length, get_or, All, AllPairs, Contains, arith, refl, sym, subst, ◌∙◌}
use Rattle.std.proofs.Math.Seq.{get_or-append_right}
use Rattle.std.proofs.Math.ListN.{get_or-append}
use Rattle.std.proofs.lemmas.Int.{ints}
use Rattle.std.proofs.lemmas.List.{length-append}
use Rattle.std.proofs.lemmas.List.Elements.{All-append, All-weaker, All-head, All-tail, All-contains, Contains-append_left, Contains-append_right, Contains-append_cases}
use Rattle.std.proofs.lemmas.Bool.{cases_lt}
use Rattle.pst_expr.specs.declared.ranges.Span.{Span}
use Rattle.pst_expr.specs.Spans.{IsInSpan, IsInSpans, count_of, numbers_from, values}
use Rattle.pst_expr.specs.Laws.{DomainsListValues}
use Rattle.pst_expr.proofs.SpanLemmas.{length-numbers_from, get_or-numbers_from, length-values}

-- ---- the numbers of one span

abbrev IsCounted : ℤ → ℕ → ℤ → Type 0
IsCounted z n v = (z ≤ℤ v) × (v <ℤ (z +ℤ pos n))

all_counted : (z : ℤ) (n : ℕ) → All (IsCounted z n) (numbers_from z n)
all_counted z n k d h =
    let short : k < n = omega (arith, length-numbers_from z n) in
    rw (get_or-numbers_from z n k d short) ((omega (arith, ints)), (omega (arith, ints)))

all_in_span : (s : Span) → s.low ≤ℤ s.high → All (λ v. IsInSpan v s) (numbers_from s.low (count_of s))
all_in_span s u =
    All-weaker (IsCounted s.low (count_of s)) (λ v. IsInSpan v s) (λ v h. (h.0, omega (arith, ints))) (numbers_from s.low (count_of s)) (all_counted s.low (count_of s))

contains_in_span : (s : Span) (v : ℤ) → IsInSpan v s → Contains (numbers_from s.low (count_of s)) v
contains_in_span s v h =
    let k = nat_abs (v -ℤ s.low) in
    let short : k < count_of s = omega (arith, ints) in
    (k, omega (arith, length-numbers_from s.low (count_of s)), get_or-numbers_from s.low (count_of s) k v short ∙ omega (arith, ints))

numbers_ascend : (z : ℤ) (n : ℕ) → AllPairs ◌<ℤ◌ (numbers_from z n)
numbers_ascend z n i j d h k =
    let short : j < n = omega (arith, length-numbers_from z n) in
    let before : i < n = omega arith in
    rw (get_or-numbers_from z n i d before, get_or-numbers_from z n j d short) (omega (arith, ints))

-- ---- pairs

all_pairs_append : {X : Type 0} (R : X → X → Type 0) (xs ys : List X) → AllPairs R xs → AllPairs R ys → ((i j : ℕ) (d : X) → i < length xs → j < length ys → R (get_or xs i d) (get_or ys j d)) → AllPairs R (xs ++ ys)
all_pairs_append R xs ys f g between i j d h k =
    let whole = length-append xs ys in
    ⊎_elim
    (λ inside.
    let before : i < length xs = omega arith in
    rw (get_or-append xs ys d i before, get_or-append xs ys d j inside) (f i j d h inside))
    (λ past.
    ⊎_elim
    (λ before.
    let after : j - length xs < length ys = omega arith in
    rw (get_or-append xs ys d i before, get_or-append_right xs ys j d past) (between i (j - length xs) d before after))
    (λ behind.
    rw (get_or-append_right xs ys i d behind, get_or-append_right xs ys j d past) (g (i - length xs) (j - length xs) d (omega arith) (omega arith)))
    (cases_lt i (length xs)))
    (cases_lt j (length xs))

all_pairs_tail : {X : Type 0} (R : X → X → Type 0) (x : X) (xs : List X) → AllPairs R (x ∷ xs) → AllPairs R xs
all_pairs_tail R x xs f i j d h k = f (suc i) (suc j) d (omega arith) (omega arith)

all_pairs_head : {X : Type 0} (R : X → X → Type 0) (x : X) (xs : List X) → AllPairs R (x ∷ xs) → All (R x) xs
all_pairs_head R x xs f j d k = f zero (suc j) d (omega arith) (omega arith)

-- ---- the numbers of many spans

all_above : (bound : ℤ) (spans : List Span) → All (λ s. s.low ≤ℤ s.high) spans → All (λ s. bound <ℤ s.low) spans → All (λ v. bound <ℤ v) (values spans)
all_above bound [] u h = λ k d l. absurd (omega arith)
all_above bound (s ∷ rest) u h =
    let first : bound <ℤ s.low = All-head (λ (t : Span). bound <ℤ t.low) s rest h in
    let own = All-weaker (λ v. IsInSpan v s) (λ v. bound <ℤ v) (λ v w. omega (arith, ints, w.0)) (numbers_from s.low (count_of s)) (all_in_span s (All-head (λ (t : Span). t.low ≤ℤ t.high) s rest u)) in
    All-append (λ v. bound <ℤ v) (numbers_from s.low (count_of s)) (values rest) own (all_above bound rest (All-tail (λ (t : Span). t.low ≤ℤ t.high) s rest u) (All-tail (λ (t : Span). bound <ℤ t.low) s rest h))

ascend : (spans : List Span) → All (λ s. s.low ≤ℤ s.high) spans → AllPairs (λ s t. s.high <ℤ t.low) spans → AllPairs ◌<ℤ◌ (values spans)
ascend [] u p = λ i j d h k. absurd (omega arith)
ascend (s ∷ rest) u p =
    let upright = All-head (λ (t : Span). t.low ≤ℤ t.high) s rest u in
    let others = All-tail (λ (t : Span). t.low ≤ℤ t.high) s rest u in
    let own = all_in_span s upright in
    let above = all_above s.high rest others (all_pairs_head (λ (a b : Span). a.high <ℤ b.low) s rest p) in
    all_pairs_append ◌<ℤ◌ (numbers_from s.low (count_of s)) (values rest) (numbers_ascend s.low (count_of s)) (ascend rest others (all_pairs_tail (λ (a b : Span). a.high <ℤ b.low) s rest p)) (λ i j d h k. omega (arith, ints, (own i d h).1, above j d k))

some_span : (v : ℤ) (spans : List Span) → All (λ s. s.low ≤ℤ s.high) spans → Contains (values spans) v → IsInSpans v spans
some_span v [] u c = absurd (omega (arith, c.1))
some_span v (s ∷ rest) u c =
    ⊎_elim
    (λ own. (0, s, omega arith, refl, All-contains (λ w. IsInSpan w s) (numbers_from s.low (count_of s)) v (all_in_span s (All-head (λ (t : Span). t.low ≤ℤ t.high) s rest u)) own))
    (λ other.
    let w = some_span v rest (All-tail (λ (t : Span). t.low ≤ℤ t.high) s rest u) other in
    (suc w.0, w.1, omega (arith, w.2), w.3, w.4))
    (Contains-append_cases (numbers_from s.low (count_of s)) (values rest) v c)

in_values : (v : ℤ) (spans : List Span) (k : ℕ) (s : Span) → k < length spans → get_or spans k s ≡ s → IsInSpan v s → Contains (values spans) v
in_values v [] k s h e w = absurd (omega arith)
in_values v (t ∷ rest) zero s h e w =
    Contains-append_left (numbers_from t.low (count_of t)) (values rest) v (contains_in_span t v (subst (IsInSpan v) (sym e) w))
in_values v (t ∷ rest) (suc k) s h e w =
    Contains-append_right (numbers_from t.low (count_of t)) (values rest) v (in_values v rest k s (omega arith) e w)

pub domains_list_values : DomainsListValues
domains_list_values spans d = record {
  count = length-values spans;
  ascending = ascend spans d.upright d.ascending;
  exactly = λ v. (some_span v spans d.upright, λ w. in_values v spans w.0 w.1 w.2 w.3 w.4);
}
