-- How many numbers joined spans have.
use Rattle.std.proofs.Common.{◌≡◌, ⊎_elim, arith, ℕ, suc, ◌+◌, ◌-◌, ◌^◌, ◌<◌, length, get_or, sym, ap, subst}
use Rattle.std.specs.Prelude.{ℤ, pos, ◌+ℤ◌, ◌-ℤ◌, ◌≤ℤ◌, ◌<ℤ◌, unsigned_abs, List, [], ◌∷◌, All}
use Rattle.std.proofs.lemmas.Int.{ints}
use Rattle.std.proofs.lemmas.Bool.{cases_lt}
use Rattle.std.proofs.lemmas.List.{get_or_default}
use Rattle.std.proofs.lemmas.List.Elements.{All-head, All-tail}
use Rattle.std.proofs.lemmas.List.Sums.{sum_by-cons}
use Rattle.pst_expr.specs.declared.ranges.Span.{Span}
use Rattle.pst_expr.specs.Spans.{IsDomain, count_of, size_of}
use Rattle.pst_joined_spans.specs.Joined.{AreJoined}
use Rattle.pst_joined_spans.proofs.Joining.{AllFrom, Joined, from_joined, from_lower}

abbrev IsUpTo : ℤ → Span → Type 0
IsUpTo h s = s.high ≤ℤ h

counted : (s : Span) → s.low ≤ℤ s.high → pos (count_of s) ≡ ((s.high -ℤ s.low) +ℤ pos 1)
counted s up = omega (arith, ints, up)

added : (a b c : ℕ) (x y : ℤ) → c ≡ a + b → pos a ≡ x → pos b ≤ℤ y → pos c ≤ℤ (x +ℤ y)
added a b c x y is p q = omega (arith, ints, is, p, q)

sum_within : (low high h l : ℤ) (n : ℕ) → pos n ≤ℤ (((high -ℤ low) +ℤ pos 1) +ℤ ((h -ℤ (high +ℤ pos 1)) +ℤ pos 1)) → l ≤ℤ low → pos n ≤ℤ ((h -ℤ l) +ℤ pos 1)
sum_within low high h l n e le = omega (arith, ints, e, le)

nothing : (h l : ℤ) → l ≤ℤ (h +ℤ pos 1) → pos 0 ≤ℤ ((h -ℤ l) +ℤ pos 1)
nothing h l e = omega (arith, ints, e)

size_within : (l h : ℤ) (spans : List Span) → Joined spans → AllFrom l spans → All (IsUpTo h) spans → l ≤ℤ (h +ℤ pos 1) → pos (size_of spans) ≤ℤ ((h -ℤ l) +ℤ pos 1)
size_within l h [] j from to room = nothing h l room
size_within l h (s ∷ more) j from to room =
    let top = All-head (IsUpTo h) s more to in
    let rest = size_within (s.high +ℤ pos 1) h more j.2 (from_lower (s.high +ℤ pos 1) (s.high +ℤ pos 2) more (omega (arith, ints)) j.1) (All-tail (IsUpTo h) s more to) (omega (arith, ints, top)) in
    sum_within s.low s.high h l (size_of (s ∷ more))
    (added (count_of s) (size_of more) (size_of (s ∷ more)) ((s.high -ℤ s.low) +ℤ pos 1) ((h -ℤ (s.high +ℤ pos 1)) +ℤ pos 1) (sum_by-cons count_of s more) (counted s j.0) rest) from.0

-- each ends where the last does, or below
up_to_last : (spans : List Span) (last : Span) → AreJoined spans → 0 < length spans → get_or spans (length spans - 1) last ≡ last → All (IsUpTo last.high) spans
up_to_last spans last j some is k d less =
    ⊎_elim
    (λ before.
    let at = subst (λ (s : Span). ((get_or spans k last).high +ℤ pos 1) <ℤ s.low) is (j.apart k (length spans - 1) last (omega (arith, before)) (omega (arith, some))) in
    let up = subst (λ (s : Span). s.low ≤ℤ s.high) is (j.upright (length spans - 1) last (omega (arith, some))) in
    same k d less (omega (arith, ints, at, up)))
    (λ at. same k d less (let e : k ≡ length spans - 1 = omega (arith, at, less) in subst (λ (n : ℕ). (get_or spans n last).high ≤ℤ last.high) (sym e) (subst (λ (s : Span). s.high ≤ℤ last.high) (sym is) (omega (arith, ints)))))
    (cases_lt k (length spans - 1))
  where
    same : (k : ℕ) (d : Span) → k < length spans → (get_or spans k last).high ≤ℤ last.high → (get_or spans k d).high ≤ℤ last.high
    same k d less h = subst (λ (s : Span). s.high ≤ℤ last.high) (get_or_default spans k last d less) h

cons_nil : (s : Span) (more : List Span) → s ∷ more ≡ [] → ⊥
cons_nil s more e = let n : suc (length more) ≡ 0 = ap (λ (l : List Span). length l) e in omega (arith, n)

few_by : (n : ℕ) (low high : ℤ) → low ≤ℤ high → pos n ≤ℤ ((high -ℤ low) +ℤ pos 1) → unsigned_abs (high -ℤ low) + 1 < 2 ^ 64 → n < 2 ^ 64
few_by n low high up within few = omega (arith, ints, up, within, few)

pub is_domain : (spans : List Span) (first last : Span) → AreJoined spans → 0 < length spans → get_or spans 0 first ≡ first → get_or spans (length spans - 1) last ≡ last
    → unsigned_abs (last.high -ℤ first.low) + 1 < 2 ^ 64 → IsDomain spans
is_domain [] first last j some is_first is_last few = absurd (omega (arith, some))
is_domain (s ∷ more) first last j some is_first is_last few =
    let all = up_to_last (s ∷ more) last j some is_last in
    let parts = from_joined (s ∷ more) j in
    let same : s.low ≡ first.low = ap (λ (x : Span). x.low) is_first in
    let up : s.low ≤ℤ s.high = parts.0 in
    let top : s.high ≤ℤ last.high = all 0 s (omega arith) in
    let low : first.low ≤ℤ s.low = omega (arith, ints, same) in
    let behind : AllFrom first.low (s ∷ more) = (low, from_lower first.low (s.high +ℤ pos 2) more (omega (arith, ints, same, up)) parts.1) in
    let within = size_within first.low last.high (s ∷ more) parts behind all (omega (arith, ints, same, up, top)) in
    record {
      some = λ e. absurd (cons_nil s more e);
      upright = j.upright;
      ascending = λ i k d less there. let far = j.apart i k d less there in omega (arith, ints, far);
      few = few_by (size_of (s ∷ more)) first.low last.high (omega (arith, ints, same, up, top)) within few;
    }

pub is_domain_by : (spans : List Span) (d e : Span) → AreJoined spans → 0 < length spans → unsigned_abs ((get_or spans (length spans - 1) d).high -ℤ (get_or spans 0 e).low) < 2 ^ 64 - 1 → IsDomain spans
is_domain_by spans d e j some few =
    is_domain spans (get_or spans 0 e) (get_or spans (length spans - 1) d) j some (get_or_default spans 0 _ e some) (get_or_default spans (length spans - 1) _ d (omega (arith, some))) (omega (arith, few))
