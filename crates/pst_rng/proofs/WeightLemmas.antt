-- What a walk along the weights has found where it stops.
use Rattle.std.proofs.Common.{◌≡◌, ℕ, ◌+◌, ◌<◌, ◌≤◌, List, length, take, get_or, sum, ap, arith}
use Rattle.std.proofs.lemmas.List.{take-take}
use Rattle.std.proofs.lemmas.List.Sums.{sum_by-take-le, sum_by_more}
use Rattle.pst_rng.specs.Weights.{IsLeastAbove}

-- a shorter front has no greater sum
sum-take-le : (weights : List ℕ) (shorter longer : ℕ) → shorter ≤ longer → sum (take shorter weights) ≤ sum (take longer weights)
sum-take-le weights shorter longer within =
    omega (arith, ap sum (take-take shorter longer weights within), sum_by-take-le (λ x. x) (take longer weights) shorter)

pub least_above : (number left index : ℕ) (weights : List ℕ) → index < length weights
    → left + sum (take index weights) ≡ number → left < get_or weights index 0 → IsLeastAbove number weights index
least_above number left index weights within summed below = record {
  within = within;
  exceeds = omega (arith, sum_by_more (λ x. x) weights index 0 within);
  least = λ earlier before. let shorter : earlier + 1 ≤ index = omega arith in omega (arith, sum-take-le weights (earlier + 1) index shorter);
}
