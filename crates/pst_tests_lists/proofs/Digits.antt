-- A digit that names one of a place's options.
use Rattle.std.proofs.Common.{◌≡◌, ℕ, ◌<◌, subst}
use Rattle.pst_scen.specs.declared.next.Next.TheVariants as next
use Rattle.pst_legal.specs.ValueReading.{Answer, Options, Dead, Whole}
use Rattle.pst_shape.specs.Walks.{next_of, HasDigit}

same_count : (n m : ℕ) → next.Options n ≡ next.Options m → n ≡ m
same_count n m e = cc

pub has_digit : (a : Answer) (n digit : ℕ) → next.Options n ≡ next_of a → digit < n → HasDigit a digit
has_digit (Options s m) n digit e l = subst (λ k. digit < k) (same_count n m e) l
has_digit Dead n digit e l = absurd cc
has_digit (Whole s) n digit e l = absurd cc
