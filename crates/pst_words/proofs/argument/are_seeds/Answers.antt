use Rattle.std.proofs.Common.{arith, ap, sym, ◌∙◌, ◌≡◌, ◌+◌, ◌^◌, ◌<◌, ◌≤◌, ℕ, List, Bool, true, false, nat_le, decimal, Option, Some, MatchBool, map, string_bytes}
use Rattle.std.proofs.lemmas.Bool.Decides.{nat_tests}
use Rattle.std.proofs.lemmas.Fmt.{decimal_injective}
use Rattle.pst_words.specs.declared.key.Key.TheVariants.{Count, First}
use Rattle.pst_words.specs.Lines.{given, AreSeeds}
use Rattle.pst_words.proofs.Dropped.{some_one}
use Rattle.pst_words.proofs.argument.are_seeds.Goals as goal

one_given : (n m : ℕ) (o : Option (List ℕ)) → n < 2 ^ 64 → m < 2 ^ 64 → o ≡ Some (decimal n) → o ≡ Some (decimal m) → n ≡ m
one_given n m o small below e f = decimal_injective n m small below (some_one (decimal n) (decimal m) (sym e ∙ f))

by_sum : (words : List (List ℕ)) (first count : ℕ) → first < 2 ^ 64 → count < 2 ^ 64 → given First words ≡ Some (decimal first) → given Count words ≡ Some (decimal count)
    → (b : Bool) → b ≡ nat_le (first + count) (2 ^ 64) → MatchBool b (AreSeeds words) (AreSeeds words → ⊥)
by_sum words first count small below f g true is = λ n m n_small m_small e h.
    let one : first ≡ n = one_given first n (given First words) small n_small f e in
    let other : count ≡ m = one_given count m (given Count words) below m_small g h in
    grind (arith, nat_tests, is, one, other)
by_sum words first count small below f g false is = λ h. let right : first + count ≤ 2 ^ 64 = h first count small below f g in absurd (grind (arith, nat_tests, is, right))

pub returns : goal.returns
returns c = by_sum (map string_bytes c.args.words.now) c.in-Some.first c.in-Some-number_given.count c.in-Some.ensures.1 c.in-Some-number_given.ensures.1 c.in-Some.ensures.0 c.in-Some-number_given.ensures.0 _ (ap (λ k. nat_le k (2 ^ 64)) (grind (arith, c.from.ensures, c.from-2.ensures)))
