-- Tests of numbers and of truth, and what they tell.
use Rattle.std.proofs.Common.{◌≡◌, ◌⊎◌, inl, inr, ℤ, ◌≤ℤ◌, ◌<ℤ◌, int_lt, int_le, Bool, true, false, not, ◌||◌, arith, refl}
use Rattle.std.specs.Ordering.{int_eq}
use Rattle.std.proofs.lemmas.Int.{ints}
use Rattle.std.proofs.lemmas.Bool.Decides.{Decides-int_eq}

pub by_le : (a b : ℤ) → int_le a b ≡ true → a ≤ℤ b
by_le a b t = omega (arith, ints, t)

pub by_not_le : (a b : ℤ) → int_le a b ≡ false → b <ℤ a
by_not_le a b t = omega (arith, ints, t)

pub lt_test : (a b : ℤ) → a <ℤ b → int_lt a b ≡ true
lt_test a b h = grind (arith, ints)

pub not_lt_test : (a b : ℤ) → b ≤ℤ a → int_lt a b ≡ false
not_lt_test a b h = grind (arith, ints)

pub le_test : (a b : ℤ) → a ≤ℤ b → int_le a b ≡ true
le_test a b h = grind (arith, ints)

pub not_le_test : (a b : ℤ) → b <ℤ a → int_le a b ≡ false
not_le_test a b h = grind (arith, ints)

pub at_least_self : (z : ℤ) → z ≤ℤ z
at_least_self z = omega (arith, ints)

pub same_number : (a b : ℤ) → a ≤ℤ b → b ≤ℤ a → a ≡ b
same_number a b h k = omega (arith, ints)

pub by_equality : (a b : ℤ) → int_eq a b ≡ true → a ≡ b
by_equality a b e = (Decides-int_eq a b).0 e

pub equal_test : (a b : ℤ) → a ≡ b → int_eq a b ≡ true
equal_test a b e = (Decides-int_eq a b).1 e

pub unequal_test : (a b : ℤ) → (a ≡ b → ⊥) → int_eq a b ≡ false
unequal_test a b h = go (int_eq a b) refl
  where
    go : (c : Bool) → int_eq a b ≡ c → c ≡ false
    go true e = absurd (h (by_equality a b e))
    go false e = refl

pub some_of : (a b : Bool) → (a || b) ≡ true → (a ≡ true) ⊎ (b ≡ true)
some_of true b e = inl refl
some_of false b e = inr e

pub neither : (a b : Bool) → (a || b) ≡ false → (a ≡ false) × (b ≡ false)
neither true b e = absurd cc
neither false b e = (refl, e)

pub not_true : (b : Bool) → not b ≡ true → b ≡ false
not_true true e = absurd cc
not_true false e = refl

pub not_false : (b : Bool) → not b ≡ false → b ≡ true
not_false true e = refl
not_false false e = absurd cc
