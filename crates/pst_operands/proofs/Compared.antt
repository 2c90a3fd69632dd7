-- What a wanted comparison tells of its operands.
use Rattle.std.proofs.Common.{◌≡◌, ◌≢◌, ⊎_elim, ℤ, pos, ◌-ℤ◌, ◌≤ℤ◌, ◌<ℤ◌, int_lt, int_le, Bool, true, false, not, Option, Some, arith, refl, sym, subst}
use Rattle.std.specs.Ordering.{int_eq}
use Rattle.std.proofs.lemmas.Int.{ints}
use Rattle.std.proofs.lemmas.Bool.Decides.{Decides-int_eq}
use Rattle.pst_expr.specs.declared.ranges.Span.{Span}
use Rattle.pst_expr.specs.Spans.{IsInSpan}
use Rattle.pst_expr.specs.Value.{number_of, is_false}
use Rattle.pst_operands.specs.declared.operands.Operands.{Operands}
use Rattle.pst_operands.specs.Operands.{KeepOperands}
use Rattle.pst_operands.specs.Compared.{KeepPairs}
use Rattle.pst_operands.proofs.Divisions.{at_most_less_or}

pub same_number : (a b : ℤ) → a ≤ℤ b → b ≤ℤ a → a ≡ b
same_number a b h k = omega (arith, ints)

under_one_less : (x n : ℤ) → x ≤ℤ (n -ℤ pos 1) → x <ℤ n
under_one_less x n h = omega (arith, ints)

pub below_other : (x n : ℤ) → x ≤ℤ n → (x ≡ n → ⊥) → x <ℤ n
below_other x n h other = ⊎_elim (λ l. under_one_less x n l) (λ g. absurd (other (same_number x n h g))) (at_most_less_or x n)

pub not_is_true : (b : Bool) → not b ≡ true → b ≡ false
not_is_true true e = absurd cc
not_is_true false e = refl

pub not_is_false : (b : Bool) → not b ≡ false → b ≡ true
not_is_false true e = refl
not_is_false false e = absurd cc

some : (v z : ℤ) → (let s : Option ℤ = Some v in s ≡ Some z) → v ≡ z
some v z e = cc

-- a truth value where 0, and where 1, isn't wanted
pub true_of : (b : Bool) (z : ℤ) (w : Span) → IsInSpan z w → (let s : Option ℤ = Some (number_of b) in s ≡ Some z) → (IsInSpan (pos 0) w → ⊥) → b ≡ true
true_of true z w h e none = refl
true_of false z w h e none = absurd (none (subst (λ v. IsInSpan v w) (sym (some (pos 0) z e)) h))

pub false_of : (b : Bool) (z : ℤ) (w : Span) → IsInSpan z w → (let s : Option ℤ = Some (number_of b) in s ≡ Some z) → (IsInSpan (pos 1) w → ⊥) → b ≡ false
false_of true z w h e none = absurd (none (subst (λ v. IsInSpan v w) (sym (some (pos 1) z e)) h))
false_of false z w h e none = refl

module _ (test : ℤ → ℤ → Bool) (R : ℤ → ℤ → Type 0) (old new : Operands) (w : Span) where
  pub where_true : ((x y : ℤ) → test x y ≡ true → R x y) → (IsInSpan (pos 0) w → ⊥) → KeepPairs R old new → KeepOperands (λ x y. Some (number_of (test x y))) old w new
  where_true tells none keeps = record {
    left = λ x y z h k l e. (keeps x y h k (tells x y (true_of (test x y) z w l e none))).0;
    right = λ x y z h k l e. (keeps x y h k (tells x y (true_of (test x y) z w l e none))).1;
  }

  pub where_false : ((x y : ℤ) → test x y ≡ false → R x y) → (IsInSpan (pos 1) w → ⊥) → KeepPairs R old new → KeepOperands (λ x y. Some (number_of (test x y))) old w new
  where_false tells none keeps = record {
    left = λ x y z h k l e. (keeps x y h k (tells x y (false_of (test x y) z w l e none))).0;
    right = λ x y z h k l e. (keeps x y h k (tells x y (false_of (test x y) z w l e none))).1;
  }

-- ---- tests

pub by_lt : (a b : ℤ) → int_lt a b ≡ true → a <ℤ b
by_lt a b t = omega (arith, ints, t)

pub by_not_lt : (a b : ℤ) → int_lt a b ≡ false → b ≤ℤ a
by_not_lt a b t = omega (arith, ints, t)

pub by_le : (a b : ℤ) → int_le a b ≡ true → a ≤ℤ b
by_le a b t = omega (arith, ints, t)

pub by_not_le : (a b : ℤ) → int_le a b ≡ false → b <ℤ a
by_not_le a b t = omega (arith, ints, t)

pub by_eq : (a b : ℤ) → int_eq a b ≡ true → a ≡ b
by_eq a b t = (Decides-int_eq a b).0 t

pub by_not_eq : (a b : ℤ) → int_eq a b ≡ false → a ≢ b
by_not_eq a b t e = absurd (let k : int_eq a b ≡ true = (Decides-int_eq a b).1 e in cc)

pub by_unequal : (a b : ℤ) → not (int_eq a b) ≡ true → a ≢ b
by_unequal a b t = by_not_eq a b (not_is_true (int_eq a b) t)

pub by_not_unequal : (a b : ℤ) → not (int_eq a b) ≡ false → a ≡ b
by_not_unequal a b t = by_eq a b (not_is_false (int_eq a b) t)

pub zero_in : (x : ℤ) → x ≡ pos 0 → IsInSpan x (record { low = pos 0; high = pos 0 })
zero_in x e = (omega (arith, ints, e), omega (arith, ints, e))

pub is_zero : (x : ℤ) → is_false x ≡ true → x ≡ pos 0
is_zero x t = (Decides-int_eq x (pos 0)).0 t
