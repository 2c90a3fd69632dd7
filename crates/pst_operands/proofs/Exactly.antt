-- What a value that is there tells of the exact number.
use Rattle.std.proofs.Common.{◌≡◌, ℤ, pos, ◌≤ℤ◌, Bool, true, false, cond, Option, Some, None, arith, refl}
use Rattle.std.specs.Ordering.{int_eq}
use Rattle.std.proofs.lemmas.Int.{ints}
use Rattle.std.proofs.lemmas.Bool.Decides.{Decides-int_eq}
use Rattle.pst_num.specs.Range.{is_in_range, in_range}

pub exact : (v z : ℤ) → in_range v ≡ Some z → v ≡ z
exact v z e = go (is_in_range v) e
  where
    go : (b : Bool) → cond b (Some v) None ≡ Some z → v ≡ z
    go true e = cc
    go false e = absurd cc

-- an operation that gives nothing for 0
pub unless_zero : (y z : ℤ) (v : Option ℤ) → cond (int_eq y (pos 0)) None v ≡ Some z → (y ≡ pos 0 → ⊥) × (v ≡ Some z)
unless_zero y z v e = go (int_eq y (pos 0)) refl e
  where
    go : (b : Bool) → int_eq y (pos 0) ≡ b → cond b None v ≡ Some z → (y ≡ pos 0 → ⊥) × (v ≡ Some z)
    go true t e = absurd cc
    go false t e = ((λ is. absurd (let k : int_eq y (pos 0) ≡ true = (Decides-int_eq y (pos 0)).1 is in cc)), e)

pub same_order : (a b : ℤ) → a ≡ b → a ≤ℤ b
same_order a b e = omega (arith, ints)
