-- What the code of a cut computes.
use Rattle.std.proofs.Common.{◌≡◌, ℤ, true, Option, Some, FitsSigned, w64, to_z, of_z, arith, refl, sym, ap, ap₂, ◌∙◌}
use Rattle.std.specs.Int.{w128, int_min, int_max}
use Rattle.std.proofs.lemmas.Int.{ints, clamps, to_z-of_z}
use lib.Signed.{le_z}
use Rattle.pst_num.specs.Range.{least, greatest}
use Rattle.pst_expr.specs.declared.ranges.Span.{Span}
use Rattle.pst_domain.specs.Cut.{cut}

pub from_wide : (z w : ℤ) → FitsSigned w128 z → w ≡ to_z w128 (of_z w128 z) → w ≡ z
from_wide z w f e = e ∙ to_z-of_z w128 z f

narrowed : (z : ℤ) → FitsSigned w64 z → to_z w64 (of_z w64 (to_z w128 (of_z w128 z))) ≡ z
narrowed z f =
    let wide : FitsSigned w128 z = omega (arith, ints) in
    ap (λ w. to_z w64 (of_z w64 w)) (to_z-of_z w128 z wide) ∙ to_z-of_z w64 z f

-- the bound that the code compares with, and the number beside it
module _ (z bound : ℤ) (f : FitsSigned w128 z) where
  pub greater_is : (b r : ℤ) → FitsSigned w128 bound → b ≡ bound → r ≡ int_max (to_z w128 (of_z w128 z)) (to_z w128 (of_z w128 b)) → r ≡ int_max z bound
  greater_is b r g e h = h ∙ ap₂ int_max (to_z-of_z w128 z f) (ap (λ x. to_z w128 (of_z w128 x)) e ∙ to_z-of_z w128 bound g)

  pub lesser_is : (b r : ℤ) → FitsSigned w128 bound → b ≡ bound → r ≡ int_min (to_z w128 (of_z w128 z)) (to_z w128 (of_z w128 b)) → r ≡ int_min z bound
  lesser_is b r g e h = h ∙ ap₂ int_min (to_z-of_z w128 z f) (ap (λ x. to_z w128 (of_z w128 x)) e ∙ to_z-of_z w128 bound g)

pub cut_yes : (low high : ℤ) → le_z (int_max low least) (int_min high greatest) ≡ true → cut low high ≡ Some (record { low = int_max low least; high = int_min high greatest })
cut_yes low high t = rw t refl

span_of_ends : ℤ → ℤ → Option Span
span_of_ends l h = Some (record { low = l; high = h })

pub cut_found : (low high l h : ℤ) → FitsSigned w128 l → FitsSigned w128 h → l ≡ int_max low least → h ≡ int_min high greatest → le_z (to_z w128 (of_z w128 l)) (to_z w128 (of_z w128 h)) ≡ true → Some (record { low = to_z w64 (of_z w64 (to_z w128 (of_z w128 l))); high = to_z w64 (of_z w64 (to_z w128 (of_z w128 h))) }) ≡ cut low high
unfolding span_of_ends
cut_found low high l h f g el eh t =
    let test : le_z l h ≡ true = ap₂ le_z (sym (to_z-of_z w128 l f)) (sym (to_z-of_z w128 h g)) ∙ t in
    let low_fits : FitsSigned w64 l = omega (arith, ints, clamps, el, eh, test) in
    let high_fits : FitsSigned w64 h = omega (arith, ints, clamps, el, eh, test) in
    ap₂ span_of_ends (narrowed l low_fits ∙ el) (narrowed h high_fits ∙ eh) ∙ sym (cut_yes low high (ap₂ le_z (sym el) (sym eh) ∙ test))

-- what the code's `min` and `max` give
module _ (a b r : ℤ) (f : FitsSigned w128 a) (g : FitsSigned w128 b) where
  pub wide_min : r ≡ int_min (to_z w128 (of_z w128 a)) (to_z w128 (of_z w128 b)) → r ≡ int_min a b
  wide_min h = h ∙ ap₂ int_min (to_z-of_z w128 a f) (to_z-of_z w128 b g)

  pub wide_max : r ≡ int_max (to_z w128 (of_z w128 a)) (to_z w128 (of_z w128 b)) → r ≡ int_max a b
  wide_max h = h ∙ ap₂ int_max (to_z-of_z w128 a f) (to_z-of_z w128 b g)

-- a cut between two numbers of 128 bits
pub cut_between : (x y low high : ℤ) → FitsSigned w128 x → FitsSigned w128 y → x ≡ low → y ≡ high → cut (to_z w128 (of_z w128 x)) (to_z w128 (of_z w128 y)) ≡ cut low high
cut_between x y low high f g e h = ap₂ cut (to_z-of_z w128 x f ∙ e) (to_z-of_z w128 y g ∙ h)

-- the result of an exact operation on two numbers of 64 bits, as the code hands it on
pub handed : (f : ℤ → ℤ → ℤ) (a b r : ℤ) → FitsSigned w64 a → FitsSigned w64 b → FitsSigned w128 r → r ≡ f (to_z w64 (of_z w64 a)) (to_z w64 (of_z w64 b)) → to_z w128 (of_z w128 r) ≡ f a b
handed f a b r fa fb fr e = to_z-of_z w128 r fr ∙ e ∙ ap₂ f (to_z-of_z w64 a fa) (to_z-of_z w64 b fb)

pub four : (f : ℤ → ℤ → ℤ) {a b c d p q r s : ℤ} → a ≡ p → b ≡ q → c ≡ r → d ≡ s → f (f (f a b) c) d ≡ f (f (f p q) r) s
four f ea eb ec ed = ap₂ f (ap₂ f (ap₂ f ea eb) ec) ed
