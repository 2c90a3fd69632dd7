-- Meanings in order of place are told by which there are.
use Rattle.std.proofs.Common.{◌≡◌, ◌⊎◌, inl, inr, ℕ, zero, suc, ◌<◌, List, [], ◌∷◌, length, get_or, refl, sym, subst, arith, Contains}
use Rattle.pst_base.specs.Places.{IsBefore}
use Rattle.pst_base.specs.Laws.{NoneIsBeforeItself, BeforeGoesOn}
use Rattle.pst_ast.specs.declared.entry.NameMeaning.{NameMeaning}
use Rattle.pst_ast.specs.Scopes.{AreInOrder}

abbrev In : NameMeaning → List NameMeaning → Type 0
In m [] = ⊥
In m (x ∷ xs) = (x ≡ m) ⊎ In m xs

to_contains : (xs : List NameMeaning) (m : NameMeaning) → In m xs → Contains xs m
to_contains [] m has = absurd has
to_contains (x ∷ xs) m (inl e) = (0, omega arith, e)
to_contains (x ∷ xs) m (inr has) = let c = to_contains xs m has in (suc c.0, omega (arith, c.1), c.2)

in_at : (xs : List NameMeaning) (m : NameMeaning) (k : ℕ) → k < length xs → get_or xs k m ≡ m → In m xs
in_at [] m k l e = absurd (omega (arith, l))
in_at (x ∷ xs) m zero l e = inl e
in_at (x ∷ xs) m (suc k) l e = inr (in_at xs m k (omega (arith, l)) e)

from_contains : (xs : List NameMeaning) (m : NameMeaning) → Contains xs m → In m xs
from_contains xs m c = in_at xs m c.0 c.1 c.2

module _ (never : NoneIsBeforeItself) (on : BeforeGoesOn) where
  same_heads : (x y : NameMeaning) (xs ys : List NameMeaning) → AreInOrder (x ∷ xs) → AreInOrder (y ∷ ys) → (y ≡ x) ⊎ In x ys → (x ≡ y) ⊎ In y xs → x ≡ y
  same_heads x y xs ys first second (inl e) there = sym e
  same_heads x y xs ys first second (inr a) (inl e) = e
  same_heads x y xs ys first second (inr a) (inr b) = absurd (never x.at (on x.at y.at x.at (first.0 y (to_contains xs y b)) (second.0 x (to_contains ys x a))))

  -- what stands behind the first of one list stands behind that of the other
  behind : (x y m : NameMeaning) (xs ys : List NameMeaning) → x ≡ y → AreInOrder (x ∷ xs) → In m xs → (y ≡ m) ⊎ In m ys → In m ys
  behind x y m xs ys same first has (inl e) = absurd (never m.at (subst (λ (z : NameMeaning). IsBefore z.at m.at) e (subst (λ (z : NameMeaning). IsBefore z.at m.at) same (first.0 m (to_contains xs m has)))))
  behind x y m xs ys same first has (inr there) = there

  same_lists : (xs ys : List NameMeaning) → AreInOrder xs → AreInOrder ys → ((m : NameMeaning) → In m xs → In m ys) → ((m : NameMeaning) → In m ys → In m xs) → xs ≡ ys
  same_lists [] [] first second to from = refl
  same_lists [] (y ∷ ys) first second to from = absurd (from y (inl refl))
  same_lists (x ∷ xs) [] first second to from = absurd (to x (inl refl))
  same_lists (x ∷ xs) (y ∷ ys) first second to from =
      let same = same_heads x y xs ys first second (to x (inl refl)) (from y (inl refl)) in
      let rest = same_lists xs ys first.1 second.1
      (λ m has. behind x y m xs ys same first has (to m (inr has)))
      (λ m has. behind y x m ys xs (sym same) second has (from m (inr has))) in
      λ i. same i ∷ rest i

  pub same_meanings : (xs ys : List NameMeaning) → AreInOrder xs → AreInOrder ys
      → ((m : NameMeaning) → Contains xs m → Contains ys m) → ((m : NameMeaning) → Contains ys m → Contains xs m) → xs ≡ ys
  same_meanings xs ys first second to from =
      same_lists xs ys first second
      (λ m has. from_contains ys m (to m (to_contains xs m has)))
      (λ m has. from_contains xs m (from m (to_contains ys m has)))
