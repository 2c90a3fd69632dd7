-- Pairs that are added to a square step by step.
use Rattle.std.proofs.Common.{◌≡◌, ◌↔◌, ◌⊎◌, inl, inr, ⊎_elim, ◌<◌, ◌≤◌, ◌+◌, ℕ, sym, subst, ◌∙◌, refl, arith}
use Rattle.std.proofs.lemmas.Bool.{cases_lt}
use Rattle.pst_scen.specs.declared.rows.Rows.{Rows}
use Rattle.pst_scen.specs.Rows.{Has}
use Rattle.pst_square.specs.Squares.{IsBlank, Adds, IsPair, IsOnly, IsInRow, IsBelow, IsAbove, IsOneOf}

pub adds_none : (old : Rows) (P : ℕ → ℕ → Type 0) → ((c d : ℕ) → P c d → ⊥) → Adds old old P
adds_none old P none = record { sized = refl; has = λ c d c_in d_in. (λ has. inl has, λ either. ⊎_elim (λ has. has) (λ p. absurd (none c d p)) either) }

-- what a relation adds, one with the same pairs adds
pub adds_as : (old new : Rows) (P Q : ℕ → ℕ → Type 0) → Adds old new P → ((c d : ℕ) → c < old.size → d < old.size → P c d → Q c d) → ((c d : ℕ) → c < old.size → d < old.size → Q c d → P c d) → Adds old new Q
adds_as old new P Q added to from =
    record { sized = added.sized; has = λ c d c_in d_in. let one = added.has c d c_in d_in in (λ has. ⊎_elim (λ before. inl before) (λ p. inr (to c d c_in d_in p)) (one.0 has), λ either. one.1 (⊎_elim (λ before. inl before) (λ q. inr (from c d c_in d_in q)) either)) }

pub adds_then : (first middle last : Rows) (P Q : ℕ → ℕ → Type 0) → Adds first middle P → Adds middle last Q → Adds first last (λ c d. P c d ⊎ Q c d)
adds_then first middle last P Q one two =
    record { sized = two.sized ∙ one.sized; has = λ c d c_in d_in. both c d (one.has c d c_in d_in) (two.has c d (subst (λ (n : ℕ). c < n) (sym one.sized) c_in) (subst (λ (n : ℕ). d < n) (sym one.sized) d_in)) }
  where
    both : (c d : ℕ) → Has middle c d ↔ Has first c d ⊎ P c d → Has last c d ↔ Has middle c d ⊎ Q c d → Has last c d ↔ Has first c d ⊎ (P c d ⊎ Q c d)
    both c d a b = (
      λ has. ⊎_elim (λ had. ⊎_elim (λ before. inl before) (λ p. inr (inl p)) (a.0 had)) (λ q. inr (inr q)) (b.0 has),
      λ either. b.1 (⊎_elim (λ before. inl (a.1 (inl before))) (λ pq. ⊎_elim (λ p. inl (a.1 (inr p))) (λ q. inr q) pq) either),
    )

module _ (P : ℕ → ℕ → Type 0) where
  pub below_more : (first middle last : Rows) (a b : ℕ) → Adds first middle (IsBelow (IsInRow P a) b) → Adds middle last (IsOnly P a b) → Adds first last (IsBelow (IsInRow P a) (b + 1))
  below_more first middle last a b one two =
      adds_as first last (λ c d. IsBelow (IsInRow P a) b c d ⊎ IsOnly P a b c d) (IsBelow (IsInRow P a) (b + 1))
      (adds_then first middle last (IsBelow (IsInRow P a) b) (IsOnly P a b) one two) (λ c d c_in d_in. to c d) (λ c d c_in d_in. from c d)
    where
      to : (c d : ℕ) → IsBelow (IsInRow P a) b c d ⊎ IsOnly P a b c d → IsBelow (IsInRow P a) (b + 1) c d
      to c d (inl before) = let below = before.below in record { below = omega (arith, below); related = before.related }
      to c d (inr only) = let at = only.pair.second in record { below = omega (arith, at); related = record { first = only.pair.first; related = only.related } }

      from : (c d : ℕ) → IsBelow (IsInRow P a) (b + 1) c d → IsBelow (IsInRow P a) b c d ⊎ IsOnly P a b c d
      from c d h = go (cases_lt d b)
        where
          go : (d < b) ⊎ (b ≤ d) → IsBelow (IsInRow P a) b c d ⊎ IsOnly P a b c d
          go (inl less) = inl (record { below = less; related = h.related })
          go (inr more) = let below = h.below in inr (record { pair = record { first = h.related.first; second = omega (arith, more, below) }; related = h.related.related })

  pub above_more : (first middle last : Rows) (a : ℕ) → Adds first middle (IsAbove P a) → Adds middle last (IsInRow P a) → Adds first last (IsAbove P (a + 1))
  above_more first middle last a one two =
      adds_as first last (λ c d. IsAbove P a c d ⊎ IsInRow P a c d) (IsAbove P (a + 1))
      (adds_then first middle last (IsAbove P a) (IsInRow P a) one two) (λ c d c_in d_in. to c d) (λ c d c_in d_in. from c d)
    where
      to : (c d : ℕ) → IsAbove P a c d ⊎ IsInRow P a c d → IsAbove P (a + 1) c d
      to c d (inl before) = let below = before.below in record { below = omega (arith, below); related = before.related }
      to c d (inr row) = let at = row.first in record { below = omega (arith, at); related = row.related }

      from : (c d : ℕ) → IsAbove P (a + 1) c d → IsAbove P a c d ⊎ IsInRow P a c d
      from c d h = go (cases_lt c a)
        where
          go : (c < a) ⊎ (a ≤ c) → IsAbove P a c d ⊎ IsInRow P a c d
          go (inl less) = inl (record { below = less; related = h.related })
          go (inr more) = let below = h.below in inr (record { first = omega (arith, more, below); related = h.related })

  pub below_none : (old : Rows) → Adds old old (IsBelow P 0)
  below_none old = adds_none old (IsBelow P 0) (λ c d h. let below = h.below in omega (arith, below))

  pub above_none : (old : Rows) → Adds old old (IsAbove P 0)
  above_none old = adds_none old (IsAbove P 0) (λ c d h. let below = h.below in omega (arith, below))

  -- all rows of a square that had no pair
  pub all_rows : (blank rows : Rows) (size : ℕ) → IsBlank blank size → Adds blank rows (IsAbove P size) → (a b : ℕ) → a < size → b < size → Has rows a b ↔ P a b
  all_rows blank rows size is added a b a_in b_in =
      let one = added.has a b (subst (λ (n : ℕ). a < n) (sym is.sized) a_in) (subst (λ (n : ℕ). b < n) (sym is.sized) b_in) in (
        λ has. ⊎_elim (λ before. absurd (is.none a b before)) (λ h. h.related) (one.0 has),
        λ p. one.1 (inr (record { below = a_in; related = p })),
      )

  -- a pair that the relation has
  pub only_added : (old new : Rows) (a b : ℕ) → P a b → Adds old new (IsPair a b) → Adds old new (IsOnly P a b)
  only_added old new a b has added =
      adds_as old new (IsPair a b) (IsOnly P a b) added
      (λ c d c_in d_in pair. record { pair = pair; related = subst (λ (x : ℕ). P x d) (sym pair.first) (subst (λ (y : ℕ). P a y) (sym pair.second) has) })
      (λ c d c_in d_in only. only.pair)

  pub none_added : (old : Rows) (a b : ℕ) → (P a b → ⊥) → Adds old old (IsOnly P a b)
  none_added old a b not =
      adds_none old (IsOnly P a b) (λ c d only. not (subst (λ (x : ℕ). P x b) only.pair.first (subst (λ (y : ℕ). P c y) only.pair.second only.related)))

-- one relation of a family after another
module _ (F : ℕ → ℕ → ℕ → Type 0) where
  pub family_none : (old : Rows) → Adds old old (IsOneOf F 0)
  family_none old = adds_none old (IsOneOf F 0) (λ c d h. let below = h.below in omega (arith, below))

  pub family_more : (first middle last : Rows) (n : ℕ) → Adds first middle (IsOneOf F n) → Adds middle last (F n) → Adds first last (IsOneOf F (n + 1))
  family_more first middle last n one two =
      adds_as first last (λ c d. IsOneOf F n c d ⊎ F n c d) (IsOneOf F (n + 1))
      (adds_then first middle last (IsOneOf F n) (F n) one two) (λ c d c_in d_in. to c d) (λ c d c_in d_in. from c d)
    where
      to : (c d : ℕ) → IsOneOf F n c d ⊎ F n c d → IsOneOf F (n + 1) c d
      to c d (inl h) = let below = h.below in record { index = h.index; below = omega (arith, below); has = h.has }
      to c d (inr h) = record { index = n; below = omega arith; has = h }

      from : (c d : ℕ) → IsOneOf F (n + 1) c d → IsOneOf F n c d ⊎ F n c d
      from c d h = go (cases_lt h.index n)
        where
          go : (h.index < n) ⊎ (n ≤ h.index) → IsOneOf F n c d ⊎ F n c d
          go (inl less) = inl (record { index = h.index; below = less; has = h.has })
          go (inr more) =
              let below = h.below in
              let same : h.index ≡ n = omega (arith, more, below) in
              inr (subst (λ (i : ℕ). F i c d) same h.has)
