-- Lists of the actions that have something, and the pairs of those that are listed.
use Rattle.std.proofs.Common.{◌≡◌, ◌⊎◌, inl, inr, ◌<◌, ◌≤◌, ◌+◌, ◌++◌, ◌∷◌, [], ℕ, List, length, get_or, refl, sym, subst, ◌∙◌, arith}
use Rattle.std.proofs.lemmas.Bool.{cases_lt}
use Rattle.std.proofs.lemmas.List.{get_or_push, length_push, get_or_append_left}
use Rattle.pst_scen.specs.declared.rows.Rows.{Rows}
use Rattle.pst_square.specs.Squares.{Adds, IsOnly, IsInRow, IsOneOf}
use Rattle.pst_square.specs.Listed.{ListsAll}
use Rattle.pst_square.proofs.Adding.{adds_as}

module _ (P : ℕ → Type 0) where
  pub lists_none : ListsAll P 0 []
  lists_none = record { inside = λ i below. absurd (omega (arith, below)); all = λ a below has. absurd (omega (arith, below)) }

  last : (a b : ℕ) → a < b + 1 → (a < b) ⊎ (a ≡ b)
  last a b below = go (cases_lt a b)
    where
      go : (a < b) ⊎ (b ≤ a) → (a < b) ⊎ (a ≡ b)
      go (inl less) = inl less
      go (inr more) = inr (omega (arith, more, below))

  pub lists_more : (list : List ℕ) (a : ℕ) → ListsAll P a list → ListsAll P (a + 1) (list ++ a ∷ [])
  lists_more list a before = record { inside = λ i below. inside i below (cases_lt i (length list)); all = λ b below has. all b has (last b a below) }
    where
      inside : (i : ℕ) → i < length (list ++ a ∷ []) → (i < length list) ⊎ (length list ≤ i) → get_or (list ++ a ∷ []) i 0 < a + 1
      inside i below (inl less) =
          let is = get_or_append_left list (a ∷ []) 0 i less in
          let low = before.inside i less in
          omega (arith, is, low)
      inside i below (inr more) =
          let many : i < length list + 1 = subst (λ (n : ℕ). i < n) (length_push list a) below in
          let same : length list ≡ i = omega (arith, more, many) in
          let is = get_or_push list a 0 i same in
          omega (arith, is)

      all : (b : ℕ) → P b → (b < a) ⊎ (b ≡ a) → (i : ℕ) × (i < length (list ++ a ∷ [])) × (get_or (list ++ a ∷ []) i 0 ≡ b)
      all b has (inl less) =
          let at = before.all b less has in
          let within = at.1 in
          let many = length_push list a in
          (at.0, omega (arith, within, many), get_or_append_left list (a ∷ []) 0 at.0 at.1 ∙ at.2)
      all b has (inr same) =
          let many = length_push list a in
          (length list, omega (arith, many), get_or_push list a 0 (length list) refl ∙ sym same)

  pub lists_same : (list : List ℕ) (a : ℕ) → (P a → ⊥) → ListsAll P a list → ListsAll P (a + 1) list
  lists_same list a not before =
      record { inside = λ i below. let low = before.inside i below in omega (arith, low); all = λ b below has. all b has (last b a below) }
    where
      all : (b : ℕ) → P b → (b < a) ⊎ (b ≡ a) → (i : ℕ) × (i < length list) × (get_or list i 0 ≡ b)
      all b has (inl less) = before.all b less has
      all b has (inr same) = absurd (not (subst P same has))

-- the pairs of one row, and of all rows, where those listed are all that can have some
module _ (P : ℕ → ℕ → Type 0) (first end : Rows) (list : List ℕ) where
  pub listed_row : (Q : ℕ → Type 0) (a n : ℕ) → first.size ≡ n → ListsAll Q n list → ((c d : ℕ) → P c d → Q d) → (to : ℕ) → length list ≤ to → to ≤ length list → Adds first end (IsOneOf (λ i. IsOnly P a (get_or list i 0)) to) → Adds first end (IsInRow P a)
  listed_row Q a n size all has to upper lower added =
      adds_as first end (IsOneOf (λ i. IsOnly P a (get_or list i 0)) to) (IsInRow P a) added
      (λ c d c_in d_in h. record { first = h.has.pair.first; related = h.has.related })
      (λ c d c_in d_in h.
      let at = all.all d (subst (λ (m : ℕ). d < m) size d_in) (has c d h.related) in
      let within = at.1 in
      record { index = at.0; below = omega (arith, within, upper); has = record { pair = record { first = h.first; second = sym at.2 }; related = h.related } })

  pub listed_rows : (Q : ℕ → Type 0) (n : ℕ) → first.size ≡ n → ListsAll Q n list → ((c d : ℕ) → P c d → Q c) → (to : ℕ) → length list ≤ to → to ≤ length list → Adds first end (IsOneOf (λ i. IsInRow P (get_or list i 0)) to) → Adds first end P
  listed_rows Q n size all has to upper lower added =
      adds_as first end (IsOneOf (λ i. IsInRow P (get_or list i 0)) to) P added
      (λ c d c_in d_in h. h.has.related)
      (λ c d c_in d_in h.
      let at = all.all c (subst (λ (m : ℕ). c < m) size c_in) (has c d h) in
      let within = at.1 in
      record { index = at.0; below = omega (arith, within, upper); has = record { first = sym at.2; related = h } })
