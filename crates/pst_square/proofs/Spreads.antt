-- Pairs that are spread along a row.
use Rattle.std.proofs.Common.{◌≡◌, ◌⊎◌, inl, inr, ◌<◌, ◌≤◌, ◌+◌, ℕ, List, length, get_or, sym, subst, ◌∙◌, arith}
use Rattle.std.proofs.lemmas.Bool.{cases_lt}
use Rattle.pst_scen.specs.declared.rows.Rows.{Rows}
use Rattle.pst_scen.specs.Rows.{Has}
use Rattle.pst_square.specs.Squares.{Adds, IsInRow}
use Rattle.pst_square.specs.Listed.{ListsAll}
use Rattle.pst_square.specs.Spread.{IsFollower, IsSpread, IsSpreading, IsGathered, IsShared, AreOwn}

module _ (groups : List ℕ) (a : ℕ) where
  -- the pairs that a spread row is spread to, it is spread to
  spread_on : (first middle : Rows) → a < first.size → IsSpreading first middle groups a → (d : ℕ) → IsSpread middle groups a d → IsSpread first groups a d
  spread_on first middle a_in one d h = go (one.sound a h.x a_in x_in h.has)
    where
      x_in : h.x < first.size
      x_in = subst (λ (n : ℕ). h.x < n) one.sized h.x_in

      go : Has first a h.x ⊎ ((a ≡ a) × IsSpread first groups a h.x) → IsSpread first groups a d
      go (inl had) = record { x = h.x; x_in = x_in; same = h.same; has = had }
      go (inr both) = let s = both.1 in record { x = s.x; x_in = s.x_in; same = s.same ∙ h.same; has = s.has }

  pub spreading_then : (first middle last : Rows) → a < first.size → IsSpreading first middle groups a → IsSpreading middle last groups a → IsSpreading first last groups a
  spreading_then first middle last a_in one two = record { sized = two.sized ∙ one.sized; kept = λ c d c_in d_in has. two.kept c d (moved c c_in) (moved d d_in) (one.kept c d c_in d_in has); sound = λ c d c_in d_in has. sound c d c_in d_in (two.sound c d (moved c c_in) (moved d d_in) has) }
    where
      moved : (n : ℕ) → n < first.size → n < middle.size
      moved n n_in = subst (λ (m : ℕ). n < m) (sym one.sized) n_in

      sound : (c d : ℕ) → c < first.size → d < first.size → Has middle c d ⊎ ((c ≡ a) × IsSpread middle groups a d) → Has first c d ⊎ ((c ≡ a) × IsSpread first groups a d)
      sound c d c_in d_in (inl has) = one.sound c d c_in d_in has
      sound c d c_in d_in (inr both) = inr (both.0, spread_on first middle a_in one d both.1)

  module _ (first middle last : Rows) (followers : List ℕ) (i : ℕ) (a_in : a < first.size) (own : AreOwn groups first.size) (all : ListsAll (IsFollower groups) first.size followers) (one : IsSpreading first middle groups a) (two : IsSpreading middle last groups a) (below : i < length followers) where
    moved : (n : ℕ) → n < first.size → n < middle.size
    moved n n_in = subst (λ (m : ℕ). n < m) (sym one.sized) n_in

    pub gathered_more : ((k : ℕ) → k < i → IsGathered first middle groups a (get_or followers k 0)) → IsGathered middle last groups a (get_or followers i 0) → (k : ℕ) → k < i + 1 → IsGathered first last groups a (get_or followers k 0)
    gathered_more before here k less = go (cases_lt k i)
      where
        go : (k < i) ⊎ (i ≤ k) → IsGathered first last groups a (get_or followers k 0)
        go (inl low) has =
            let k_in : get_or followers k 0 < first.size = all.inside k (omega (arith, low, below)) in
            two.kept a (get_or groups (get_or followers k 0) 0) (moved a a_in) (moved (get_or groups (get_or followers k 0) 0) (own.inside (get_or followers k 0) k_in)) (before k low has)
        go (inr high) has =
            let same : i ≡ k = omega (arith, high, less) in
            subst (λ (m : ℕ). IsGathered middle last groups a (get_or followers m 0)) same here
            (one.kept a (get_or followers k 0) a_in (all.inside k (omega (arith, same, below))) has)

    pub shared_more : ((k : ℕ) → k < i → IsShared first middle groups a (get_or followers k 0)) → IsShared middle last groups a (get_or followers i 0) → (k : ℕ) → k < i + 1 → IsShared first last groups a (get_or followers k 0)
    shared_more before here k less = go (cases_lt k i)
      where
        go : (k < i) ⊎ (i ≤ k) → IsShared first last groups a (get_or followers k 0)
        go (inl low) has =
            let k_in : get_or followers k 0 < first.size = all.inside k (omega (arith, low, below)) in
            two.kept a (get_or followers k 0) (moved a a_in) (moved (get_or followers k 0) k_in) (before k low has)
        go (inr high) has =
            let same : i ≡ k = omega (arith, high, less) in
            let k_in : get_or followers k 0 < first.size = all.inside k (omega (arith, same, below)) in
            subst (λ (m : ℕ). IsShared middle last groups a (get_or followers m 0)) same here
            (one.kept a (get_or groups (get_or followers k 0) 0) a_in (own.inside (get_or followers k 0) k_in) has)

  pub row_spread : (first middle last : Rows) → a < first.size → AreOwn groups first.size → IsSpreading first middle groups a → ((b : ℕ) → b < first.size → IsGathered first middle groups a b) → IsSpreading middle last groups a → ((b : ℕ) → b < middle.size → IsShared middle last groups a b) → Adds first last (IsInRow (IsSpread first groups) a)
  row_spread first middle last a_in own one gathered two shared =
      record { sized = whole.sized; has = λ c d c_in d_in. (λ has. to c d (whole.sound c d c_in d_in has), λ either. from c d c_in d_in either) }
    where
      whole : IsSpreading first last groups a
      whole = spreading_then first middle last a_in one two

      to : (c d : ℕ) → Has first c d ⊎ ((c ≡ a) × IsSpread first groups a d) → Has first c d ⊎ IsInRow (IsSpread first groups) a c d
      to c d (inl has) = inl has
      to c d (inr both) = inr (record { first = both.0; related = subst (λ (x : ℕ). IsSpread first groups x d) (sym both.0) both.1 })

      from : (c d : ℕ) → c < first.size → d < first.size → Has first c d ⊎ IsInRow (IsSpread first groups) a c d → Has last c d
      from c d c_in d_in (inl has) = whole.kept c d c_in d_in has
      from c d c_in d_in (inr row) =
          let s = row.related in
          let had : Has first a s.x = subst (λ (n : ℕ). Has first n s.x) row.first s.has in
          let up : Has middle a (get_or groups d 0) = subst (λ (g : ℕ). Has middle a g) s.same (gathered s.x s.x_in had) in
          subst (λ (n : ℕ). Has last n d) (sym row.first) (shared d (subst (λ (m : ℕ). d < m) (sym one.sized) d_in) up)
