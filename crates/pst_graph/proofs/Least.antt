-- Searches for the least number or pair.
use Rattle.std.proofs.Common.{◌≡◌, ◌⊎◌, inl, inr, ⊎_elim, ◌<◌, ◌≤◌, ◌+◌, ℕ, sym, subst, arith}
use Rattle.std.proofs.lemmas.Bool.{cases_lt, cases_order}
use Rattle.pst_scen.specs.declared.rows.Rows.{Rows}
use Rattle.pst_scen.specs.Rows.{Has}
use Rattle.pst_scen.specs.Refusals.{IsLeast, IsLeastPair}
use Rattle.pst_square.specs.Next.{IsNext}

-- no number below that one has the property
abbrev pub HoldsNowhereBelow : (ℕ → Type 0) → ℕ → Type 0
HoldsNowhereBelow P n = (m : ℕ) → m < n → P m → ⊥

pub least_here : (P : ℕ → Type 0) (n : ℕ) → HoldsNowhereBelow P n → P n → IsLeast P n
least_here P n before holds = record { is = holds; least = λ m p. ⊎_elim (λ less. absurd (before m less p)) (λ more. more) (cases_lt m n) }

pub least_pair : (P : ℕ → ℕ → Type 0) (a b : ℕ) → ((c d : ℕ) → c < a → P c d → ⊥) → IsLeast (P a) b → IsLeastPair P a b
least_pair P a b before h = record { is = h.is; least = by_first }
  where
    by_first : (c d : ℕ) → P c d → (a < c) ⊎ ((a ≡ c) × (b ≤ d))
    by_first c d p =
        ⊎_elim (λ same. inr (same, h.least d (subst (λ (x : ℕ). P x d) (sym same) p)))
        (λ order. ⊎_elim (λ less. inl less) (λ more. absurd (before c d more p)) order)
        (cases_order a c)

pub none_at : (P : ℕ → ℕ → Type 0) (a : ℕ) → ((c d : ℕ) → c < a → P c d → ⊥) → ((d : ℕ) → P a d → ⊥) → (c d : ℕ) → c < a + 1 → P c d → ⊥
none_at P a before here c d below p =
    ⊎_elim (λ less. before c d less p)
    (λ more. let same : c ≡ a = omega (arith, more, below) in here d (subst (λ (x : ℕ). P x d) same p)) (cases_lt c a)

-- no number up to that one has the property
abbrev pub HoldsNowhereTo : (ℕ → Type 0) → ℕ → Type 0
HoldsNowhereTo P n = (m : ℕ) → m ≤ n → P m → ⊥

-- a search through the pairs of a row, where what is looked for has pairs there
module _ (rows : Rows) (a : ℕ) (P : ℕ → Type 0) (sound : (b : ℕ) → a < b → P b → (b < rows.size) × Has rows a b) (at : ℕ) (behind : a ≤ at) (before : HoldsNowhereTo P at) where
  before_next : (b : ℕ) → IsNext rows a at b → HoldsNowhereBelow P b
  before_next b next c less p =
      ⊎_elim (λ high. next.none c high less (sound c (omega (arith, behind, high)) p).1)
      (λ low. before c low p) (cases_lt at c)

  pub found_in : (b : ℕ) → IsNext rows a at b → P b → IsLeast P b
  found_in b next p = least_here P b (before_next b next) p

  pub passed_in : (b : ℕ) → IsNext rows a at b → (P b → ⊥) → HoldsNowhereTo P b
  passed_in b next not c less p =
      ⊎_elim (λ low. before_next b next c low p)
      (λ high. let same : c ≡ b = omega (arith, high, less) in not (subst P same p)) (cases_lt c b)

  pub nowhere_in : ((b : ℕ) → at < b → b < rows.size → Has rows a b → ⊥) → (b : ℕ) → P b → ⊥
  nowhere_in none b p =
      ⊎_elim (λ high. let is = sound b (omega (arith, behind, high)) p in none b high is.0 is.1)
      (λ low. before b low p) (cases_lt at b)
