-- Circles of pairs, and ranks that pairs lead down.
use Rattle.std.proofs.Common.{◌≡◌, ⊎_elim, ◌≤◌, ◌<◌, ◌+◌, ◌-◌, ◌%◌, ◌↔◌, ℕ, List, get_or, sym, subst, arith}
use Rattle.std.specs.Prelude.{IsBitSet}
use Rattle.std.proofs.lemmas.Bool.{cases_lt}
use Rattle.pst_scen.specs.declared.rows.Rows.{Rows}
use Rattle.pst_scen.specs.Rows.{row_words, Has}
use Rattle.pst_scen.specs.Refusals.{IsLeast}
use Rattle.pst_square.specs.Bits.{HasBit, LeadsThrough}
use Rattle.pst_square.specs.Chains.{IsChain, Once, Chained}
use Rattle.pst_square.specs.Circles.{IsOnCircle, Descend, AreChains}
use Rattle.pst_square.proofs.Closes.{word_in}

-- one word of a row more
pub lower_on : (P : ℕ → Type 0) (ranks : List ℕ) (limit at rest : ℕ) → ((b : ℕ) → b < at → P b → get_or ranks b 0 < limit)
    → ((k : ℕ) → IsBitSet rest k ↔ (at % 64 + k < 64) × P (at + k)) → ((k : ℕ) → k < 64 → IsBitSet rest k → get_or ranks (at + k) 0 < limit)
    → (b : ℕ) → b < at + (64 - at % 64) → P b → get_or ranks b 0 < limit
lower_on P ranks limit at rest before is lower b below has = ⊎_elim (λ less. before b less has) here (cases_lt b at)
  where
    here : at ≤ b → get_or ranks b 0 < limit
    here more =
        let same : at + (b - at) ≡ b = omega (arith, more) in
        let fits : at % 64 + (b - at) < 64 = omega (arith, below, more) in
        let set : IsBitSet rest (b - at) = (is (b - at)).1 (fits, subst P (sym same) has) in
        subst (λ (c : ℕ). get_or ranks c 0 < limit) same (lower (b - at) (omega (arith, fits)) set)

-- one number more
pub one_more : (P : ℕ → Type 0) (a : ℕ) → ((b : ℕ) → b < a → P b) → P a → (b : ℕ) → b < a + 1 → P b
one_more P a before here b below = ⊎_elim (before b) (λ more. let same : a ≡ b = omega (arith, more, below) in subst P same here) (cases_lt b a)

-- CHAINS FROM A NUMBER

pub own_chains : (size row : ℕ) (base : List ℕ) → AreChains size row base base
own_chains size row base a b a_in b_in has = Once a b has

pub led_on : (size row : ℕ) → row ≡ row_words size → (base old new : List ℕ) (a m : ℕ) → a < size → m < size → AreChains size row base old → LeadsThrough row old new a m → AreChains size row base new
led_on size row is_row base old new a m a_in m_in sound led x b x_in b_in has =
    ⊎_elim (λ own. sound x b x_in b_in own)
    (λ h. subst (λ (y : ℕ). IsChain (HasBit row base) size y b) (sym h.0) (Chained a m b m_in (sound a m a_in m_in h.1) (sound m b m_in b_in h.2)))
    (led.only x b (word_in size row b is_row b_in) has)

-- RANKS

module _ (rows : Rows) (ranks : List ℕ) (least : ℕ) (down : Descend rows ranks least) where
  chain_down : (a b : ℕ) → a < rows.size → b < rows.size → IsChain (Has rows) rows.size a b → get_or ranks b 0 ≤ get_or ranks a 0
  chain_down _ _ a_in b_in (Once a b pair) = (down a a_in).no_higher b b_in pair
  chain_down _ _ a_in b_in (Chained a c b c_in p q) =
      let first = chain_down a c a_in c_in p in
      let second = chain_down c b c_in b_in q in
      omega (arith, first, second)

  chain_lower : (a b : ℕ) → a < least → a < rows.size → b < rows.size → IsChain (Has rows) rows.size a b → get_or ranks b 0 < get_or ranks a 0
  chain_lower _ _ low a_in b_in (Once a b pair) = (down a a_in).lower b low b_in pair
  chain_lower _ _ low a_in b_in (Chained a c b c_in p q) =
      let first = chain_lower a c low a_in c_in p in
      let second = chain_down c b c_in b_in q in
      omega (arith, first, second)

  pub least_of_circles : least < rows.size → IsChain (Has rows) rows.size least least → IsLeast (IsOnCircle rows) least
  least_of_circles least_in chain = record { is = record { below = least_in; chain = chain }; least = λ b on. ⊎_elim (λ low. absurd (none b low on)) (λ high. high) (cases_lt b least) }
    where
      none : (b : ℕ) → b < least → IsOnCircle rows b → ⊥
      none b low on = let less = chain_lower b b low on.below on.below on.chain in omega (arith, less)
