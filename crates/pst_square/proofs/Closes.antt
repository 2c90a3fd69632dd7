-- Closure by one middle after another.
use Rattle.std.proofs.Common.{◌≡◌, ⊎_elim, ◌<◌, ◌≤◌, ◌+◌, ◌/◌, ◌++◌, ℕ, List, length, take, refl, ap, subst, ◌∙◌, arith}
use Rattle.std.proofs.Math.Seq.{take-append_seam}
use Rattle.pst_scen.specs.Rows.{row_words}
use Rattle.pst_square.specs.Chains.{IsChain, Once, Chained}
use Rattle.pst_square.specs.Bits.{HasBit, GoThrough, IsClosure}
use Rattle.pst_square.proofs.Numbers.{same_or_not}

pub word_in : (size row b : ℕ) → row ≡ row_words size → b < size → b / 64 < row
word_in size row b is b_in = omega (arith, is, b_in)

-- the chains through each middle below a number are there
pub record ClosedBelow (size row : ℕ) (base words : List ℕ) (k : ℕ) : Type 0 where
  pub many : length words ≡ length base
  pub is : (a b : ℕ) → a < size → b < size → HasBit row words a b → IsChain (HasBit row base) size a b
  pub has : (a b : ℕ) → a < size → b < size → HasBit row base a b → HasBit row words a b
  pub through : (a c b : ℕ) → c < k → a < size → c < size → b < size → HasBit row words a c → HasBit row words c b → HasBit row words a b

pub closed_none : (size row : ℕ) (base : List ℕ) → ClosedBelow size row base base 0
closed_none size row base =
    record {
      many = refl;
      is = λ a b a_in b_in h. Once a b h;
      has = λ a b a_in b_in h. h;
      through = λ a c b below. absurd (omega (arith, below));
    }

module _ (size row : ℕ) (is_row : row ≡ row_words size) (base old new : List ℕ) (k : ℕ) (k_in : k < size) (h : ClosedBelow size row base old k) (g : GoThrough row old new size k) where
  inside : (b : ℕ) → b < size → b / 64 < row
  inside b b_in = word_in size row b is_row b_in

  to_k : (a : ℕ) → HasBit row new a k → HasBit row old a k
  to_k a m = ⊎_elim (λ q. q) (λ q. q.0) (g.only a k (inside k k_in) m)

  from_k : (b : ℕ) → b < size → HasBit row new k b → HasBit row old k b
  from_k b b_in m = ⊎_elim (λ q. q) (λ q. q.1) (g.only k b (inside b b_in) m)

  by_k : (a b : ℕ) → a < size → b < size → HasBit row new a k → HasBit row new k b → HasBit row new a b
  by_k a b a_in b_in m n = g.adds a b a_in (inside b b_in) (to_k a m) (from_k b b_in n)

  below : (a c b : ℕ) → c < k → a < size → c < size → b < size → HasBit row new a c → HasBit row new c b → HasBit row new a b
  below a c b less a_in c_in b_in m n =
      ⊎_elim
      (λ p. ⊎_elim (λ q. g.keeps a b (inside b b_in) (h.through a c b less a_in c_in b_in p q)) (λ q. g.adds a b a_in (inside b b_in) (h.through a c k less a_in c_in k_in p q.0) q.1) (g.only c b (inside b b_in) n))
      (λ p. ⊎_elim (λ q. g.adds a b a_in (inside b b_in) p.0 (h.through k c b less k_in c_in b_in p.1 q)) (λ q. g.adds a b a_in (inside b b_in) p.0 q.1) (g.only c b (inside b b_in) n))
      (g.only a c (inside c c_in) m)

  through : (a c b : ℕ) → c < k + 1 → a < size → c < size → b < size → HasBit row new a c → HasBit row new c b → HasBit row new a b
  through a c b less a_in c_in b_in m n =
      ⊎_elim (λ e. by_k a b a_in b_in (subst (λ (v : ℕ). HasBit row new a v) e m) (subst (λ (v : ℕ). HasBit row new v b) e n))
      (λ differs. below a c b (omega (arith, less, differs)) a_in c_in b_in m n) (same_or_not c k)

  pub closed_next : ClosedBelow size row base new (k + 1)
  closed_next =
      record {
        many = g.many ∙ h.many;
        is = λ a b a_in b_in m.
            ⊎_elim (λ q. h.is a b a_in b_in q) (λ q. Chained a k b k_in (h.is a k a_in k_in q.0) (h.is k b k_in b_in q.1)) (g.only a b (inside b b_in) m);
        has = λ a b a_in b_in m. g.keeps a b (inside b b_in) (h.has a b a_in b_in m);
        through = through;
      }

pub closed_all : (size row : ℕ) (base words : List ℕ) (k : ℕ) → size ≤ k → ClosedBelow size row base words k → IsClosure size row base words
closed_all size row base words k all h = record { many = h.many; chains = λ a b a_in b_in. (h.is a b a_in b_in, has a b a_in b_in) }
  where
    has : (a b : ℕ) → a < size → b < size → IsChain (HasBit row base) size a b → HasBit row words a b
    has _ _ a_in b_in (Once a b m) = h.has a b a_in b_in m
    has _ _ a_in b_in (Chained a c b c_in p q) = h.through a c b (omega (arith, c_in, all)) a_in c_in b_in (has a c a_in c_in p) (has c b c_in b_in q)

-- what stands in a list whose items were all written anew
pub written : (n : ℕ) (new rest is : List ℕ) → n ≡ length new → is ≡ take n (new ++ rest) → is ≡ new
written n new rest is all same = same ∙ ap (λ m. take m (new ++ rest)) all ∙ take-append_seam new rest
