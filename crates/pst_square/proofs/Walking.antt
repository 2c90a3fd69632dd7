-- A walk along pairs, step by step.
use Rattle.std.proofs.Common.{◌≡◌, ◌↔◌, ◌⊎◌, inl, inr, ⊎_elim, ◌<◌, ◌≤◌, ◌+◌, ◌/◌, ◌%◌, ◌^◌, ◌-◌, min, ℕ, List, length, get_or, refl, sym, ap, subst, ◌∙◌, arith}
use Rattle.std.specs.Prelude.{IsBitSet, bit_and}
use Rattle.std.specs.Int.{bit_at, bit_not, w64}
use Rattle.std.specs.List.{sum_by}
use Rattle.std.proofs.Math.ListN.{set}
use Rattle.std.proofs.lemmas.List.Sums.{sum_by-set}
use Rattle.std.proofs.lemmas.Bool.{cases_lt}
use Rattle.std.proofs.lemmas.Nat.Bits.{bit_at_and, bit_at_not, bit_at-lt}
use Rattle.pst_scen.specs.Rows.{row_words}
use Rattle.pst_square.specs.declared.walk.Stage.{Stage}
use Rattle.pst_square.specs.declared.walk.Stage.TheVariants.{New, Open, Finished}
use Rattle.pst_square.specs.Bits.{HasBit, IsJoined, IsClosure}
use Rattle.pst_square.specs.Chains.{IsChain, Once, Chained}
use Rattle.pst_square.specs.Walks.{IsTakenOver, AreSameRows, IsCovered, IsFinished, IsWalked, IsOpenPair, weight}
use Rattle.pst_square.proofs.Closes.{word_in}
use Rattle.pst_square.specs.Next.{IsNextOf}
use Rattle.pst_square.proofs.Joins.{set_is_one, joined_keeps, joined_adds, joined_only}

-- ROWS THAT ARE TAKEN OVER

pub taken_over : (row : ℕ) (old now new : List ℕ) (a c : ℕ) → c / 64 < row → IsJoined row old now a c → length new ≡ length now
    → ((x b : ℕ) → b / 64 < row → HasBit row new x b ↔ HasBit row now x b ⊎ ((x ≡ a) × (b ≡ c))) → IsTakenOver row old new a c
taken_over row old now new a c c_in joined many bits =
    record {
      many = many ∙ joined.many;
      keeps = λ x b b_in has. (bits x b b_in).1 (inl (joined_keeps row old now a c joined x b b_in has));
      adds = λ b b_in has. (bits a b b_in).1 (inl (joined_adds row old now a c joined b b_in has));
      own = (bits a c c_in).1 (inr (refl, refl));
      only = only;
    }
  where
    from_joined : (x b : ℕ) → HasBit row old x b ⊎ ((x ≡ a) × HasBit row old c b) → HasBit row old x b ⊎ ((x ≡ a) × ((b ≡ c) ⊎ HasBit row old c b))
    from_joined x b (inl has) = inl has
    from_joined x b (inr h) = inr (h.0, inr h.1)

    only : (x b : ℕ) → b / 64 < row → HasBit row new x b → HasBit row old x b ⊎ ((x ≡ a) × ((b ≡ c) ⊎ HasBit row old c b))
    only x b b_in has = ⊎_elim (λ h. from_joined x b (joined_only row old now a c joined x b b_in h)) (λ h. inr (h.0, inl h.1)) ((bits x b b_in).0 has)

-- CHAINS BY THEIR FIRST PAIRS

-- a chain is one pair, or a pair and a chain from there
pub first_pair : (R : ℕ → ℕ → Type 0) (size a b : ℕ) → IsChain R size a b → R a b ⊎ ((m : ℕ) × (m < size) × R a m × IsChain R size m b)
first_pair R size _ _ (Once a b r) = inl r
first_pair R size _ _ (Chained a c b c_in p q) = ⊎_elim (λ r. inr (c, c_in, r, q)) (λ h. inr (h.0, h.1, h.2, Chained h.0 c b c_in h.3 q)) (first_pair R size a c p)

module _ (size row : ℕ) (base words : List ℕ) (stages : List Stage) (h : IsWalked size row base words stages) where
  -- the row of a finished number has all that chains lead to from there
  pub exact : (a b : ℕ) → a < size → b < size → IsFinished stages a → IsChain (HasBit row base) size a b → HasBit row words a b
  exact a b a_in b_in done chain =
      ⊎_elim (λ r. h.covers a a_in done b b_in r)
      (λ k. h.closed a k.0 b a_in k.1 b_in (h.covers a a_in done k.0 k.1 k.2) k.3)
      (first_pair (HasBit row base) size a b chain)

  pub all_closed : ((a : ℕ) → a < length stages → IsFinished stages a) → IsClosure size row base words
  all_closed done =
      record {
        many = h.many;
        chains = λ a b a_in b_in. (h.sound a b a_in b_in, exact a b a_in b_in (done a (subst (λ (n : ℕ). a < n) (sym h.staged) a_in)));
      }

  module _ (is_row : row ≡ row_words size) (new : List ℕ) (a c : ℕ) (a_in : a < size) (c_in : c < size) (pair : HasBit row base a c) (done : IsFinished stages c) (g : IsTakenOver row words new a c) where
    inside : (b : ℕ) → b < size → b / 64 < row
    inside b b_in = word_in size row b is_row b_in

    sound : (x b : ℕ) → x < size → b < size → HasBit row new x b → IsChain (HasBit row base) size x b
    sound x b x_in b_in has = ⊎_elim (h.sound x b x_in b_in) added (g.only x b (inside b b_in) has)
      where
        added : (x ≡ a) × ((b ≡ c) ⊎ HasBit row words c b) → IsChain (HasBit row base) size x b
        added k =
            subst (λ (y : ℕ). IsChain (HasBit row base) size y b) (sym k.0)
            (⊎_elim (λ same. subst (λ (y : ℕ). IsChain (HasBit row base) size a y) (sym same) (Once a c pair))
            (λ other. Chained a c b c_in (Once a c pair) (h.sound c b c_in b_in other)) k.1)

    closed : (x y b : ℕ) → x < size → y < size → b < size → HasBit row new x y → IsChain (HasBit row base) size y b → HasBit row new x b
    closed x y b x_in y_in b_in has chain = ⊎_elim (λ own. g.keeps x b (inside b b_in) (h.closed x y b x_in y_in b_in own chain)) added (g.only x y (inside y y_in) has)
      where
        added : (x ≡ a) × ((y ≡ c) ⊎ HasBit row words c y) → HasBit row new x b
        added k =
            subst (λ (z : ℕ). HasBit row new z b) (sym k.0)
            (g.adds b (inside b b_in)
            (⊎_elim (λ same. exact c b c_in b_in done (subst (λ (z : ℕ). IsChain (HasBit row base) size z b) same chain))
            (λ other. h.closed c y b c_in y_in b_in other chain) k.1))

    pub taken_walks : IsWalked size row base new stages
    taken_walks =
        record {
          many = g.many ∙ h.many;
          staged = h.staged;
          sound = sound;
          closed = closed;
          covers = λ x x_in is b b_in in_base. g.keeps x b (inside b b_in) (h.covers x x_in is b b_in in_base);
        }

  -- a row that takes over that of a finished number with the same pairs in the base
  module _ (is_row : row ≡ row_words size) (new : List ℕ) (a c : ℕ) (a_in : a < size) (c_in : c < size) (same : AreSameRows row base a c) (done : IsFinished stages c) (g : IsJoined row words new a c) where
    moved : (b : ℕ) → b < size → HasBit row base a b ↔ HasBit row base c b
    moved b b_in =
        let is = same (b / 64) (word_in size row b is_row b_in) in
        (λ h. subst (λ (v : ℕ). IsBitSet v (b % 64)) is h, λ h. subst (λ (v : ℕ). IsBitSet v (b % 64)) (sym is) h)

    -- what a chain joins with c one joins with a
    moved_chain : (b : ℕ) → b < size → IsChain (HasBit row base) size c b → IsChain (HasBit row base) size a b
    moved_chain b b_in chain =
        ⊎_elim (λ r. Once a b ((moved b b_in).1 r)) (λ k. Chained a k.0 b k.1 (Once a k.0 ((moved k.0 k.1).1 k.2)) k.3) (first_pair (HasBit row base) size c b chain)

    only : (x b : ℕ) → b < size → HasBit row new x b → HasBit row words x b ⊎ ((x ≡ a) × HasBit row words c b)
    only x b b_in has = joined_only row words new a c g x b (word_in size row b is_row b_in) has

    keeps : (x b : ℕ) → b < size → HasBit row words x b → HasBit row new x b
    keeps x b b_in has = joined_keeps row words new a c g x b (word_in size row b is_row b_in) has

    follows : (x b : ℕ) → x < size → b < size → HasBit row new x b → IsChain (HasBit row base) size x b
    follows x b x_in b_in has =
        ⊎_elim (h.sound x b x_in b_in) (λ k. subst (λ (y : ℕ). IsChain (HasBit row base) size y b) (sym k.0) (moved_chain b b_in (h.sound c b c_in b_in k.1))) (only x b b_in has)

    goes_on : (x y b : ℕ) → x < size → y < size → b < size → HasBit row new x y → IsChain (HasBit row base) size y b → HasBit row new x b
    goes_on x y b x_in y_in b_in has chain =
        ⊎_elim (λ own. keeps x b b_in (h.closed x y b x_in y_in b_in own chain))
        (λ k. subst (λ (z : ℕ). HasBit row new z b) (sym k.0) (joined_adds row words new a c g b (word_in size row b is_row b_in) (h.closed c y b c_in y_in b_in k.1 chain)))
        (only x y y_in has)

    pub follows_next : IsWalked size row base new stages
    follows_next =
        record {
          many = g.many ∙ h.many;
          staged = h.staged;
          sound = follows;
          closed = goes_on;
          covers = λ x x_in is b b_in in_base. keeps x b b_in (h.covers x x_in is b b_in in_base);
        }

    pub covers_next : IsCovered size row base new a
    covers_next b b_in in_base =
        joined_adds row words new a c g b (word_in size row b is_row b_in) (h.covers c c_in done b b_in ((moved b b_in).0 in_base))

  -- stages that finish at most numbers whose rows are whole
  pub staged_walks : (new : List Stage) → length new ≡ length stages → ((a : ℕ) → a < size → IsFinished new a → IsCovered size row base words a) → IsWalked size row base words new
  staged_walks new many covers = record { many = h.many; staged = many ∙ h.staged; sound = h.sound; closed = h.closed; covers = covers }

-- PAIRS THAT ARE OPEN

zero_or_one : (x y : ℕ) → x < 2 → y < 2 → min x (1 - y) ≡ 1 ↔ (x ≡ 1) × (y ≡ 1 → ⊥)
zero_or_one x y x_small y_small = (λ e. (omega (arith, e, x_small, y_small), λ one. omega (arith, e, one)), λ h. let one = h.0 in let none = h.1 in omega (arith, one, none, y_small))

pub without_has : (word other k : ℕ) → other < 2 ^ 64 → k < 64 → IsBitSet (bit_and word (bit_not w64 other)) k ↔ IsBitSet word k × (IsBitSet other k → ⊥)
without_has word other k small k_in = (there, back)
  where
    is : bit_at (bit_and word (bit_not w64 other)) k ≡ min (bit_at word k) (1 - bit_at other k)
    is = bit_at_and word (bit_not w64 other) k ∙ ap (λ x. min (bit_at word k) x) (bit_at_not w64 other k small k_in)

    both : min (bit_at word k) (1 - bit_at other k) ≡ 1 ↔ (bit_at word k ≡ 1) × (bit_at other k ≡ 1 → ⊥)
    both = zero_or_one (bit_at word k) (bit_at other k) (bit_at-lt word k) (bit_at-lt other k)

    there : IsBitSet (bit_and word (bit_not w64 other)) k → IsBitSet word k × (IsBitSet other k → ⊥)
    there s =
        let h = both.0 (sym is ∙ (set_is_one (bit_and word (bit_not w64 other)) k).0 s) in
        ((set_is_one word k).1 h.0, λ o. h.1 ((set_is_one other k).0 o))

    back : IsBitSet word k × (IsBitSet other k → ⊥) → IsBitSet (bit_and word (bit_not w64 other)) k
    back h = (set_is_one (bit_and word (bit_not w64 other)) k).1 (is ∙ both.1 ((set_is_one word k).0 h.0, λ o. h.1 ((set_is_one other k).1 o)))

-- what isn't open is in the row
pub not_open : (row : ℕ) (base words : List ℕ) (a b : ℕ) → (IsOpenPair row base words a b → ⊥) → HasBit row base a b → HasBit row words a b
not_open row base words a b not in_base = λ none. not (record { in_base = in_base; not_in_row = λ has. has none })

module _ (row : ℕ) (base words new : List ℕ) (a c from size : ℕ) (next : IsNextOf (λ b. from ≤ b) (IsOpenPair row base words a) size c) (g : IsTakenOver row words new a c) where
  pub covered_next : ((b : ℕ) → b < size → b / 64 < row) → ((b : ℕ) → b < from → b < size → HasBit row base a b → HasBit row words a b)
      → (b : ℕ) → b < c + 1 → b < size → HasBit row base a b → HasBit row new a b
  covered_next inside before b below b_in in_base =
      ⊎_elim (λ low. g.keeps a b (inside b b_in) (before b low b_in in_base))
      (λ high. ⊎_elim (λ less. g.keeps a b (inside b b_in) (not_open row base words a b (next.none b high less) in_base))
      (λ last. let same : c ≡ b = omega (arith, last, below) in subst (λ (x : ℕ). HasBit row new a x) same g.own) (cases_lt b c))
      (cases_lt b from)

-- WHAT IS LEFT

pub less_left : (stages : List Stage) (a : ℕ) (stage : Stage) → a < length stages → weight stage ≡ 0 → sum_by weight (set stages a stage) ≤ sum_by weight stages
less_left stages a stage a_in none = let change = sum_by-set weight stages a stage New a_in in omega (arith, change, none)

pub two_less_left : (stages : List Stage) (a : ℕ) → a < length stages → get_or stages a Finished ≡ New → sum_by weight (set stages a Open) + 2 ≡ sum_by weight stages
two_less_left stages a a_in is =
    let change = sum_by-set weight stages a Open Finished a_in in
    let two : weight (get_or stages a Finished) ≡ 2 = ap weight is in
    omega (arith, change, two)
