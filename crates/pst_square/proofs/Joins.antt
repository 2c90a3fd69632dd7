-- Rows of a square that take over the bits of other rows.
use Rattle.std.proofs.Common.{◌≡◌, ◌≢◌, ◌↔◌, ◌⊎◌, inl, inr, ⊎_elim, ◌<◌, ◌≤◌, ◌+◌, ◌*◌, ◌/◌, ◌%◌, max, ℕ, List, length, get_or, refl, sym, subst, ap, ◌∙◌, arith}
use Rattle.std.specs.Prelude.{IsBitSet, bit_or}
use Rattle.std.specs.Int.{bit_at}
use Rattle.std.proofs.lemmas.Bool.{cases_lt}
use Rattle.std.proofs.lemmas.Nat.{bit_set_by_shift, same_from_place}
use Rattle.std.proofs.lemmas.Nat.Bits.{shr_and_one, bit_at_or, bit_at-lt}
use Rattle.pst_square.specs.Bits.{HasBit, IsJoined, LeadsThrough, GoThrough}
use Rattle.pst_square.proofs.Numbers.{same_or_not}

-- BITS OF WORDS

pub set_is_one : (n k : ℕ) → IsBitSet n k ↔ bit_at n k ≡ 1
set_is_one n k =
    let same = bit_set_by_shift n k in (
      λ s. sym (shr_and_one n k) ∙ same.1 s,
      λ one. same.0 (shr_and_one n k ∙ one),
    )

one_of : (x y : ℕ) → x < 2 → y < 2 → max x y ≡ 1 → (x ≡ 1) ⊎ (y ≡ 1)
one_of x y x_small y_small most = ⊎_elim (λ less. inr (omega (arith, less, x_small, most, y_small))) (λ more. inl (omega (arith, more, x_small, most, y_small))) (cases_lt x 1)

pub or_has : (x y k : ℕ) → IsBitSet (bit_or x y) k ↔ IsBitSet x k ⊎ IsBitSet y k
or_has x y k = (there, back)
  where
    there : IsBitSet (bit_or x y) k → IsBitSet x k ⊎ IsBitSet y k
    there s =
        ⊎_elim (λ e. inl ((set_is_one x k).1 e)) (λ e. inr ((set_is_one y k).1 e))
        (one_of (bit_at x k) (bit_at y k) (bit_at-lt x k) (bit_at-lt y k) (sym (bit_at_or x y k) ∙ (set_is_one (bit_or x y) k).0 s))

    back : IsBitSet x k ⊎ IsBitSet y k → IsBitSet (bit_or x y) k
    back (inl s) =
        let one : bit_at x k ≡ 1 = (set_is_one x k).0 s in
        let small : bit_at y k < 2 = bit_at-lt y k in
        let most : max (bit_at x k) (bit_at y k) ≡ 1 = omega (arith, one, small) in
        (set_is_one (bit_or x y) k).1 (bit_at_or x y k ∙ most)
    back (inr s) =
        let one : bit_at y k ≡ 1 = (set_is_one y k).0 s in
        let small : bit_at x k < 2 = bit_at-lt x k in
        let most : max (bit_at x k) (bit_at y k) ≡ 1 = omega (arith, one, small) in
        (set_is_one (bit_or x y) k).1 (bit_at_or x y k ∙ most)

-- ROWS

-- the first words of the row of a have the bits of m's row too
pub record JoinedBelow (row : ℕ) (old new : List ℕ) (a m w : ℕ) : Type 0 where
  pub many : length new ≡ length old
  pub joined : (v : ℕ) → v < w → get_or new (a * row + v) 0 ≡ bit_or (get_or old (a * row + v) 0) (get_or old (m * row + v) 0)
  pub others : (c v : ℕ) → v < row → (c ≡ a → w ≤ v) → get_or new (c * row + v) 0 ≡ get_or old (c * row + v) 0

pub joined_none : (row : ℕ) (old : List ℕ) (a m : ℕ) → JoinedBelow row old old a m 0
joined_none row old a m = record { many = refl; joined = λ v below. absurd (omega (arith, below)); others = λ c v v_in free. refl }

pub joined_all : (row : ℕ) (old new : List ℕ) (a m w : ℕ) → row ≤ w → JoinedBelow row old new a m w → IsJoined row old new a m
joined_all row old new a m w all h =
    record {
      many = h.many;
      joined = λ v v_in. h.joined v (omega (arith, v_in, all));
      others = λ c v v_in differs. h.others c v v_in (λ same. absurd (differs same));
    }

module _ (row : ℕ) (old now new : List ℕ) (a m w : ℕ) (w_in : w < row) (h : JoinedBelow row old now a m w) (many : length new ≡ length now) (at : get_or new (a * row + w) 0 ≡ bit_or (get_or now (a * row + w) 0) (get_or now (m * row + w) 0)) (others : (i : ℕ) → i ≢ a * row + w → get_or new i 0 ≡ get_or now i 0) where
  later : (c v : ℕ) → v < row → (c ≡ a → w + 1 ≤ v) → get_or new (c * row + v) 0 ≡ get_or old (c * row + v) 0
  later c v v_in free =
      let apart : c * row + v ≢ a * row + w =
      λ same. (let one = same_from_place c v a w row v_in w_in same in let low = free one.0 in let is = one.1 in omega (arith, low, is)) in
      others (c * row + v) apart ∙ h.others c v v_in (λ same. let low = free same in omega (arith, low))

  here : get_or new (a * row + w) 0 ≡ bit_or (get_or old (a * row + w) 0) (get_or old (m * row + w) 0)
  here =
      let own = h.others a w w_in (λ same. omega arith) in
      let others_row = h.others m w w_in (λ same. omega arith) in
      at ∙ ap (λ x. bit_or x (get_or now (m * row + w) 0)) own ∙ ap (λ x. bit_or (get_or old (a * row + w) 0) x) others_row

  before : (v : ℕ) → v < w + 1 → get_or new (a * row + v) 0 ≡ bit_or (get_or old (a * row + v) 0) (get_or old (m * row + v) 0)
  before v below = ⊎_elim earlier last (cases_lt v w)
    where
      earlier : v < w → get_or new (a * row + v) 0 ≡ bit_or (get_or old (a * row + v) 0) (get_or old (m * row + v) 0)
      earlier less = others (a * row + v) (λ same. omega (arith, same, less)) ∙ h.joined v less

      last : w ≤ v → get_or new (a * row + v) 0 ≡ bit_or (get_or old (a * row + v) 0) (get_or old (m * row + v) 0)
      last more =
          let same : w ≡ v = omega (arith, more, below) in
          subst (λ (x : ℕ). get_or new (a * row + x) 0 ≡ bit_or (get_or old (a * row + x) 0) (get_or old (m * row + x) 0)) same here

  pub joined_next : JoinedBelow row old new a m (w + 1)
  joined_next = record { many = many ∙ h.many; joined = before; others = later }

-- PAIRS

module _ (row : ℕ) (old new : List ℕ) (a m : ℕ) (h : IsJoined row old new a m) where
  joined_has : (b : ℕ) → b / 64 < row → HasBit row new a b ↔ HasBit row old a b ⊎ HasBit row old m b
  joined_has b b_in =
      let same = h.joined (b / 64) b_in in
      let or = or_has (get_or old (a * row + b / 64) 0) (get_or old (m * row + b / 64) 0) (b % 64) in (
        λ has. or.0 (subst (λ (x : ℕ). IsBitSet x (b % 64)) same has),
        λ has. subst (λ (x : ℕ). IsBitSet x (b % 64)) (sym same) (or.1 has),
      )

  others_have : (c b : ℕ) → b / 64 < row → c ≢ a → HasBit row new c b ↔ HasBit row old c b
  others_have c b b_in differs =
      let same = h.others c (b / 64) b_in differs in (
        λ has. subst (λ (x : ℕ). IsBitSet x (b % 64)) same has,
        λ has. subst (λ (x : ℕ). IsBitSet x (b % 64)) (sym same) has,
      )

  pub joined_keeps : (c b : ℕ) → b / 64 < row → HasBit row old c b → HasBit row new c b
  joined_keeps c b b_in has = ⊎_elim (λ same. subst (λ (x : ℕ). HasBit row new x b) (sym same) ((joined_has b b_in).1 (inl (subst (λ (x : ℕ). HasBit row old x b) same has)))) (λ differs. (others_have c b b_in differs).1 has) (same_or_not c a)

  pub joined_adds : (b : ℕ) → b / 64 < row → HasBit row old m b → HasBit row new a b
  joined_adds b b_in has = (joined_has b b_in).1 (inr has)

  pub joined_only : (c b : ℕ) → b / 64 < row → HasBit row new c b → HasBit row old c b ⊎ ((c ≡ a) × HasBit row old m b)
  joined_only c b b_in has = ⊎_elim at_a elsewhere (same_or_not c a)
    where
      at_a : c ≡ a → HasBit row old c b ⊎ ((c ≡ a) × HasBit row old m b)
      at_a same =
          ⊎_elim (λ own. inl (subst (λ (x : ℕ). HasBit row old x b) (sym same) own)) (λ other. inr (same, other))
          ((joined_has b b_in).0 (subst (λ (x : ℕ). HasBit row new x b) same has))

      elsewhere : c ≢ a → HasBit row old c b ⊎ ((c ≡ a) × HasBit row old m b)
      elsewhere differs = inl ((others_have c b b_in differs).0 has)

  pub leads_joined : HasBit row old a m → LeadsThrough row old new a m
  leads_joined leads =
      record {
        many = h.many;
        keeps = joined_keeps;
        adds = λ b b_in from to. joined_adds b b_in to;
        only = λ c b b_in has. ⊎_elim (λ k. inl k) (λ k. inr (k.0, leads, k.1)) (joined_only c b b_in has);
      }

pub leads_same : (row : ℕ) (old : List ℕ) (a m : ℕ) → (HasBit row old a m → ⊥) → LeadsThrough row old old a m
leads_same row old a m not =
    record { many = refl; keeps = λ c b b_in has. has; adds = λ b b_in from to. absurd (not from); only = λ c b b_in has. inl has }

-- ONE ROW AFTER ANOTHER

pub go_none : (row : ℕ) (old : List ℕ) (m : ℕ) → GoThrough row old old 0 m
go_none row old m =
    record { many = refl; keeps = λ c b b_in has. has; adds = λ c b below. absurd (omega (arith, below)); only = λ c b b_in has. inl has }

module _ (row : ℕ) (old now new : List ℕ) (a m : ℕ) (m_in : m / 64 < row) (h : GoThrough row old now a m) (g : LeadsThrough row now new a m) where
  -- what is at m and from m has not changed
  from_m : (b : ℕ) → b / 64 < row → HasBit row now m b → HasBit row old m b
  from_m b b_in has = ⊎_elim (λ k. k) (λ k. k.1) (h.only m b b_in has)

  to_m : (c : ℕ) → HasBit row now c m → HasBit row old c m
  to_m c has = ⊎_elim (λ k. k) (λ k. k.0) (h.only c m m_in has)

  more : (c b : ℕ) → c < a + 1 → b / 64 < row → HasBit row old c m → HasBit row old m b → HasBit row new c b
  more c b below b_in from to = ⊎_elim earlier last (cases_lt c a)
    where
      earlier : c < a → HasBit row new c b
      earlier less = g.keeps c b b_in (h.adds c b less b_in from to)

      last : a ≤ c → HasBit row new c b
      last high =
          let same : a ≡ c = omega (arith, high, below) in
          let from_a : HasBit row old a m = subst (λ (x : ℕ). HasBit row old x m) (sym same) from in
          subst (λ (x : ℕ). HasBit row new x b) same (g.adds b b_in (h.keeps a m m_in from_a) (h.keeps m b b_in to))

  none_else : (c b : ℕ) → b / 64 < row → HasBit row new c b → HasBit row old c b ⊎ (HasBit row old c m × HasBit row old m b)
  none_else c b b_in has = ⊎_elim (λ k. h.only c b b_in k) through (g.only c b b_in has)
    where
      through : (c ≡ a) × HasBit row now a m × HasBit row now m b → HasBit row old c b ⊎ (HasBit row old c m × HasBit row old m b)
      through k = inr (subst (λ (x : ℕ). HasBit row old x m) (sym k.0) (to_m a k.1), from_m b b_in k.2)

  pub go_next : GoThrough row old new (a + 1) m
  go_next = record { many = g.many ∙ h.many; keeps = λ c b b_in has. g.keeps c b b_in (h.keeps c b b_in has); adds = more; only = none_else }
