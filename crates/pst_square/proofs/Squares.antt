-- Bits that are added to a square.
use Rattle.std.proofs.Common.{◌≡◌, ◌≢◌, ◌↔◌, ◌⊎◌, inl, inr, ⊎_elim, ◌<◌, ◌≤◌, ◌+◌, ◌-◌, ◌*◌, ◌/◌, ◌%◌, ◌^◌, ℕ, List, length, get_or, set, sym, subst, ap, ◌∙◌, arith}
use Rattle.std.specs.Prelude.{IsBitSet, bit_or}
use Rattle.std.specs.Int.{bit_at}
use Rattle.std.proofs.lemmas.Bool.{cases_lt}
use Rattle.std.proofs.lemmas.List.{get_or-set_same, get_or-set_other}
use Rattle.std.proofs.lemmas.Nat.{div-mul-add}
use Rattle.std.proofs.lemmas.Nat.Bits.{and_pow, bit_at_or, bit_at-lt, bit_at-zero, bit_at_ones, bit_at_ones_above}
use Rattle.std.proofs.Math.Pow.{pow_pos}
use Rattle.pst_scen.specs.declared.rows.Rows.{Rows}
use Rattle.pst_scen.specs.Rows.{row_words, Has}
use Rattle.pst_square.specs.Squares.{Adds, IsPair, IsMasked, IsFilled}
use Rattle.pst_square.proofs.Numbers.{same_or_not}

-- a place belongs to one row, at one place in it
one_place : (many a b v w : ℕ) → v < many → w < many → a * many + v ≡ b * many + w → (a ≡ b) × (v ≡ w)
one_place many a b v w v_in w_in same =
    let rows : a ≡ b = sym (div-mul-add a many v v_in) ∙ ap (λ n. n / many) same ∙ div-mul-add b many w w_in in
    let start : a * many ≡ b * many = ap (λ n. n * many) rows in
    (rows, omega (arith, same, start))

-- a bit of a word is set exactly where it is 1
pub bit_is_one : (n k : ℕ) → IsBitSet n k ↔ bit_at n k ≡ 1
bit_is_one n k =
    let lt = bit_at-lt n k in (
      λ set. one (cases (bit_at n k) lt) set,
      λ is none.
          let positive = pow_pos k in
          let same : bit_at n k * 2 ^ k ≡ 0 = sym (and_pow n k) ∙ none in
          let as_power : 1 * 2 ^ k ≡ 0 = subst (λ (b : ℕ). b * 2 ^ k ≡ 0) is same in
          omega (arith, positive, as_power),
    )
  where
    cases : (b : ℕ) → b < 2 → (b ≡ 0) ⊎ (b ≡ 1)
    cases b less = go (cases_lt b 1)
      where
        go : (b < 1) ⊎ (1 ≤ b) → (b ≡ 0) ⊎ (b ≡ 1)
        go (inl low) = inl (omega (arith, low))
        go (inr high) = inr (omega (arith, high, less))

    one : (bit_at n k ≡ 0) ⊎ (bit_at n k ≡ 1) → IsBitSet n k → bit_at n k ≡ 1
    one (inl zero_bit) set = absurd (set (and_pow n k ∙ ap (λ (b : ℕ). b * 2 ^ k) zero_bit ∙ omega arith))
    one (inr is) set = is

pub no_bit_of_zero : (k : ℕ) → IsBitSet 0 k → ⊥
no_bit_of_zero k set = let is = (bit_is_one 0 k).0 set in let zero_bit = bit_at-zero k in omega (arith, is, zero_bit)

pub or_bit : (n m k : ℕ) → IsBitSet (bit_or n m) k ↔ IsBitSet n k ⊎ IsBitSet m k
or_bit n m k = (
  λ set. split (cases_lt (bit_at n k) 1) ((bit_is_one (bit_or n m) k).0 set),
  λ either. (bit_is_one (bit_or n m) k).1 (joined either),
)
  where
    split : (bit_at n k < 1) ⊎ (1 ≤ bit_at n k) → bit_at (bit_or n m) k ≡ 1 → IsBitSet n k ⊎ IsBitSet m k
    split (inl low) is = let both = bit_at_or n m k in inr ((bit_is_one m k).1 (omega (arith, both, low, is)))
    split (inr high) is = let lt = bit_at-lt n k in inl ((bit_is_one n k).1 (omega (arith, lt, high)))

    joined : IsBitSet n k ⊎ IsBitSet m k → bit_at (bit_or n m) k ≡ 1
    joined (inl set) = let both = bit_at_or n m k in let is = (bit_is_one n k).0 set in let lt = bit_at-lt m k in omega (arith, both, is, lt)
    joined (inr set) = let both = bit_at_or n m k in let is = (bit_is_one m k).0 set in let lt = bit_at-lt n k in omega (arith, both, is, lt)

-- the bits of the word that has all
pub all_bits : (k : ℕ) → IsBitSet 18446744073709551615 k ↔ k < 64
all_bits k = (λ set. below (cases_lt k 64) ((bit_is_one 18446744073709551615 k).0 set), λ less. (bit_is_one 18446744073709551615 k).1 (bit_at_ones 64 k less))
  where
    below : (k < 64) ⊎ (64 ≤ k) → bit_at 18446744073709551615 k ≡ 1 → k < 64
    below (inl less) is = less
    below (inr more) is = let none : bit_at 18446744073709551615 k ≡ 0 = bit_at_ones_above 64 k more in absurd (omega (arith, none, is))

-- the pairs of one word more
pub word_added : (old new : Rows) (a w mask : ℕ) → w < row_words old.size → a * row_words old.size + w < length old.words → new.size ≡ old.size → new.words ≡ set old.words (a * row_words old.size + w) (bit_or (get_or old.words (a * row_words old.size + w) 0) mask) → Adds old new (IsMasked a w mask)
word_added old new a w mask w_in within size words = record { sized = size; has = λ c d c_in d_in. each c d d_in (same_or_not (c * row_words old.size + d / 64) (a * row_words old.size + w)) }
  where
    read : (c d x : ℕ) → get_or (set old.words (a * row_words old.size + w) (bit_or (get_or old.words (a * row_words old.size + w) 0) mask)) (c * row_words old.size + d / 64) 0 ≡ x → Has new c d ↔ IsBitSet x (d % 64)
    read c d x is =
        let words_are : get_or new.words (c * row_words new.size + d / 64) 0 ≡ x = ap (λ (l : List ℕ). get_or l (c * row_words new.size + d / 64) 0) words ∙ ap (λ (n : ℕ). get_or (set old.words (a * row_words old.size + w) (bit_or (get_or old.words (a * row_words old.size + w) 0) mask)) (c * row_words n + d / 64) 0) size ∙ is in
        (λ has. subst (λ (v : ℕ). IsBitSet v (d % 64)) words_are has, λ has. subst (λ (v : ℕ). IsBitSet v (d % 64)) (sym words_are) has)

    each : (c d : ℕ) → d < old.size → (c * row_words old.size + d / 64 ≡ a * row_words old.size + w) ⊎ (c * row_words old.size + d / 64 ≢ a * row_words old.size + w) → Has new c d ↔ Has old c d ⊎ IsMasked a w mask c d
    each c d d_in (inl same) =
        let d_word : d / 64 < row_words old.size = omega (arith, d_in) in
        let one = one_place (row_words old.size) c a (d / 64) w d_word w_in same in
        let is = read c d (bit_or (get_or old.words (c * row_words old.size + d / 64) 0) mask) (ap (λ (n : ℕ). get_or (set old.words (a * row_words old.size + w) (bit_or (get_or old.words (a * row_words old.size + w) 0) mask)) n 0) same ∙ get_or-set_same old.words (a * row_words old.size + w) (bit_or (get_or old.words (a * row_words old.size + w) 0) mask) 0 within ∙ ap (λ (n : ℕ). bit_or (get_or old.words n 0) mask) (sym same)) in
        let either = or_bit (get_or old.words (c * row_words old.size + d / 64) 0) mask (d % 64) in (
          λ has. ⊎_elim (λ before. inl before) (λ bit. inr (record { first = one.0; word = one.1; bit = bit })) (either.0 (is.0 has)),
          λ has. is.1 (either.1 (⊎_elim (λ before. inl before) (λ masked. inr masked.bit) has)),
        )
    each c d d_in (inr differs) =
        let is = read c d (get_or old.words (c * row_words old.size + d / 64) 0) (get_or-set_other old.words (a * row_words old.size + w) (c * row_words old.size + d / 64) (bit_or (get_or old.words (a * row_words old.size + w) 0) mask) 0 differs) in (
          λ has. inl (is.0 has),
          λ has. is.1 (⊎_elim (λ before. before) (λ masked. absurd (differs (ap (λ (n : ℕ). n * row_words old.size + d / 64) masked.first ∙ ap (λ (n : ℕ). a * row_words old.size + n) masked.word))) has),
        )

-- one bit of a word is one pair
pub pair_added : (old new : Rows) (a b mask : ℕ) → ((j : ℕ) → IsBitSet mask j ↔ j ≡ b % 64) → Adds old new (IsMasked a (b / 64) mask) → Adds old new (IsPair a b)
pair_added old new a b mask bit added = record { sized = added.sized; has = λ c d c_in d_in. same c d (added.has c d c_in d_in) }
  where
    same : (c d : ℕ) → Has new c d ↔ Has old c d ⊎ IsMasked a (b / 64) mask c d → Has new c d ↔ Has old c d ⊎ IsPair a b c d
    same c d one = (
      λ has. ⊎_elim (λ before. inl before) (λ masked. inr (record { first = masked.first; second = let place = (bit (d % 64)).0 masked.bit in let word = masked.word in omega (arith, place, word) })) (one.0 has),
      λ has. one.1 (⊎_elim (λ before. inl before) (λ pair. inr (record { first = pair.first; word = ap (λ (n : ℕ). n / 64) pair.second; bit = (bit (d % 64)).1 (ap (λ (n : ℕ). n % 64) pair.second) })) has),
    )

-- the pairs of words that are filled
pub words_filled : (old new : Rows) (a first last : ℕ) → last ≤ row_words old.size → new.size ≡ old.size → ((i : ℕ) → a * row_words old.size + first ≤ i → i < a * row_words old.size + last → get_or new.words i 0 ≡ 18446744073709551615) → ((i : ℕ) → (i < a * row_words old.size + first) ⊎ (a * row_words old.size + last ≤ i) → get_or new.words i 0 ≡ get_or old.words i 0) → Adds old new (IsFilled a first last)
words_filled old new a first last last_in size filled others = record { sized = size; has = λ c d c_in d_in. each c d d_in (cases_lt (c * row_words old.size + d / 64) (a * row_words old.size + first)) (cases_lt (c * row_words old.size + d / 64) (a * row_words old.size + last)) }
  where
    read : (c d x : ℕ) → get_or new.words (c * row_words old.size + d / 64) 0 ≡ x → Has new c d ↔ IsBitSet x (d % 64)
    read c d x is =
        let word : get_or new.words (c * row_words new.size + d / 64) 0 ≡ x = ap (λ (n : ℕ). get_or new.words (c * row_words n + d / 64) 0) size ∙ is in
        (λ has. subst (λ (v : ℕ). IsBitSet v (d % 64)) word has, λ has. subst (λ (v : ℕ). IsBitSet v (d % 64)) (sym word) has)

    row_of : (c d : ℕ) → c ≡ a → c * row_words old.size ≡ a * row_words old.size
    row_of c d same = ap (λ (n : ℕ). n * row_words old.size) same

    kept : (c d : ℕ) → (c * row_words old.size + d / 64 < a * row_words old.size + first) ⊎ (a * row_words old.size + last ≤ c * row_words old.size + d / 64) → Has new c d ↔ Has old c d ⊎ IsFilled a first last c d
    kept c d out =
        let is = read c d (get_or old.words (c * row_words old.size + d / 64) 0) (others (c * row_words old.size + d / 64) out) in (
          λ has. inl (is.0 has),
          λ either. is.1 (⊎_elim (λ before. before) (λ h. absurd (outside h out)) either),
        )
      where
        outside : IsFilled a first last c d → (c * row_words old.size + d / 64 < a * row_words old.size + first) ⊎ (a * row_words old.size + last ≤ c * row_words old.size + d / 64) → ⊥
        outside h (inl less) = let same = row_of c d h.row in let low = h.low in omega (arith, same, low, less)
        outside h (inr more) = let same = row_of c d h.row in let high = h.high in omega (arith, same, high, more)

    each : (c d : ℕ) → d < old.size → (c * row_words old.size + d / 64 < a * row_words old.size + first) ⊎ (a * row_words old.size + first ≤ c * row_words old.size + d / 64) → (c * row_words old.size + d / 64 < a * row_words old.size + last) ⊎ (a * row_words old.size + last ≤ c * row_words old.size + d / 64) → Has new c d ↔ Has old c d ⊎ IsFilled a first last c d
    each c d d_in (inl less) upper = kept c d (inl less)
    each c d d_in (inr more) (inr high) = kept c d (inr high)
    each c d d_in (inr low) (inl high) =
        let is = read c d 18446744073709551615 (filled (c * row_words old.size + d / 64) low high) in
        let bit : d % 64 < 64 = omega arith in
        let d_word : d / 64 < row_words old.size = omega (arith, d_in) in
        let w : ℕ = c * row_words old.size + d / 64 - a * row_words old.size in
        let w_in : w < row_words old.size = omega (arith, low, high, last_in) in
        let there : c * row_words old.size + d / 64 ≡ a * row_words old.size + w = omega (arith, low) in
        let one = one_place (row_words old.size) c a (d / 64) w d_word w_in there in
        let same = row_of c d one.0 in (
          λ has. inr (record { row = one.0; low = omega (arith, same, low); high = omega (arith, same, high) }),
          λ either. is.1 ((all_bits (d % 64)).1 bit),
        )
