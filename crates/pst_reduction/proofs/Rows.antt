-- Rows from which others are taken.
use Rattle.std.proofs.Common.{◌≡◌, ◌≢◌, ◌↔◌, ◌⊎◌, inl, inr, ⊎_elim, ◌<◌, ◌≤◌, ◌+◌, ◌*◌, ◌/◌, ◌%◌, ◌++◌, take, ℕ, List, length, get_or, refl, sym, subst, ap, ◌∙◌, arith}
use Rattle.std.specs.Prelude.{IsBitSet}
use Rattle.std.proofs.Math.Seq.{take-append_seam}
use Rattle.std.proofs.lemmas.Bool.{cases_lt}
use Rattle.std.proofs.lemmas.Nat.{same_from_place}
use Rattle.pst_scen.specs.declared.rows.Rows.{Rows as Square}
use Rattle.pst_scen.specs.Rows.{row_words, IsSquare, Has}
use Rattle.pst_square.specs.Bits.{HasBit}
use Rattle.pst_square.proofs.Numbers.{same_or_not}
use Rattle.pst_reduction.specs.Parts.{IsTaken, IsBridgedBit, IsThin, IsThinned, AreThinBelow}
use Rattle.pst_reduction.specs.Reduced.{IsBridged, IsReduced}
use Rattle.pst_reduction.proofs.Words.{set_or_not}

pub word_in : (size row b : ℕ) → row ≡ row_words size → b < size → b / 64 < row
word_in size row b is b_in = omega (arith, is, b_in)

-- what stands in a list whose items were all written anew
pub written : (n : ℕ) (new rest is : List ℕ) → n ≡ length new → is ≡ take n (new ++ rest) → is ≡ new
written n new rest is all same = same ∙ ap (λ m. take m (new ++ rest)) all ∙ take-append_seam new rest

-- ---- one row

-- a word that has lost the bits of another one
abbrev pub IsWithout : ℕ → ℕ → ℕ → Type 0
IsWithout word other new = (k : ℕ) → k < 64 → IsBitSet new k ↔ IsBitSet word k × (IsBitSet other k → ⊥)

-- the first words of the row have lost theirs
pub record TakenBelow (row : ℕ) (whole old new : List ℕ) (a c w : ℕ) : Type 0 where
  pub many : length new ≡ length old
  pub taken : (v : ℕ) → v < w → IsWithout (get_or old (a * row + v) 0) (get_or whole (c * row + v) 0) (get_or new (a * row + v) 0)
  pub others : (x v : ℕ) → v < row → (x ≡ a → w ≤ v) → get_or new (x * row + v) 0 ≡ get_or old (x * row + v) 0

pub taken_none : (row : ℕ) (whole old : List ℕ) (a c : ℕ) → TakenBelow row whole old old a c 0
taken_none row whole old a c = record { many = refl; taken = λ v below. absurd (omega (arith, below)); others = λ x v v_in free. refl }

module _ (row : ℕ) (whole old now new : List ℕ) (a c w : ℕ) (w_in : w < row) (h : TakenBelow row whole old now a c w) (many : length new ≡ length now)
    (at : IsWithout (get_or now (a * row + w) 0) (get_or whole (c * row + w) 0) (get_or new (a * row + w) 0)) (others : (i : ℕ) → i ≢ a * row + w → get_or new i 0 ≡ get_or now i 0) where
  later : (x v : ℕ) → v < row → (x ≡ a → w + 1 ≤ v) → get_or new (x * row + v) 0 ≡ get_or old (x * row + v) 0
  later x v v_in free =
      let apart : x * row + v ≢ a * row + w =
      λ same. (let one = same_from_place x v a w row v_in w_in same in let low = free one.0 in let is = one.1 in omega (arith, low, is)) in
      others (x * row + v) apart ∙ h.others x v v_in (λ same. let low = free same in omega (arith, low))

  here : IsWithout (get_or old (a * row + w) 0) (get_or whole (c * row + w) 0) (get_or new (a * row + w) 0)
  here = subst (λ (n : ℕ). IsWithout n (get_or whole (c * row + w) 0) (get_or new (a * row + w) 0)) (h.others a w w_in (λ same. omega arith)) at

  before : (v : ℕ) → v < w + 1 → IsWithout (get_or old (a * row + v) 0) (get_or whole (c * row + v) 0) (get_or new (a * row + v) 0)
  before v below = ⊎_elim earlier last (cases_lt v w)
    where
      earlier : v < w → IsWithout (get_or old (a * row + v) 0) (get_or whole (c * row + v) 0) (get_or new (a * row + v) 0)
      earlier less =
          subst (λ (n : ℕ). IsWithout (get_or old (a * row + v) 0) (get_or whole (c * row + v) 0) n) (sym (others (a * row + v) (λ same. omega (arith, same, less)))) (h.taken v less)

      last : w ≤ v → IsWithout (get_or old (a * row + v) 0) (get_or whole (c * row + v) 0) (get_or new (a * row + v) 0)
      last more =
          let same : w ≡ v = omega (arith, more, below) in
          subst (λ (x : ℕ). IsWithout (get_or old (a * row + x) 0) (get_or whole (c * row + x) 0) (get_or new (a * row + x) 0)) same here

  pub taken_next : TakenBelow row whole old new a c (w + 1)
  taken_next = record { many = many ∙ h.many; taken = before; others = later }

pub taken_all : (row : ℕ) (whole old new : List ℕ) (a c w : ℕ) → row ≤ w → TakenBelow row whole old new a c w → IsTaken row whole old new a c
taken_all row whole old new a c w all h =
    record {
      many = h.many;
      bits = λ b b_in. h.taken (b / 64) (omega (arith, b_in, all)) (b % 64) (omega arith);
      others = λ x v v_in differs. h.others x v v_in (λ same. absurd (differs same));
    }

-- ---- a thin row

-- bits of equal words
pub same_bits : (row : ℕ) (old new : List ℕ) (a : ℕ) → ((w : ℕ) → w < row → get_or new (a * row + w) 0 ≡ get_or old (a * row + w) 0) → (b : ℕ) → b / 64 < row → HasBit row new a b ↔ HasBit row old a b
same_bits row old new a same b b_in =
    let is = same (b / 64) b_in in (λ has. subst (λ (n : ℕ). IsBitSet n (b % 64)) is has, λ has. subst (λ (n : ℕ). IsBitSet n (b % 64)) (sym is) has)

pub thin_first : (row : ℕ) (whole : List ℕ) (size : ℕ) (words : List ℕ) (a : ℕ) → ((w : ℕ) → w < row → get_or words (a * row + w) 0 ≡ get_or whole (a * row + w) 0) → IsThinned row whole size words words a
thin_first row whole size words a same =
    record {
      many = refl;
      thin = record { within = λ b b_in. (same_bits row whole words a same b b_in).0; bridged = λ b b_in has. inl ((same_bits row whole words a same b b_in).1 has) };
      others = λ x w w_in differs. refl;
    }

module _ (row : ℕ) (whole : List ℕ) (size : ℕ) (old now new : List ℕ) (a c : ℕ) (c_in : c < size) (word : c / 64 < row) (leads : HasBit row now a c) (h : IsThinned row whole size old now a) (t : IsTaken row whole now new a c) where
  leads_on : (b : ℕ) → b / 64 < row → HasBit row whole a b → HasBit row new a b ⊎ IsBridgedBit row whole size a b
  leads_on b b_in has = ⊎_elim own (λ bridge. inr bridge) (h.thin.bridged b b_in has)
    where
      own : HasBit row now a b → HasBit row new a b ⊎ IsBridgedBit row whole size a b
      own mine =
          ⊎_elim (λ from_c. inr (c, c_in, h.thin.within c word leads, from_c)) (λ not. inl ((t.bits b b_in).1 (mine, not))) (set_or_not (get_or whole (c * row + b / 64) 0) (b % 64))

  pub thin_next : IsThinned row whole size old new a
  thin_next =
      record {
        many = t.many ∙ h.many;
        thin = record { within = λ b b_in has. h.thin.within b b_in ((t.bits b b_in).0 has).0; bridged = leads_on };
        others = λ x w w_in differs. t.others x w w_in differs ∙ h.others x w w_in differs;
      }

-- ---- all rows

pub thin_none : (row : ℕ) (whole : List ℕ) (size : ℕ) (words : List ℕ) → words ≡ whole → AreThinBelow row whole size words 0
thin_none row whole size words same =
    record { many = ap length same; thin = λ a below. absurd (omega (arith, below)); rest = λ a w high w_in. ap (λ (l : List ℕ). get_or l (a * row + w) 0) same }

-- a thin row stays thin where its words stay
thin_kept : (row : ℕ) (whole : List ℕ) (size : ℕ) (old new : List ℕ) (a : ℕ) → ((w : ℕ) → w < row → get_or new (a * row + w) 0 ≡ get_or old (a * row + w) 0) → IsThin row whole size old a → IsThin row whole size new a
thin_kept row whole size old new a same h =
    record {
      within = λ b b_in has. h.within b b_in ((same_bits row old new a same b b_in).0 has);
      bridged = λ b b_in has. ⊎_elim (λ own. inl ((same_bits row old new a same b b_in).1 own)) (λ bridge. inr bridge) (h.bridged b b_in has);
    }

pub thin_more : (row : ℕ) (whole : List ℕ) (size : ℕ) (old new : List ℕ) (a : ℕ) → AreThinBelow row whole size old a → IsThinned row whole size old new a → AreThinBelow row whole size new (a + 1)
thin_more row whole size old new a h t = record { many = t.many ∙ h.many; thin = thin; rest = rest }
  where
    thin : (x : ℕ) → x < a + 1 → IsThin row whole size new x
    thin x below =
        ⊎_elim (λ same. subst (IsThin row whole size new) (sym same) t.thin) (λ differs. thin_kept row whole size old new x (λ w w_in. t.others x w w_in differs) (h.thin x (omega (arith, below, differs)))) (same_or_not x a)

    rest : (x w : ℕ) → a + 1 ≤ x → w < row → get_or new (x * row + w) 0 ≡ get_or whole (x * row + w) 0
    rest x w high w_in = t.others x w w_in (λ same. omega (arith, high, same)) ∙ h.rest x w (omega (arith, high)) w_in

-- the rows of a whole square, once they are all thin
pub reduced_of : (rows : Square) (words : List ℕ) → IsSquare rows → AreThinBelow (row_words rows.size) rows.words rows.size words rows.size → IsReduced rows (record { size = rows.size; words = words })
reduced_of rows words square h = record { square = h.many ∙ square; size = refl; within = within; bridged = bridged }
  where
    within : (a b : ℕ) → a < rows.size → b < rows.size → Has (record { size = rows.size; words = words }) a b → Has rows a b
    within a b a_in b_in has = (h.thin a a_in).within b (word_in rows.size (row_words rows.size) b refl b_in) has

    bridged : (a b : ℕ) → a < rows.size → b < rows.size → Has rows a b → Has (record { size = rows.size; words = words }) a b ⊎ IsBridged rows a b
    bridged a b a_in b_in has = (h.thin a a_in).bridged b (word_in rows.size (row_words rows.size) b refl b_in) has
