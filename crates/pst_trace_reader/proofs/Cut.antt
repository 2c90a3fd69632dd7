-- Texts and their lines.
use Rattle.std.proofs.Common.{◌≡◌, ◌∙◌, ◌≤◌, ◌<◌, ◌+◌, ℕ, zero, suc, List, [], ◌∷◌, ◌++◌, Bool, true, false, length, nat_eq, refl, sym, ap, append_assoc, append-nil, ⊎_elim, arith}
use Rattle.std.specs.Prelude.{All, Contains, slice_index_or}
use Rattle.std.specs.List.{flat_map, count_by}
use Rattle.std.proofs.lemmas.Bool.Decides.{nat_tests}
use Rattle.std.proofs.lemmas.List.Sums.{sum_by-append, sum_by-cons}
use Rattle.std.proofs.lemmas.List.Elements.{All-cons, All-append, Contains-append_cases}
use Rattle.std.proofs.lemmas.Grind.{flat_map-append}
use Rattle.pst_trace_texts.specs.Lines.{line}
use Rattle.pst_trace_reader.specs.Traces.{AreLines}

abbrev pub Unbroken : List ℕ → Type 0
Unbroken l = Contains l 10 → ⊥

no_element : {X : Type 0} (P : X → Type 0) → All P []
no_element P k d below = absurd (omega (arith, below))

unbroken_none : Unbroken []
unbroken_none h = absurd (omega (arith, h.1))

unbroken_more : (x : ℕ) (l : List ℕ) → (x ≡ 10 → ⊥) → Unbroken l → Unbroken (x ∷ l)
unbroken_more x l other none h = ⊎_elim one none (Contains-append_cases (x ∷ []) l 10 h)
  where
    one : Contains (x ∷ []) 10 → ⊥
    one (zero, below, is) = other is
    one (suc k, below, is) = absurd (omega (arith, below))

-- ---- every text has its lines

pub record Cut (text : List ℕ) : Type 0 where
  pub lines : List (List ℕ)
  pub rest : List ℕ
  pub are : AreLines text lines rest

add_byte : (x : ℕ) (text : List ℕ) → Cut text → (b : Bool) → nat_eq x 10 ≡ b → Cut (x ∷ text)
add_byte x text c true is = record {
  lines = [] ∷ c.lines;
  rest = c.rest;
  are = record {
    are = let same : x ≡ 10 = grind (arith, nat_tests) in ap (λ (n : ℕ). n ∷ text) same ∙ ap (λ (t : List ℕ). 10 ∷ t) c.are.are;
    each = All-cons Unbroken [] c.lines unbroken_none c.are.each;
    last = c.are.last;
  };
}
add_byte x text c false is = by c.lines c.rest c.are
  where
    other : x ≡ 10 → ⊥
    other same = let no_more : nat_eq x 10 ≡ true = grind (arith, nat_tests, same) in absurd (let never : true ≡ false = sym no_more ∙ is in cc)

    by : (lines : List (List ℕ)) (rest : List ℕ) → AreLines text lines rest → Cut (x ∷ text)
    by [] rest are = record { lines = []; rest = x ∷ rest; are = record { are = ap (λ (t : List ℕ). x ∷ t) are.are; each = no_element Unbroken; last = unbroken_more x rest other are.last } }
    by (l ∷ lines) rest are = record {
      lines = (x ∷ l) ∷ lines;
      rest = rest;
      are = record {
        are = ap (λ (t : List ℕ). x ∷ t) are.are;
        each = All-cons Unbroken (x ∷ l) lines (unbroken_more x l other (are.each 0 [] (omega arith))) (λ k d below. are.each (suc k) d (omega (arith, below)));
        last = are.last;
      };
    }

pub cut_all : (text : List ℕ) → Cut text
cut_all [] = record { lines = []; rest = []; are = record { are = refl; each = no_element Unbroken; last = unbroken_none } }
cut_all (x ∷ text) = add_byte x text (cut_all text) (nat_eq x 10) refl

-- a text in which no line feed is found has none
pub none_found : (text : List ℕ) → ((a b : List ℕ) → text ≡ a ++ 10 ∷ b → ⊥) → Unbroken text
none_found text none (k, below, is) = at k text below is none
  where
    at : (k : ℕ) (text : List ℕ) → k < length text → slice_index_or text k 10 ≡ 10 → ((a b : List ℕ) → text ≡ a ++ 10 ∷ b → ⊥) → ⊥
    at k [] below is none = absurd (omega (arith, below))
    at zero (x ∷ text) below is none = none [] text (ap (λ (n : ℕ). n ∷ text) is)
    at (suc k) (x ∷ text) below is none = at k text (omega (arith, below)) is (λ a b same. none (x ∷ a) b (ap (λ (t : List ℕ). x ∷ t) same))

-- ---- one line more

-- lines in front of a text, and those of what stands behind them
pub lines_behind : (text rest : List ℕ) (front lines : List (List ℕ)) (left : List ℕ) → text ≡ flat_map line front ++ rest → All Unbroken front → AreLines rest lines left → AreLines text (front ++ lines) left
lines_behind text rest front lines left are each behind = record {
  are = are ∙ ap (λ (t : List ℕ). flat_map line front ++ t) behind.are ∙ sym (append_assoc (flat_map line front) (flat_map line lines) left)
      ∙ ap (λ (t : List ℕ). t ++ left) (sym (flat_map-append line front lines));
  each = All-append Unbroken front lines each behind.each;
  last = behind.last;
}

pub line_first : (text one more : List ℕ) (lines : List (List ℕ)) (left : List ℕ) → text ≡ one ++ 10 ∷ more → Unbroken one → AreLines more lines left → AreLines text (one ∷ lines) left
line_first text one more lines left are none behind = record {
  are = are ∙ ap (λ (t : List ℕ). one ++ 10 ∷ t) behind.are ∙ sym (append_assoc one (10 ∷ []) (flat_map line lines ++ left)) ∙ sym (append_assoc (one ++ 10 ∷ []) (flat_map line lines) left);
  each = All-cons Unbroken one lines none behind.each;
  last = behind.last;
}

pub text_on : (text rest one more : List ℕ) (front : List (List ℕ)) → text ≡ flat_map line front ++ rest → rest ≡ one ++ 10 ∷ more → text ≡ flat_map line (front ++ one ∷ []) ++ more
text_on text rest one more front are cuts =
    are ∙ ap (λ (t : List ℕ). flat_map line front ++ t) (cuts ∙ sym (append_assoc one (10 ∷ []) more))
    ∙ sym (append_assoc (flat_map line front) (one ++ 10 ∷ []) more)
    ∙ ap (λ (t : List ℕ). t ++ more) (ap (λ (t : List ℕ). flat_map line front ++ t) (sym (append-nil (one ++ 10 ∷ []))) ∙ sym (flat_map-append line front (one ∷ [])))

pub each_on : (front : List (List ℕ)) (one : List ℕ) → All Unbroken front → Unbroken one → All Unbroken (front ++ one ∷ [])
each_on front one each none = All-append Unbroken front (one ∷ []) each (All-cons Unbroken one [] none (no_element Unbroken))

-- ---- counts of line feeds

pub count_on : (rest one more : List ℕ) → rest ≡ one ++ 10 ∷ more → count_by (nat_eq 10) more + 1 ≤ count_by (nat_eq 10) rest
count_on rest one more are =
    let whole : count_by (nat_eq 10) rest ≡ count_by (nat_eq 10) one + count_by (nat_eq 10) (10 ∷ more) = ap (count_by (nat_eq 10)) are ∙ sum_by-append _ one (10 ∷ more) in
    let first : count_by (nat_eq 10) (10 ∷ more) ≡ 1 + count_by (nat_eq 10) more = sum_by-cons _ 10 more in
    omega (arith, whole, first)
