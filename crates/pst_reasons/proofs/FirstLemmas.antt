-- First changes along a trail.
use Rattle.std.proofs.Common.{◌≡◌, ◌⊎◌, inl, inr, ℕ, zero, suc, ◌+◌, ◌<◌, ◌≤◌, List, [], ◌∷◌, ◌++◌, length, take, set, get_or, refl, sym, ap, subst, ◌∙◌, arith}
use Rattle.std.proofs.lemmas.List.{length-take-le, take-append-le, get_or-take, get_or-set_same, get_or-set_other}
use Rattle.std.specs.Prelude.{slice_get, Some, None, Option}
use Rattle.pst_expr.specs.declared.ranges.Span.{Span}
use Rattle.pst_narrow.specs.Trail.{Extends}
use Rattle.std.proofs.lemmas.Option.{get_or_from_slice_get}
use Rattle.pst_narrow.specs.declared.trail.Former.{Former}
use Rattle.pst_reasons.specs.Firsts.{first_at, AreFirsts, AreNoLater, AreNoted, AreForgotten}

same_or : (i k : ℕ) → (i ≡ k) ⊎ (i ≡ k → ⊥)
same_or i k = grind arith

below_or : (i n : ℕ) → (i < n) ⊎ (n ≤ i)
below_or i n = grind arith

last_or : (i n : ℕ) → i < n + 1 → (i < n) ⊎ (i ≡ n)
last_or i n h = grind arith

pub within_firsts : (xs : List ℕ) (v a : ℕ) → a < first_at xs v → v < length xs
within_firsts [] v a h = let none : a < 0 = h in absurd (omega (arith, none))
within_firsts (x ∷ xs) zero a h = omega arith
within_firsts (x ∷ xs) (suc v) a h = let more = within_firsts xs v a h in omega (arith, more)

pub first_found : (xs : List ℕ) (v n : ℕ) → slice_get xs v ≡ Some n → n ≡ first_at xs v
first_found xs v n e = sym (get_or_from_slice_get xs v n 0 e)

pub first_missing : (xs : List ℕ) (v : ℕ) → slice_get xs v ≡ None → 0 ≡ first_at xs v
first_missing [] v e = refl
first_missing (x ∷ xs) zero e = absurd cc
first_missing (x ∷ xs) (suc v) e = first_missing xs v e

-- ---- a change is noted

pub set_no_later : (xs : List ℕ) (i a : ℕ) → a < first_at xs i → AreNoLater xs (set xs i a)
set_no_later xs i a less v = elim (same_or v i) [
  | inl e ↦ subst (λ k. first_at (set xs i a) k ≤ first_at xs k) (sym e) (let at : first_at (set xs i a) i ≡ a = get_or-set_same xs i a 0 (within_firsts xs i a less) in omega (arith, at, less))
  | inr n ↦ let at : first_at (set xs i a) v ≡ first_at xs v = get_or-set_other xs i v a 0 n in omega (arith, at)
]

pub set_noted : (xs : List ℕ) (i a : ℕ) → a < first_at xs i → first_at (set xs i a) i ≤ a
set_noted xs i a less = let at : first_at (set xs i a) i ≡ a = get_or-set_same xs i a 0 (within_firsts xs i a less) in omega (arith, at)

pub record AreNotedTo (trail : List Former) (mark to : ℕ) (old new : List ℕ) : Type 0 where
  pub no_later : AreNoLater old new
  pub noted : (i : ℕ) (d : Former) → mark ≤ i → i < to → i < length trail → first_at new (get_or trail i d).variable ≤ i

pub none_noted : (trail : List Former) (mark : ℕ) (old : List ℕ) → AreNotedTo trail mark mark old old
none_noted trail mark old = record { no_later = λ v. omega arith; noted = λ i d above below small. absurd (omega (arith, above, below)) }

pub one_noted : (trail : List Former) (mark to : ℕ) (d : Former) (old mid new : List ℕ) → to < length trail → AreNoLater mid new → first_at new (get_or trail to d).variable ≤ to → AreNotedTo trail mark to old mid → AreNotedTo trail mark (to + 1) old new
one_noted trail mark to d old mid new inside lower here h =
    record {
      no_later = λ v. let a = lower v in let b = h.no_later v in omega (arith, a, b);
      noted = λ i e above below small. elim (last_or i to below) [
        | inl less ↦ let a = lower (get_or trail i e).variable in let b = h.noted i e above less small in omega (arith, a, b)
        | inr last ↦ subst (λ k. first_at new (get_or trail k e).variable ≤ k) (sym last) (subst (λ f. first_at new f.variable ≤ to) (same_default trail to d e inside) here)
      ];
    }
  where
    same_default : (xs : List Former) (k : ℕ) (a b : Former) → k < length xs → get_or xs k a ≡ get_or xs k b
    same_default [] k a b less = absurd (omega arith)
    same_default (x ∷ xs) zero a b less = refl
    same_default (x ∷ xs) (suc k) a b less = same_default xs k a b (omega arith)

pub all_noted : (trail : List Former) (mark to : ℕ) (old new : List ℕ) → length trail ≤ to → AreNotedTo trail mark to old new → AreNoted trail mark old new
all_noted trail mark to old new end h = record { no_later = h.no_later; noted = λ i d above small. h.noted i d above (omega (arith, end, small)) small }

-- with the changes from a mark on noted, all are
pub noted_firsts : (before t more : List Former) (mark : ℕ) (old new : List ℕ) → t ≡ before ++ more → mark ≤ length before → AreFirsts old (take mark before) → AreNoted t mark old new → AreFirsts new t
noted_firsts before t more mark old new is room h noted i d small = elim (below_or i mark) [
  | inl below ↦ let at : get_or (take mark before) i d ≡ get_or t i d = ap (λ z. get_or z i d) front ∙ get_or-take mark t i d below in
      let a : first_at old (get_or t i d).variable ≤ i = subst (λ f. first_at old f.variable ≤ i) at (h i d (let size = length-take-le mark before room in omega (arith, size, below))) in
      let b = noted.no_later (get_or t i d).variable in
      omega (arith, a, b)
  | inr above ↦ noted.noted i d above small
]
  where
    front : take mark before ≡ take mark t
    front = sym (take-append-le mark before more room) ∙ ap (take mark) (sym is)

pub noted_all : (before t told : List Former) (mark : ℕ) (old new : List ℕ) (a b : List (Option Span)) → told ≡ t → Extends before t a b → mark ≤ length before → AreFirsts old (take mark before) → AreNoted told mark old new → AreFirsts new t
noted_all before t told mark old new a b is x room h noted = noted_firsts before t x.more mark old new x.appended room h (subst (λ z. AreNoted z mark old new) is noted)

-- ---- changes are forgotten

pub set_forgotten : (xs : List ℕ) (i a mark : ℕ) → mark ≤ first_at xs i → AreForgotten mark xs (set xs i a)
set_forgotten xs i a mark late v early = elim (same_or v i) [
  | inl e ↦ absurd (let there : first_at xs v ≡ first_at xs i = ap (first_at xs) e in omega (arith, there, early, late))
  | inr n ↦ get_or-set_other xs i v a 0 n
]

pub forgotten_then : (mark : ℕ) (old mid new : List ℕ) → AreForgotten mark old mid → AreForgotten mark mid new → AreForgotten mark old new
forgotten_then mark old mid new f g v early =
    let a = f v early in
    let b : first_at mid v < mark = omega (arith, a, early) in
    g v b ∙ a

pub lower_firsts : (t : List Former) (old new : List ℕ) → AreNoLater old new → AreFirsts old t → AreFirsts new t
lower_firsts t old new lower h i d small = let a = lower (get_or t i d).variable in let b = h i d small in omega (arith, a, b)

-- those of the front are right still
pub forgotten_firsts : (t : List Former) (old new : List ℕ) (mark : ℕ) → length t ≤ mark → AreForgotten mark old new → AreFirsts old t → AreFirsts new t
forgotten_firsts t old new mark room f h i d small =
    let a = h i d small in
    let b = f (get_or t i d).variable (omega (arith, a, small, room)) in
    omega (arith, a, b)

pub front_firsts : (t : List Former) (firsts : List ℕ) (mark : ℕ) → mark ≤ length t → AreFirsts firsts t → AreFirsts firsts (take mark t)
front_firsts t firsts mark room h i d small =
    let size = length-take-le mark t room in
    let at : get_or t i d ≡ get_or (take mark t) i d = sym (get_or-take mark t i d (omega (arith, size, small))) in
    subst (λ f. first_at firsts f.variable ≤ i) at (h i d (omega (arith, size, small, room)))

pub cut_firsts : (t : List Former) (old new : List ℕ) (mark : ℕ) → mark ≤ length t → AreForgotten mark old new → AreFirsts old t → AreFirsts new (take mark t)
cut_firsts t old new mark room f h =
    let size = length-take-le mark t room in
    forgotten_firsts (take mark t) old new mark (omega (arith, size)) f (front_firsts t old mark room h)
