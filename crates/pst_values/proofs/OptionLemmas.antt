-- The values of a domain in the order of a seed.
use Rattle.std.proofs.Common.{◌≡◌, ◌⊎◌, inl, inr, ℕ, ◌+◌, ◌-◌, ◌%◌, ◌<◌, ◌≤◌, ℤ, ◌≤ℤ◌, ◌<ℤ◌, List, get_or, AllPairs, Some, ap, ◌∙◌, arith}
use Rattle.std.proofs.lemmas.Int.{ints}
use Rattle.std.proofs.Math.Nat.{add-mod_right, mod-eq_of_lt}
use Rattle.std.proofs.lemmas.Option.{slice_get_within, get_or_from_slice_get}
use Rattle.std.specs.Prelude.{slice_get}
use Rattle.pst_expr.specs.declared.ranges.Span.{Span}
use Rattle.pst_expr.specs.Spans.{values}
use Rattle.pst_expr.specs.Laws.{ListsValues}
use Rattle.pst_values.specs.Options.{HoldsRun}

-- values of a domain stand in ascending order
ascends : (spans : List Span) → AllPairs ◌<ℤ◌ (values spans) → (i j : ℕ) (x y : ℤ) → i ≤ j → slice_get (values spans) i ≡ Some x → slice_get (values spans) j ≡ Some y → x ≤ℤ y
ascends spans up i j x y order e f =
    let within = slice_get_within (values spans) j y f in
    let at_i = get_or_from_slice_get (values spans) i x x e in
    let at_j = get_or_from_slice_get (values spans) j y x f in
    elim (cases i j order) [
      | inl less ↦ let rise = up i j x less within in omega (arith, ints, rise, at_i, at_j)
      | inr same ↦ let both : get_or (values spans) i x ≡ get_or (values spans) j x = ap (λ k. get_or (values spans) k x) same in omega (arith, ints, both, at_i, at_j)
    ]
  where
    cases : (i j : ℕ) → i ≤ j → (i < j) ⊎ (i ≡ j)
    cases i j h = grind arith

pub holds_run : (spans : List Span) (index count : ℕ) (low high : ℤ) → ListsValues spans → 0 < count → slice_get (values spans) index ≡ Some low → slice_get (values spans) (index + (count - 1)) ≡ Some high → HoldsRun spans index count (record { low = low; high = high })
holds_run spans index count low high lists some first last k small v at =
    (ascends spans lists.ascending index (index + k) low v (omega arith) first at, ascends spans lists.ascending (index + k) (index + (count - 1)) v high (omega arith) at last)

pub run_upright : (spans : List Span) (index count : ℕ) (low high : ℤ) → ListsValues spans → 0 < count → slice_get (values spans) index ≡ Some low → slice_get (values spans) (index + (count - 1)) ≡ Some high → low ≤ℤ high
run_upright spans index count low high lists some first last = ascends spans lists.ascending index (index + (count - 1)) low high (omega arith) first last

pub run_before : (start size place k : ℕ) → start + (place + k) < size → (start + (place + k)) % size ≡ start + place + k
run_before start size place k h = mod-eq_of_lt h ∙ omega arith

pub run_behind : (start size place k : ℕ) → start < size → size - start ≤ place → place + k < size → (start + (place + k)) % size ≡ place - (size - start) + k
run_behind start size place k small past below =
    let low : ℕ = place - (size - start) + k in
    let split : start + (place + k) ≡ low + size = omega arith in
    ap (λ z. z % size) split ∙ (add-mod_right low size ∙ mod-eq_of_lt (omega arith))
