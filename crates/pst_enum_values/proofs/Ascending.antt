-- Values that ascend, and those of them in a span.
use Rattle.std.proofs.Common.{◌≡◌, ℕ, ◌<◌, ◌≤◌, ℤ, ◌≤ℤ◌, ◌<ℤ◌, int_lt, int_le, Bool, true, false, ◌&&◌, List, length, get_or, arith, sym, ap, subst, ◌∙◌, ⊎_elim}
use Rattle.std.specs.List.{list_any}
use Rattle.std.specs.List.Sorted.{IsSorted, IsPartitionedBy}
use Rattle.std.specs.Ordering.{int_cmp, is_lt}
use Rattle.std.proofs.lemmas.Bool.{and_parts, cases_lt, false_from_ne_true}
use Rattle.std.proofs.lemmas.Cmp.{int_cmp_total}
use Rattle.std.proofs.lemmas.Int.{ints}
use Rattle.std.proofs.lemmas.List.{get_or_default}
use Rattle.std.proofs.lemmas.List.Folds.{list_any_at, list_any_none}
use Rattle.std.proofs.lemmas.List.Sorted.{ranks_by, sorted_far}
use Rattle.pst_expr.specs.declared.ranges.Span.{Span}
use Rattle.pst_enum_values.specs.Gathered.{IsAscending, is_inside}

by_le : (a b : ℤ) → int_le a b ≡ true → a ≤ℤ b
by_le a b t = omega (arith, ints, t)

le_test : (a b : ℤ) → a ≤ℤ b → int_le a b ≡ true
le_test a b h = grind (arith, ints)

lt_test : (a b : ℤ) → a <ℤ b → int_lt a b ≡ true
lt_test a b h = grind (arith, ints)

pub by_lt : (a b : ℤ) → int_lt a b ≡ true → a <ℤ b
by_lt a b t = omega (arith, ints, t)

pub by_not_lt : (a b : ℤ) → int_lt a b ≡ false → b ≤ℤ a
by_not_lt a b t = omega (arith, ints, t)

-- what isn't less in the order is no less
not_less : (a b : ℤ) → is_lt (int_cmp a b) ≡ false → b ≤ℤ a
not_less a b e = grind (arith, ints)

pub ascending_by_sort : (values : List ℤ) → IsSorted int_cmp values → IsAscending values
ascending_by_sort values sorted i j d le within =
    not_less (get_or values j d) (get_or values i d) (sorted_far (λ x y. is_lt (int_cmp x y)) (ranks_by int_cmp_total (λ (z : ℤ). z)) values sorted i j d le within)

-- those that are less stand first
pub lower_first : (low : ℤ) (values : List ℤ) → IsAscending values → IsPartitionedBy (λ v. int_lt v low) values
lower_first low values ascending i j d le within less =
    let up = ascending i j d le within in
    let under = by_lt (get_or values j d) low less in
    lt_test (get_or values i d) low (omega (arith, ints, up, under))

module _ (s : Span) (values : List ℤ) (at : ℕ) (below : (k : ℕ) (d : ℤ) → k < at → get_or values k d <ℤ s.low) (above : (k : ℕ) (d : ℤ) → at ≤ k → k < length values → s.low ≤ℤ get_or values k d) (ascending : IsAscending values) where
  pub one_inside : (d : ℤ) → at < length values → get_or values at d ≤ℤ s.high → list_any (is_inside s) values ≡ true
  one_inside d within le =
      list_any_at (is_inside s) values at d within
      (ap (λ (b : Bool). b && int_le (get_or values at d) s.high) (le_test s.low (get_or values at d) (above at d (omega arith) within)) ∙ le_test (get_or values at d) s.high le)

  outside : (k : ℕ) (d : ℤ) → k < length values → (at < length values → s.high <ℤ get_or values at d) → (s.low ≤ℤ get_or values k d) → (get_or values k d ≤ℤ s.high) → ⊥
  outside k d within over low high =
      ⊎_elim (λ lt. let under = below k d lt in omega (arith, ints, under, low))
      (λ ge. let far = over (omega (arith, ge, within)) in let up = ascending at k d ge within in omega (arith, ints, far, up, high))
      (cases_lt k at)

  pub none_inside : ((d : ℤ) → at < length values → s.high <ℤ get_or values at d) → list_any (is_inside s) values ≡ false
  none_inside over = list_any_none (is_inside s) values (λ k d within. false_from_ne_true (is_inside s (get_or values k d)) (λ e.
      let both = and_parts (int_le s.low (get_or values k d)) (int_le (get_or values k d) s.high) e in
      outside k d within (over d) (by_le s.low (get_or values k d) both.0) (by_le (get_or values k d) s.high both.1)))

  pub any_inside : (d : ℤ) (b : Bool) → at < length values → b ≡ int_le (get_or values at d) s.high → b ≡ list_any (is_inside s) values
  any_inside d true within is = sym (one_inside d within (by_le (get_or values at d) s.high (sym is)))
  any_inside d false within is = sym (none_inside (λ e there. above_high e (sym is)))
    where
      above_high : (e : ℤ) → int_le (get_or values at d) s.high ≡ false → s.high <ℤ get_or values at e
      above_high e f = let same = get_or_default values at d e within in let over : s.high <ℤ get_or values at d = omega (arith, ints, f) in subst (λ (z : ℤ). s.high <ℤ z) same over
