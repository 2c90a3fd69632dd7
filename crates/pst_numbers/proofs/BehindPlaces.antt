-- Places, and meanings behind those of a list in order.
use Rattle.std.proofs.Common.{◌≡◌, ℕ, zero, suc, ◌-◌, ◌<◌, false, List, [], ◌∷◌, ◌++◌, length, get_or, refl, sym, ap, ◌∙◌, subst, ⊎_elim, arith}
use Rattle.std.specs.Prelude.{Some, slice_get}
use Rattle.std.specs.List.{Contains}
use Rattle.std.specs.Ordering.{is_lt, nat_cmp, ordering_then}
use Rattle.std.proofs.lemmas.Bool.Decides.{nat_tests, eqb_tells}
use Rattle.std.proofs.lemmas.List.Elements.{Contains-append_right, Contains-get_or, Contains-push_cases}
use Rattle.std.proofs.lemmas.Option.{get_or_from_slice_get}
use Rattle.pst_base.specs.declared.position.Place.{Place}
use Rattle.pst_base.specs.Places.{IsBefore}
use Rattle.pst_base.specs.Laws.{BeforeGoesOn}
use Rattle.pst_ast.specs.declared.entry.NameMeaning.{NameMeaning}
use Rattle.pst_ast.specs.Scopes.{AreInOrder}

goes_on : BeforeGoesOn
goes_on = grind arith

pub not_before : (p q : Place) → is_lt (ordering_then (ordering_then (nat_cmp p.file q.file) (nat_cmp p.line q.line)) (nat_cmp p.column q.column)) ≡ false → IsBefore p q → ⊥
not_before p q = grind (arith, nat_tests)

later : (xs : List NameMeaning) → AreInOrder xs → (i j : ℕ) (d : NameMeaning) → i < j → j < length xs → IsBefore (get_or xs i d).at (get_or xs j d).at
later [] order i j d less within = absurd (omega (arith, within))
later (x ∷ xs) order zero zero d less within = absurd (omega (arith, less))
later (x ∷ xs) order zero (suc j) d less within = order.0 (get_or xs j d) (Contains-get_or xs j d (omega (arith, within)))
later (x ∷ xs) order (suc i) zero d less within = absurd (omega (arith, less))
later (x ∷ xs) order (suc i) (suc j) d less within = later xs order.1 i j d (omega (arith, less)) (omega (arith, within))

module _ (one : NameMeaning) where
  order_push : (xs : List NameMeaning) → AreInOrder xs → ((n : NameMeaning) → Contains xs n → IsBefore n.at one.at) → AreInOrder (xs ++ one ∷ [])
  order_push [] order before = ((λ n has. absurd (omega (arith, has.1))), tt)
  order_push (x ∷ xs) order before = (
    (λ n has. ⊎_elim (λ (old : Contains xs n). order.0 n old) (λ (new : one ≡ n). subst (λ (m : NameMeaning). IsBefore x.at m.at) new (before x (0, omega arith, refl))) (Contains-push_cases xs one n has)),
    order_push xs order.1 (λ n has. before n (Contains-append_right (x ∷ []) xs n has)),
  )

  -- what is behind the last of a list in order is behind each
  pub goes_behind : (xs : List NameMeaning) (last : NameMeaning) → slice_get xs (length xs - 1) ≡ Some last → IsBefore last.at one.at → AreInOrder xs → AreInOrder (xs ++ one ∷ [])
  goes_behind xs last is before order = order_push xs order (λ n has.
      let at_last : get_or xs (length xs - 1) n ≡ last = get_or_from_slice_get xs (length xs - 1) last n is in
      ⊎_elim
      (λ e. subst (λ (m : NameMeaning). IsBefore m.at one.at) (sym (sym has.2 ∙ ap (λ (i : ℕ). get_or xs i n) e.1 ∙ at_last)) before)
      (λ e. goes_on n.at last.at one.at
      (subst (λ (m : NameMeaning). IsBefore m.at last.at) has.2 (subst (λ (m : NameMeaning). IsBefore (get_or xs has.0 n).at m.at) at_last (later xs order has.0 (length xs - 1) n (omega (arith, has.1, e.1)) (omega (arith, has.1)))))
      before)
      (eqb_tells has.0 (length xs - 1)))
