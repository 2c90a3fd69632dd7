-- The values of fields, under the constraints that rest on them.
use Rattle.std.proofs.Common.{◌≡◌, ◌⊎◌, ℕ, ◌<◌, ◌≤◌, ℤ, List, [], ◌∷◌, ◌++◌, length, map, Option, Some, None, sym, ap, ◌∙◌, subst, inl, inr, arith}
use Rattle.std.specs.Prelude.{slice_get}
use Rattle.std.proofs.lemmas.Bool.{cases_lt}
use Rattle.std.proofs.lemmas.List.{append_assoc, append-nil}
use Rattle.std.proofs.lemmas.Option.{slice_get_within}
use Rattle.pst_expr.specs.declared.ranges.Span.{Span}
use Rattle.pst_expr.specs.declared.tree.Expr.{Expr}
use Rattle.pst_expr.specs.Tree.{Expression, view}
use Rattle.pst_expr.specs.Value.{variable_value}
use Rattle.pst_domain.specs.Bounds.{Holds as HoldsIn, AreWithin, bound_of as bound_at}
use Rattle.pst_narrow.specs.Solutions.{AreMet}
use Rattle.pst_narrow.specs.Local.{LiesWithin}
use Rattle.pst_narrow.specs.Narrowing.{HaveVariablesBelow}
use Rattle.pst_model.specs.ModelTree.{ModelTree}
use Rattle.pst_model.specs.Sound.{IsSound}
use Rattle.pst_scen.specs.declared.scenario.Scenario.{Scenario}
use Rattle.pst_legal.specs.Standing.{value_of, bound_of}
use Rattle.pst_legal.specs.Constraints.{Holds}
use Rattle.pst_value_search.specs.Values.{Kept, Begins, with_value}
use Rattle.pst_value_search.proofs.Points.{values_agree}
use Rattle.pst_field_values.specs.Fields.{values_at, field_count, IsLater}
use Rattle.pst_field_values.specs.Quantities.{Quantity, standing_of, quantity_values, own_quantity}
use Rattle.pst_field_values.specs.Kept.{AreOfFields, with_values}
use Rattle.pst_field_values.specs.Laws.{ExcludedFieldsHoldNothing}
use Rattle.pst_field_values.specs.Writing.{AreOverAt}
use Rattle.pst_field_values.proofs.Later.{quantity_holds, values_stay, value_read}
use Rattle.pst_field_values.proofs.Tables.{length_mapped, value_mapped, no_value_past, all_hold}

-- ---- values that lie within bounds

holds_none : (bound : Option Span) (o : Option ℤ) → o ≡ None → HoldsIn bound o
holds_none bound o none = subst (HoldsIn bound) (sym none) tt

-- values within the bounds of all variables, of which there are no more
lies_all : (bounds : List (Option Span)) (values : List (Option ℤ)) → length values ≤ length bounds → AreWithin bounds values → (v : ℕ) → LiesWithin bounds values v
lies_all bounds values few within v = by_place (cases_lt v (length bounds))
  where
    by_place : (v < length bounds) ⊎ (length bounds ≤ v) → LiesWithin bounds values v
    by_place (inl l) = within v l
    by_place (inr l) = holds_none (bound_at bounds v) (variable_value values v) (no_value_past values v (omega (arith, l, few)))

-- ---- what is written

module _ (m : ModelTree) (s : Scenario) (sound : IsSound m) (n fields : ℕ) (es : List Expression) (bounds : List (Option Span)) (over : AreOverAt m s n fields es bounds) where
  abbrev qs : List Quantity
  qs = over.quantities

  count_bounds : length bounds ≡ length qs
  count_bounds = ap length over.bounds_are ∙ length_mapped (λ q. bound_of (standing_of m s q)) qs

  pub written_below : HaveVariablesBelow (length bounds) es
  written_below k d l = subst (λ c. HaveVariablesBelow c es) (sym count_bounds) (λ j e below. (over.kept j e below).variables) k d l

  pub written_met : (t : Scenario) → IsLater m s t → Holds m t → AreMet es (quantity_values m t qs)
  written_met t later holds k d l = (over.kept k d l).met t (quantity_values m t qs) later holds (λ i q is. value_mapped (λ p. value_of (standing_of m t p)) qs i q is)

  pub written_within : (t : Scenario) → IsLater m s t → AreWithin bounds (quantity_values m t qs)
  written_within t later i l =
      subst (λ bs. HoldsIn (bound_at bs i) (variable_value (quantity_values m t qs) i)) (sym over.bounds_are) (all_hold m s t (quantity_holds m s t sound later) qs over.there i)

-- ---- what is given

pub none_of_fields : (m : ModelTree) (s : Scenario) → IsSound m → (n : ℕ) (es : List Expr) (bounds : List (Option Span)) → AreOverAt m s n (field_count m s.nodes n) (map view es) bounds
    → Begins es bounds None → AreOfFields m s n None
none_of_fields m s sound n es bounds over none t later holds =
    let fields = field_count m s.nodes n in
    none (quantity_values m t over.quantities) (written_within m s sound n fields (map view es) bounds over t later) (written_met m s sound n fields (map view es) bounds over t later holds)

pub given_of_fields : (m : ModelTree) (s : Scenario) → IsSound m → (n : ℕ) (es : List Expr) (bounds : List (Option Span)) → AreOverAt m s n (field_count m s.nodes n) (map view es) bounds
    → (begun : Kept) → Begins es bounds (Some begun) → AreOfFields m s n (Some (with_values begun (values_at s.nodes n)))
given_of_fields m s sound n es bounds over begun begins =
    let fields = field_count m s.nodes n in
    record {
      known = ap (λ vs. vs ++ values_at s.nodes n) begins.none;
      quantities = over.quantities;
      own = over.own;
      met = λ t later holds. subst (λ xs. AreMet (map view xs) (quantity_values m t over.quantities)) (sym begins.constraints_same) (written_met m s sound n fields (map view es) bounds over t later holds);
      within = λ t later holds.
          let values = quantity_values m t over.quantities in
          let many = length_mapped (λ q. value_of (standing_of m t q)) over.quantities in
          let few = begins.narrows.count in
          let count = count_bounds m s sound n fields (map view es) bounds over in
          lies_all begun.bounds values (omega (arith, many, few, count))
          (begins.narrows.keeps values (written_within m s sound n fields (map view es) bounds over t later) (written_met m s sound n fields (map view es) bounds over t later holds));
    }

-- ---- the law

pub excluded : ExcludedFieldsHoldNothing
excluded m s t n k places value kept excludes less later holds is =
    let values = quantity_values m t kept.quantities in
    excludes values (kept.met t later holds) (kept.within t later holds)
    (values_agree places k.values values (λ i v there given. known i v given)) (field_is (length k.values) value less is)
  where
    field_is : (i : ℕ) (v : ℤ) → i < field_count m s.nodes n → slice_get (values_at t.nodes n) i ≡ Some v → variable_value (quantity_values m t kept.quantities) i ≡ Some v
    field_is i v l read = value_mapped (λ q. value_of (standing_of m t q)) kept.quantities i (own_quantity n i) (kept.own i l) ∙ value_read m t n i v read

    known : (i : ℕ) (v : ℤ) → slice_get k.values i ≡ Some v → variable_value (quantity_values m t kept.quantities) i ≡ Some v
    known i v given =
        let within = slice_get_within k.values i v given in
        field_is i v (omega (arith, within, less)) (values_stay m s t later n i v (sym (ap (λ vs. slice_get vs i) kept.known) ∙ given))

-- ---- values one after another

pub given_more : (k : Kept) (v : ℤ) (values : List ℤ) → with_values (with_value k v) values ≡ with_values k (v ∷ values)
given_more k v values = ap (λ vs. record k { values = vs }) (append_assoc k.values (v ∷ []) values)

pub given_all : (k : Kept) → with_values k [] ≡ k
given_all k = ap (λ vs. record k { values = vs }) (append-nil k.values)
