-- Constants within their limits.
use Rattle.std.proofs.Common.{◌≡◌, ◌⊎◌, ◌<◌, ◌≤◌, inl, inr, refl, sym, ap, arith, ◌∙◌}
use Rattle.std.specs.Prelude.{ℕ, Bool, true, false, nat_eq, ◌&&◌, ℤ, pos, unsigned_abs, List, [], ◌∷◌, Option, Some, cond, IsTrue}
use Rattle.std.specs.List.{find, Contains}
use Rattle.std.specs.Option.{option_map, option_map_or}
use Rattle.std.proofs.lemmas.Bool.{false≢true, eqb-true, eq-eqb, cases_lt}
use Rattle.std.proofs.lemmas.Int.{ints}
use Rattle.pst_base.specs.declared.position.Place.{Place}
use Rattle.pst_base.specs.Places.{IsBefore}
use Rattle.pst_ast.specs.ExpressionTree.{ExprTree}
use Rattle.pst_ast.specs.DeclarationTree.{UnitTree}
use Rattle.pst_expr.specs.Spans.{IsInSpan}
use Rattle.pst_ast.specs.Breaches.{IsNone}
use Rattle.pst_ast.specs.declared.environment.Environment.{Environment}
use Rattle.pst_ast.specs.Sorts.{same_place}
use Rattle.pst_ast.specs.Uses.{Judges, Role, uses}
use Rattle.pst_type_rules.specs.Constants.{IsConstant}
use Rattle.pst_type_rules.specs.Domains.{span}
use Rattle.pst_type_rules.specs.declared.typed.ConstantValue.{ConstantValue}
use Rattle.pst_type_rules.specs.Places.{expr_place}
use Rattle.pst_type_rules.specs.Limits.{limits_of}
use Rattle.pst_type_rules.specs.TypeRules.{is_constant, TypeBreach, OfUse, NotConstant, ValueOutside}
use Rattle.pst_type_rules.specs.Typed.{AreInOrder, AreConstants}
use Rattle.pst_terms.specs.Sources.{value_of, amount_of}
use Rattle.pst_elab_rules.specs.Model.{sources}
use Rattle.pst_sound_model.proofs.Members.{In, to_contains, from_contains}
use Rattle.pst_sound_model.proofs.Owned.{both_true, and_true}

pub same_places : (a b : Place) → same_place a b ≡ true → a ≡ b
same_places a b e =
    let one = both_true (nat_eq a.file b.file) (nat_eq a.line b.line && nat_eq a.column b.column) e in
    let two = both_true (nat_eq a.line b.line) (nat_eq a.column b.column) one.1 in
    let file = eqb-true a.file b.file one.0 in
    let line = eqb-true a.line b.line two.0 in
    let column = eqb-true a.column b.column two.1 in
    λ i. record { file = file i; line = line i; column = column i }

not_before : (p q : Place) → p ≡ q → IsBefore p q → ⊥
not_before p q e (inl h) = let same : p.file ≡ q.file = ap (λ (x : Place). x.file) e in absurd (omega (arith, same, h))
not_before p q e (inr (a, inl h)) = let same : p.line ≡ q.line = ap (λ (x : Place). x.line) e in absurd (omega (arith, same, h))
not_before p q e (inr (a, inr (b, h))) = let same : p.column ≡ q.column = ap (λ (x : Place). x.column) e in absurd (omega (arith, same, h))

-- the constant of a place is the only one there
found_by : (b : Bool) (place : Place) (x c : ConstantValue) (more : List ConstantValue) → same_place x.at place ≡ b → c.at ≡ place → ((d : ConstantValue) → Contains more d → IsBefore x.at d.at)
    → (x ≡ c) ⊎ In c more → (In c more → find (λ c. same_place c.at place) more ≡ Some c) → cond b (Some x) (find (λ c. same_place c.at place) more) ≡ Some c
found_by true place x c more e at before (inl same) on = ap (λ (y : ConstantValue). Some y) same
found_by true place x c more e at before (inr there) on = absurd (not_before x.at c.at (same_places x.at place e ∙ sym at) (before c (to_contains more c there)))
found_by false place x c more e at before (inr there) on = on there
found_by false place x c more e at before (inl same) on = absurd (false≢true (sym e ∙ (ap (λ (y : ConstantValue). same_place y.at place) same ∙ (ap (λ (p : Place). same_place p place) at ∙ itself place))))
  where
    itself : (p : Place) → same_place p p ≡ true
    itself p = and_true (nat_eq p.file p.file) (nat_eq p.line p.line && nat_eq p.column p.column) (eq-eqb p.file p.file refl) (and_true (nat_eq p.line p.line) (nat_eq p.column p.column) (eq-eqb p.line p.line refl) (eq-eqb p.column p.column refl))

pub constant_found : (constants : List ConstantValue) → AreInOrder constants → (c : ConstantValue) (place : Place) → In c constants → c.at ≡ place → find (λ c. same_place c.at place) constants ≡ Some c
constant_found [] order c place there at = absurd there
constant_found (x ∷ more) order c place there at = found_by (same_place x.at place) place x c more refl at order.0 there (λ h. constant_found more order.1 c place h at)

decide_within : (low high n : ℕ) → ((low ≤ n) × (n ≤ high)) ⊎ ((low ≤ n) × (n ≤ high) → ⊥)
decide_within low high n = by (cases_lt n low) (cases_lt high n)
  where
    by : (n < low) ⊎ (low ≤ n) → (high < n) ⊎ (n ≤ high) → ((low ≤ n) × (n ≤ high)) ⊎ ((low ≤ n) × (n ≤ high) → ⊥)
    by (inl a) b = inr (λ h. absurd (omega (arith, a, h.0)))
    by (inr a) (inl b) = inr (λ h. absurd (omega (arith, b, h.1)))
    by (inr a) (inr b) = inl (a, b)

module _ (units : List UnitTree) (names : List (List ℕ)) (constants : List ConstantValue) (are : AreConstants units names constants) where
  -- a constant part has the value that is found
  pub value_found : (at : Environment) (role : Role) (expr : ExprTree) (v : ℤ) → In (Judges at role expr) (uses units) → IsTrue (is_constant role) → IsConstant units names at expr v → value_of (sources units names constants) expr ≡ Some v
  value_found at role expr v there is constant =
      let c : ConstantValue = record { at = expr_place expr; value = v } in
      let listed = are.each c in
      let among : Contains constants c = listed.1 (record { environment = at; role = role; expr = expr; among = to_contains (uses units) (Judges at role expr) there; constant = is; at = refl; value = constant }) in
      ap (λ (o : Option ConstantValue). option_map (λ c. c.value) o) (constant_found constants are.order c (expr_place expr) (from_contains constants c among.0 among.1 among.2) refl)

  module _ (kept : IsNone (TypeBreach units names)) where
    -- what can be told of a constant holds of its value
    pub by_value : (P : Type 0) → (P ⊎ (P → ⊥)) → (at : Environment) (role : Role) (expr : ExprTree) → In (Judges at role expr) (uses units) → IsTrue (is_constant role)
        → ((v : ℤ) → IsConstant units names at expr v → value_of (sources units names constants) expr ≡ Some v → P) → P
    by_value P (inl p) at role expr there is f = p
    by_value P (inr never) at role expr there is f =
        absurd (kept (expr_place expr) 11 (OfUse (Judges at role expr) (expr_place expr) 11 (to_contains (uses units) (Judges at role expr) there) (NotConstant at role expr is (λ v c. never (f v c (value_found at role expr v there is c))))))

    -- within its limits
    abbrev Within : ℕ → ℕ → ExprTree → Type 0
    Within low high expr = (low ≤ amount_of (sources units names constants) expr) × (amount_of (sources units names constants) expr ≤ high)

    within_span : (low high : ℕ) (v : ℤ) (n : ℕ) → n ≡ unsigned_abs v → IsInSpan v (span (pos low) (pos high)) → (low ≤ n) × (n ≤ high)
    within_span low high v n e inside = (omega (arith, ints, e, inside), omega (arith, ints, e, inside))

    pub within_limits : (at : Environment) (role : Role) (expr : ExprTree) (low high : ℕ) → In (Judges at role expr) (uses units) → IsTrue (is_constant role) → limits_of role ≡ Some (span (pos low) (pos high)) → Within low high expr
    within_limits at role expr low high there is limits = by_value (Within low high expr) (decide_within low high (amount_of (sources units names constants) expr)) at role expr there is (tell (decide_within low high (amount_of (sources units names constants) expr)))
      where
        tell : Within low high expr ⊎ (Within low high expr → ⊥) → (v : ℤ) → IsConstant units names at expr v → value_of (sources units names constants) expr ≡ Some v → Within low high expr
        tell (inl p) v c e = p
        tell (inr never) v c e =
            absurd (kept (expr_place expr) 12 (OfUse (Judges at role expr) (expr_place expr) 12 (to_contains (uses units) (Judges at role expr) there)
            (ValueOutside at role expr (span (pos low) (pos high)) v limits c (λ inside. never (within_span low high v (amount_of (sources units names constants) expr) (ap (λ (o : Option ℤ). option_map_or unsigned_abs o 0) e) inside)))))
