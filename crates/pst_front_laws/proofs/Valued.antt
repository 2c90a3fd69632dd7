-- The value that is found for a constant part of the sources is the one that it has by the rules.
use Rattle.std.proofs.Common.{◌≡◌, ◌⊎◌, ◌↔◌, refl, sym, subst, ap, ◌∙◌, arith, inl, inr}
use Rattle.std.specs.Prelude.{ℤ, List, [], ◌∷◌, IsTrue, Some}
use Rattle.std.specs.List.{find, Contains}
use Rattle.std.specs.Option.{option_map}
use Rattle.std.proofs.lemmas.Option.{same_Some}
use Rattle.pst_base.specs.declared.position.Place.{Place}
use Rattle.pst_base.specs.Places.{IsBefore}
use Rattle.pst_ast.specs.ExpressionTree.{ExprTree}
use Rattle.pst_ast.specs.declared.environment.Environment.{Environment}
use Rattle.pst_ast.specs.Sorts.{same_place}
use Rattle.pst_ast.specs.Uses.{Judges, Role, uses}
use Rattle.pst_type_rules.specs.declared.typed.ConstantValue.{ConstantValue}
use Rattle.pst_type_rules.specs.Constants.{IsConstant}
use Rattle.pst_type_rules.specs.Places.{expr_place}
use Rattle.pst_type_rules.specs.TypeRules.{NotConstant, OfUse, is_constant}
use Rattle.pst_type_rules.specs.Typed.{AreInOrder}
use Rattle.pst_terms.specs.Sources.{Sources, value_of}
use Rattle.pst_front_laws.specs.ValueLaws.{AreValued}
use Rattle.pst_front_laws.proofs.Elements.{In, in_get, found_there, some_found, from_contains, to_contains}
use Rattle.pst_front_laws.proofs.Actions.{same_itself}
use Rattle.pst_front_laws.proofs.Settled.{same_places, constant_or}

never_before : (p : Place) → IsBefore p p → ⊥
never_before p (inl less) = omega (arith, less)
never_before p (inr (same, inl less)) = omega (arith, less)
never_before p (inr (same, inr (also, less))) = omega (arith, less)

-- in order of place two that stand at one place are one
one_at : (xs : List ConstantValue) → AreInOrder xs → (c d : ConstantValue) → In c xs → In d xs → c.at ≡ d.at → c ≡ d
one_at [] order c d there also same = absurd there
one_at (x ∷ more) order c d (inl e) (inl f) same = sym e ∙ f
one_at (x ∷ more) order c d (inl e) (inr also) same =
    absurd (never_before d.at (subst (λ (p : Place). IsBefore p d.at) (ap (λ (y : ConstantValue). y.at) e ∙ same) (order.0 d (to_contains more d also))))
one_at (x ∷ more) order c d (inr there) (inl f) same =
    absurd (never_before c.at (subst (λ (p : Place). IsBefore p c.at) (ap (λ (y : ConstantValue). y.at) f ∙ sym same) (order.0 c (to_contains more c there))))
one_at (x ∷ more) order c d (inr there) (inr also) same = one_at more order.1 c d there also same

value_at : (xs : List ConstantValue) → AreInOrder xs → (c : ConstantValue) → In c xs → option_map (λ (x : ConstantValue). x.value) (find (λ (x : ConstantValue). same_place x.at c.at) xs) ≡ Some c.value
value_at xs order c there =
    let f = some_found (λ (x : ConstantValue). same_place x.at c.at) xs c there (same_itself c.at) in
    let r = found_there (λ (x : ConstantValue). same_place x.at c.at) xs f.0 f.1 in
    let same = one_at xs order f.0 c (in_get xs r.0.0 f.0 r.0.1) there (same_places f.0.at c.at r.1) in
    ap (option_map (λ (x : ConstantValue). x.value)) f.1 ∙ ap (λ (x : ConstantValue). Some x.value) same

module _ (s : Sources) (are : AreValued s) (at : Environment) (role : Role) (expr : ExprTree) (among : Contains (uses s.units) (Judges at role expr)) (constant : IsTrue (is_constant role)) where
  pub value_found : (v : ℤ) → IsConstant s.units s.names at expr v → value_of s expr ≡ Some v
  value_found v has =
      let c : ConstantValue = record { at = expr_place expr; value = v } in
      let there = (are.constants.each c).1 (record { environment = at; role = role; expr = expr; among = among; constant = constant; at = refl; value = has }) in
      value_at s.constants are.constants.order c (from_contains s.constants c there.0 there.1 there.2)

  -- it has a value, which is found
  pub valued : (v : ℤ) × IsConstant s.units s.names at expr v × (value_of s expr ≡ Some v)
  valued = by (constant_or s.units s.names at expr)
    where
      by : ((v : ℤ) × IsConstant s.units s.names at expr v) ⊎ ((v : ℤ) → IsConstant s.units s.names at expr v → ⊥) → (v : ℤ) × IsConstant s.units s.names at expr v × (value_of s expr ≡ Some v)
      by (inl c) = (c.0, c.1, value_found c.0 c.1)
      by (inr none) = absurd (are.types_right (expr_place expr) 11 (OfUse (Judges at role expr) (expr_place expr) 11 among (NotConstant at role expr constant none)))

  pub found_value : (v : ℤ) → value_of s expr ≡ Some v → IsConstant s.units s.names at expr v
  found_value v e = subst (IsConstant s.units s.names at expr) (same_Some valued.0 v (sym valued.2 ∙ e)) valued.1

pub constants_are_valued : (s : Sources) (at : Environment) (role : Role) (expr : ExprTree) (v : ℤ) → AreValued s → Contains (uses s.units) (Judges at role expr) → IsTrue (is_constant role)
    → (value_of s expr ≡ Some v) ↔ IsConstant s.units s.names at expr v
constants_are_valued s at role expr v are among constant = (found_value s are at role expr among constant v, value_found s are at role expr among constant v)
