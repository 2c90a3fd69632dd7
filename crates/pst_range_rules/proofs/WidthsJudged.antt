-- What is found at a plain type is the first of what it breaks.
use Rattle.std.proofs.Common.{◌≡◌, ◌≢◌, ◌↔◌, ⊎_elim, ℕ, ℤ, pos, ◌+ℤ◌, Bool, true, false, not, List, Option, arith, refl, sym, ap, subst, ◌∙◌, true≢false}
use Rattle.std.specs.Prelude.{Some, None, if◌then◌else◌}
use Rattle.std.specs.Option.{option_and_then, option_map}
use Rattle.std.specs.Ordering.{int_eq}
use Rattle.std.proofs.lemmas.Int.{ints}
use Rattle.std.proofs.lemmas.Bool.{or_cases, or_left, or_right, not-true}
use Rattle.pst_base.specs.declared.position.Place.{Place}
use Rattle.pst_ast.specs.ExpressionTree.{ExprTree}
use Rattle.pst_ast.specs.SharedTree.{MakeLow, WidthTree, MakeWidth, PlainTree, PlainInt, PlainBit, PlainBool}
use Rattle.pst_ast.specs.DeclarationTree.{UnitTree}
use Rattle.pst_expr.specs.Spans.{IsInSpan}
use Rattle.pst_ast.specs.declared.environment.Environment.{Environment}
use Rattle.pst_ast.specs.declared.referent.Finding.{Finding}
use Rattle.pst_ast.specs.NameRules.{finding}
use Rattle.pst_ast.specs.Uses.{HasPlain}
use Rattle.pst_type_rules.specs.Constants.{IsConstant}
use Rattle.pst_type_rules.specs.Domains.{HasWidth, ByCount, ByHighest, span}
use Rattle.pst_type_rules.specs.Limits.{widths_of}
use Rattle.pst_type_rules.specs.Places.{plain_place}
use Rattle.pst_type_rules.specs.TypeRules.{UseBreaks, WidthOutside, LowestNotZero, width_in, lowest_in}
use Rattle.pst_name_rules.specs.Leasts.{IsLeastOf}
use Rattle.pst_evaluate.specs.Laws.{ConstantsAreFound}
use Rattle.pst_range_rules.specs.Laws.{IsBrokenBy, PlainTypesAreJudged}
use Rattle.pst_range_rules.specs.Widths.{is_zero, is_not_zero, one_more, width_by, is_outside, is_wrong, plain_by}
use Rattle.pst_range_rules.proofs.Tests.{by_equality, equal_test, some_is, none_is_some, least_if}

-- what is outside its limits, and what isn't 0
outside_is : (least w : ℤ) → is_outside least (Some w) ≡ true → IsInSpan w (span least (pos 63)) → ⊥
outside_is least w e within = grind (arith, ints)

is_outside_so : (least w : ℤ) → (IsInSpan w (span least (pos 63)) → ⊥) → is_outside least (Some w) ≡ true
is_outside_so least w out = grind (arith, ints)

module _ (units : List UnitTree) (names : List (List ℕ)) (at : Environment) (value : ExprTree → Option ℤ) (are : (expr : ExprTree) (v : ℤ) → (value expr ≡ Some v) ↔ IsConstant units names at expr v) where
  zero_is : (expr : ExprTree) (o : Option ℤ) → value expr ≡ o → is_zero o ≡ true → IsConstant units names at expr (pos 0)
  zero_is expr None is e = absurd (true≢false (sym e))
  zero_is expr (Some v) is e = (are expr (pos 0)).0 (is ∙ ap Some (by_equality v (pos 0) e))

  is_zero_so : (expr : ExprTree) → IsConstant units names at expr (pos 0) → is_zero (value expr) ≡ true
  is_zero_so expr has = ap is_zero ((are expr (pos 0)).1 has)

  not_zero_is : (expr : ExprTree) (o : Option ℤ) → value expr ≡ o → is_not_zero o ≡ true → (v : ℤ) × IsConstant units names at expr v × (v ≢ pos 0)
  not_zero_is expr None is e = absurd (true≢false (sym e))
  not_zero_is expr (Some v) is e = (v, (are expr v).0 is, λ same. true≢false (sym (equal_test v (pos 0) same) ∙ not-true (int_eq v (pos 0)) e))

  is_not_zero_so : (expr : ExprTree) (v : ℤ) → IsConstant units names at expr v → v ≢ pos 0 → is_not_zero (value expr) ≡ true
  is_not_zero_so expr v has other = ap is_not_zero ((are expr v).1 has) ∙ unequal (int_eq v (pos 0)) refl
    where
      unequal : (b : Bool) → int_eq v (pos 0) ≡ b → not b ≡ true
      unequal true e = absurd (other (by_equality v (pos 0) e))
      unequal false e = refl

  -- ---- widths

  more_is : (left colon right : Place) (highest lowest : ExprTree) (o : Option ℤ) (w : ℤ) → IsConstant units names at lowest (pos 0) → value highest ≡ o → option_map one_more o ≡ Some w
      → HasWidth units names at (MakeWidth left highest (Some (MakeLow colon lowest)) right) w
  more_is left colon right highest lowest None w low is e = absurd (none_is_some w e)
  more_is left colon right highest lowest (Some m) w low is e =
      subst (λ (z : ℤ). HasWidth units names at (MakeWidth left highest (Some (MakeLow colon lowest)) right) z) (some_is (m +ℤ pos 1) w e) (ByHighest left colon right highest lowest m ((are highest m).0 is) low)

  width_if : (left colon right : Place) (highest lowest : ExprTree) (w : ℤ) (b : Bool) → is_zero (value lowest) ≡ b → (if b then option_map one_more (value highest) else None) ≡ Some w
      → HasWidth units names at (MakeWidth left highest (Some (MakeLow colon lowest)) right) w
  width_if left colon right highest lowest w true e is = more_is left colon right highest lowest (value highest) w (zero_is lowest (value lowest) refl e) refl is
  width_if left colon right highest lowest w false e is = absurd (none_is_some w is)

  pub width_is : (width : WidthTree) (w : ℤ) → width_by value width ≡ Some w → HasWidth units names at width w
  width_is (MakeWidth left expr None right) w e = ByCount left right expr w ((are expr w).0 e)
  width_is (MakeWidth left highest (Some (MakeLow colon lowest)) right) w e = width_if left colon right highest lowest w (is_zero (value lowest)) refl e

  pub is_width : (width : WidthTree) (w : ℤ) → HasWidth units names at width w → width_by value width ≡ Some w
  is_width _ _ (ByCount left right expr w has) = (are expr w).1 has
  is_width _ _ (ByHighest left colon right highest lowest m high low) =
      ap (λ (b : Bool). if b then option_map one_more (value highest) else None) (is_zero_so lowest low) ∙ ap (option_map one_more) ((are highest m).1 high)

  -- ---- what is wrong with a width

  module _ (plain : PlainTree) (width : WidthTree) (there : width_in plain ≡ Some width) (limits : widths_of plain ≡ span (widths_of plain).low (pos 63)) where
    wrong_width : (o : Option ℤ) → width_by value width ≡ o → is_outside (widths_of plain).low o ≡ true → UseBreaks units names (HasPlain at plain) (plain_place plain) 9
    wrong_width None is e = absurd (true≢false (sym e))
    wrong_width (Some w) is e =
        WidthOutside at plain width w there (width_is width w is) (λ within. outside_is (widths_of plain).low w e (subst (λ s. IsInSpan w s) limits within))

    wrong_lowest : (o : Option ExprTree) → lowest_in width ≡ o → is_not_zero (option_and_then value o) ≡ true → UseBreaks units names (HasPlain at plain) (plain_place plain) 9
    wrong_lowest None is e = absurd (true≢false (sym e))
    wrong_lowest (Some expr) is e =
        let found = not_zero_is expr (value expr) refl e in LowestNotZero at plain expr found.0 (ap (option_and_then lowest_in) there ∙ is) found.1 found.2

    pub is_broken : is_wrong value (widths_of plain).low width ≡ true → UseBreaks units names (HasPlain at plain) (plain_place plain) 9
    is_broken e =
        ⊎_elim (wrong_width (width_by value width) refl) (wrong_lowest (lowest_in width) refl)
        (or_cases (is_outside (widths_of plain).low (width_by value width)) (is_not_zero (option_and_then value (lowest_in width))) e)

    -- nothing else breaks a plain type
    pub broken_so : (place : Place) (rule : ℕ) → UseBreaks units names (HasPlain at plain) place rule → (is_wrong value (widths_of plain).low width ≡ true) × (place ≡ plain_place plain) × (rule ≡ 9)
    broken_so place rule (WidthOutside _ _ other w is has out) =
        let same = some_is other width (sym is ∙ there) in
        let number = is_width width w (subst (λ (t : WidthTree). HasWidth units names at t w) same has) in
        (or_left _ _ (ap (is_outside (widths_of plain).low) number ∙ is_outside_so (widths_of plain).low w (λ within. out (subst (λ s. IsInSpan w s) (sym limits) within))), refl, refl)
    broken_so place rule (LowestNotZero _ _ expr v is has other) =
        let lowest = sym (ap (option_and_then lowest_in) there) ∙ is in
        (or_right _ _ (ap (λ (o : Option ExprTree). is_not_zero (option_and_then value o)) lowest ∙ is_not_zero_so expr v has other), refl, refl)

  -- a type without a width breaks nothing
  no_width : (plain : PlainTree) → width_in plain ≡ None → (f : Finding) → IsBrokenBy units names (HasPlain at plain) f → ⊥
  no_width plain none f breaks = go f.place f.rule breaks
    where
      go : (place : Place) (rule : ℕ) → UseBreaks units names (HasPlain at plain) place rule → ⊥
      go place rule (WidthOutside _ _ width w is has out) = none_is_some width (sym none ∙ is)
      go place rule (LowestNotZero _ _ expr v is has other) = none_is_some expr (sym (ap (option_and_then lowest_in) none) ∙ is)

  with_width : (plain : PlainTree) (width : WidthTree) → width_in plain ≡ Some width → widths_of plain ≡ span (widths_of plain).low (pos 63)
      → IsLeastOf (IsBrokenBy units names (HasPlain at plain)) (if is_wrong value (widths_of plain).low width then finding (plain_place plain) 9 else None)
  with_width plain width there limits =
      least_if (plain_place plain) 9 (IsBrokenBy units names (HasPlain at plain)) (is_wrong value (widths_of plain).low width)
      (is_broken plain width there limits) (λ f breaks. broken_so plain width there limits f.place f.rule breaks)

  pub plain_judged : (plain : PlainTree) → IsLeastOf (IsBrokenBy units names (HasPlain at plain)) (plain_by value plain)
  plain_judged (PlainInt place None) = no_width (PlainInt place None) refl
  plain_judged (PlainInt place (Some width)) = with_width (PlainInt place (Some width)) width refl refl
  plain_judged (PlainBit place None) = no_width (PlainBit place None) refl
  plain_judged (PlainBit place (Some width)) = with_width (PlainBit place (Some width)) width refl refl
  plain_judged (PlainBool place) = no_width (PlainBool place) refl

pub plain_types_are_judged : ConstantsAreFound → PlainTypesAreJudged
plain_types_are_judged found units names known at plain are = plain_judged units names at _ (λ expr v. found units names known at expr v are) plain
