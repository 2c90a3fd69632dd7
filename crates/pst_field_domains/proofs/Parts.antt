-- Widths and ranges by the values of their constants.
use Rattle.std.proofs.Common.{◌≡◌, ◌↔◌, ℕ, ℤ, pos, ◌+ℤ◌, Bool, true, false, List, Option, refl, sym, ap, subst, ◌∙◌, true≢false}
use Rattle.std.specs.Prelude.{Some, None, is_some, if◌then◌else◌}
use Rattle.std.specs.Option.{option_map, unwrap_or}
use Rattle.std.specs.Ordering.{int_eq}
use Rattle.std.proofs.lemmas.Bool.Decides.{Decides-int_eq}
use Rattle.pst_base.specs.declared.position.Place.{Place}
use Rattle.pst_ast.specs.ExpressionTree.{ExprTree, RangeTree, RangeSingle, RangeBetween}
use Rattle.pst_ast.specs.SharedTree.{MakeLow, WidthTree, MakeWidth}
use Rattle.pst_ast.specs.DeclarationTree.{UnitTree}
use Rattle.pst_expr.specs.declared.ranges.Span.{Span}
use Rattle.pst_ast.specs.declared.environment.Environment.{Environment}
use Rattle.pst_type_rules.specs.Constants.{IsConstant}
use Rattle.pst_type_rules.specs.Domains.{HasWidth, ByCount, ByHighest, IsSpanOf, Single, Between, span}
use Rattle.pst_range_rules.specs.Spans.{between, span_of}
use Rattle.pst_range_rules.specs.Widths.{is_zero, one_more, width_by}

pub by_equality : (a b : ℤ) → int_eq a b ≡ true → a ≡ b
by_equality a b e = (Decides-int_eq a b).0 e

pub equal_test : (a b : ℤ) → a ≡ b → int_eq a b ≡ true
equal_test a b e = (Decides-int_eq a b).1 e

pub some_is : {A : Type 0} (x y : A) → Some x ≡ Some y → x ≡ y
some_is x y e = ap (λ o. unwrap_or o x) e

pub none_is_some : {A : Type 0} (x : A) → None ≡ Some x → ⊥
none_is_some x e = true≢false (sym (ap is_some e))

record Ends (a b : Option ℤ) (s : Span) : Type 0 where
  low : ℤ
  high : ℤ
  low_is : a ≡ Some low
  high_is : b ≡ Some high
  span_is : span low high ≡ s

ends_of : (a b : Option ℤ) (s : Span) → between a b ≡ Some s → Ends a b s
ends_of None b s e = absurd (none_is_some s e)
ends_of (Some x) None s e = absurd (none_is_some s e)
ends_of (Some x) (Some y) s e = record { low = x; high = y; low_is = refl; high_is = refl; span_is = some_is (span x y) s e }

module _ (units : List UnitTree) (names : List (List ℕ)) (at : Environment) (value : ExprTree → Option ℤ) (are : (expr : ExprTree) (v : ℤ) → (value expr ≡ Some v) ↔ IsConstant units names at expr v) where
  zero_is : (expr : ExprTree) (o : Option ℤ) → value expr ≡ o → is_zero o ≡ true → IsConstant units names at expr (pos 0)
  zero_is expr None is e = absurd (true≢false (sym e))
  zero_is expr (Some v) is e = (are expr (pos 0)).0 (is ∙ ap Some (by_equality v (pos 0) e))

  is_zero_so : (expr : ExprTree) → IsConstant units names at expr (pos 0) → is_zero (value expr) ≡ true
  is_zero_so expr has = ap is_zero ((are expr (pos 0)).1 has)

  -- ---- widths

  more_is : (left colon right : Place) (highest lowest : ExprTree) (o : Option ℤ) (w : ℤ) → IsConstant units names at lowest (pos 0) → value highest ≡ o → option_map one_more o ≡ Some w
      → HasWidth units names at (MakeWidth left highest (Some (MakeLow colon lowest)) right) w
  more_is left colon right highest lowest None w low is e = absurd (none_is_some w e)
  more_is left colon right highest lowest (Some m) w low is e =
      subst (λ (z : ℤ). HasWidth units names at (MakeWidth left highest (Some (MakeLow colon lowest)) right) z) (some_is (m +ℤ pos 1) w e) (ByHighest left colon right highest lowest m ((are highest m).0 is) low)

  width_if : (left colon right : Place) (highest lowest : ExprTree) (w : ℤ) (b : Bool) → is_zero (value lowest) ≡ b → (if b then option_map one_more (value highest) else None) ≡ Some w
      → HasWidth units names at (MakeWidth left highest (Some (MakeLow colon lowest)) right) w
  width_if left colon right highest lowest w true e is = more_is left colon right highest lowest (value highest) w (zero_is lowest (value lowest) refl e) refl is
  width_if left colon right highest lowest w false e is = absurd (none_is_some w is)

  pub width_is : (width : WidthTree) (w : ℤ) → width_by value width ≡ Some w → HasWidth units names at width w
  width_is (MakeWidth left expr None right) w e = ByCount left right expr w ((are expr w).0 e)
  width_is (MakeWidth left highest (Some (MakeLow colon lowest)) right) w e = width_if left colon right highest lowest w (is_zero (value lowest)) refl e

  pub is_width : (width : WidthTree) (w : ℤ) → HasWidth units names at width w → width_by value width ≡ Some w
  is_width _ _ (ByCount left right expr w has) = (are expr w).1 has
  is_width _ _ (ByHighest left colon right highest lowest m high low) =
      ap (λ (b : Bool). if b then option_map one_more (value highest) else None) (is_zero_so lowest low) ∙ ap (option_map one_more) ((are highest m).1 high)

  -- ---- ranges

  pub from_span : (r : RangeTree) (s : Span) → span_of value r ≡ Some s → IsSpanOf units names at r s
  from_span (RangeSingle expr) s e =
      let ends = ends_of (value expr) (value expr) s e in
      let same = some_is ends.low ends.high (sym ends.low_is ∙ ends.high_is) in
      subst (λ (t : Span). IsSpanOf units names at (RangeSingle expr) t) (ap (λ (h : ℤ). span ends.low h) same ∙ ends.span_is) (Single expr ends.low ((are expr ends.low).0 ends.low_is))
  from_span (RangeBetween low dots high) s e =
      let ends = ends_of (value low) (value high) s e in
      subst (λ (t : Span). IsSpanOf units names at (RangeBetween low dots high) t) ends.span_is
      (Between low high dots ends.low ends.high ((are low ends.low).0 ends.low_is) ((are high ends.high).0 ends.high_is))

  pub to_span : (r : RangeTree) (s : Span) → IsSpanOf units names at r s → span_of value r ≡ Some s
  to_span _ _ (Single expr v has) = ap (λ (o : Option ℤ). between o o) ((are expr v).1 has)
  to_span _ _ (Between low high dots a b p q) = ap (λ (o : Option ℤ). between o (value high)) ((are low a).1 p) ∙ ap (λ (o : Option ℤ). between (Some a) o) ((are high b).1 q)
