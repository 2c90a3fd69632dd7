-- The span that is found for a plain type is the one that it has by the rules.
use Rattle.std.proofs.Common.{◌≡◌, ◌↔◌, ◌+◌, ℕ, zero, suc, refl, sym, subst, ap, ◌∙◌, arith, inl, inr}
use Rattle.std.specs.Prelude.{Bool, true, false, ℤ, pos, negsuc, ◌+ℤ◌, unsigned_abs, Option, Some, None}
use Rattle.std.specs.List.{Contains}
use Rattle.std.specs.Option.{option_map_or, option_and_then}
use Rattle.std.proofs.lemmas.Int.{ints}
use Rattle.pst_base.specs.declared.position.Place.{Place}
use Rattle.pst_ast.specs.ExpressionTree.{ExprTree}
use Rattle.pst_ast.specs.SharedTree.{MakeLow, WidthTree, MakeWidth, PlainTree, PlainInt, PlainBit, PlainBool}
use Rattle.pst_expr.specs.declared.ranges.Span.{Span}
use Rattle.pst_expr.specs.Spans.{IsInSpan}
use Rattle.pst_ast.specs.declared.environment.Environment.{Environment}
use Rattle.pst_ast.specs.Uses.{Use, Judges, HasPlain, Width, LowestBit, whole_uses, width_uses, plain_uses, uses}
use Rattle.pst_type_rules.specs.Constants.{IsConstant}
use Rattle.pst_type_rules.specs.Domains.{HasWidth, ByCount, ByHighest, HasSpan, Int, IntOfWidth, Bit, BitOfWidth, Boolean, signed_span, unsigned_span}
use Rattle.pst_type_rules.specs.Limits.{widths_of}
use Rattle.pst_type_rules.specs.Places.{plain_place}
use Rattle.pst_type_rules.specs.TypeRules.{UseBreaks, OfUse, WidthOutside, LowestNotZero, width_in, lowest_in}
use Rattle.pst_terms.specs.Sources.{Sources, amount_of}
use Rattle.pst_elab_rules.specs.Spans.{width_or, plain_span}
use Rattle.pst_front_laws.specs.ValueLaws.{AreValued}
use Rattle.pst_front_laws.proofs.Elements.{In, to_right, to_contains}
use Rattle.pst_front_laws.proofs.Valued.{valued, value_found}

-- a width from 1 on is the number that is found
counted : (v : ℤ) (n : ℕ) → v ≡ pos (suc n) → v ≡ pos (unsigned_abs v)
counted (pos k) n e = refl
counted (negsuc k) n e = absurd (omega (arith, ints, e))

next_counted : (m : ℤ) (n : ℕ) → m +ℤ pos 1 ≡ pos (suc n) → m +ℤ pos 1 ≡ pos (unsigned_abs m + 1)
next_counted (pos k) n e = refl
next_counted (negsuc k) n e = absurd (omega (arith, ints, e))

-- a width of a plain type that stands in the sources, where no number below 1 is within its limits
module _ (s : Sources) (are : AreValued s) (at : Environment) (plain : PlainTree) (otherwise : ℕ) (signed : Bool)
    (there : Contains (uses s.units) (HasPlain at plain)) (none : IsInSpan (pos 0) (widths_of plain) → ⊥) (never : (n : ℕ) → IsInSpan (negsuc n) (widths_of plain) → ⊥) where
  broken : {A : Type 0} → UseBreaks s.units s.names (HasPlain at plain) (plain_place plain) 9 → A
  broken h = absurd (are.types_right (plain_place plain) 9 (OfUse (HasPlain at plain) (plain_place plain) 9 there h))

  abbrev AreUsed : WidthTree → Type 0
  AreUsed width = (u : Use) → In u (width_uses at signed width) → Contains (uses s.units) u

  positive : (width : WidthTree) → width_in plain ≡ Some width → (v : ℤ) → HasWidth s.units s.names at width v → (n : ℕ) × (v ≡ pos (suc n))
  positive width is (pos zero) has = broken (WidthOutside at plain width (pos zero) is has none)
  positive width is (pos (suc n)) has = (n, refl)
  positive width is (negsuc n) has = broken (WidthOutside at plain width (negsuc n) is has (never n))

  amount_is : (expr : ExprTree) (v : ℤ) → Contains (uses s.units) (Judges at (Width signed) expr) → IsConstant s.units s.names at expr v → amount_of s expr ≡ unsigned_abs v
  amount_is expr v among c = ap (λ (o : Option ℤ). option_map_or unsigned_abs o 0) (value_found s are at (Width signed) expr among refl v c)

  -- a width is the one that is found
  width_is : (width : WidthTree) (v : ℤ) → HasWidth s.units s.names at width v → width_in plain ≡ Some width → AreUsed width → v ≡ pos (width_or s otherwise (Some width))
  width_is _ _ (ByCount left right expr v c) is used =
      let p = positive (MakeWidth left expr None right) is v (ByCount left right expr v c) in
      counted v p.0 p.1 ∙ ap (λ (n : ℕ). pos n) (sym (amount_is expr v (used (Judges at (Width signed) expr) (inl refl)) c))
  width_is _ _ (ByHighest left colon right highest lowest m c l) is used =
      let p = positive (MakeWidth left highest (Some (MakeLow colon lowest)) right) is (m +ℤ pos 1) (ByHighest left colon right highest lowest m c l) in
      next_counted m p.0 p.1 ∙ ap (λ (n : ℕ). pos (n + 1)) (sym (amount_is highest m (used (Judges at (Width signed) highest) (inl refl)) c))

  -- the second part of a width is 0
  lowest_is : (left colon right : Place) (highest lowest : ExprTree) → width_in plain ≡ Some (MakeWidth left highest (Some (MakeLow colon lowest)) right) → (v : ℤ) → IsConstant s.units s.names at lowest v → v ≡ pos 0
  lowest_is left colon right highest lowest is (pos zero) c = refl
  lowest_is left colon right highest lowest is (pos (suc n)) c =
      broken (LowestNotZero at plain lowest (pos (suc n)) (ap (option_and_then lowest_in) is) c (λ e. let same : suc n ≡ 0 = ap unsigned_abs e in omega (arith, same)))
  lowest_is left colon right highest lowest is (negsuc n) c = broken (LowestNotZero at plain lowest (negsuc n) (ap (option_and_then lowest_in) is) c (λ e. omega (arith, ints, e)))

  some_width : (width : WidthTree) → width_in plain ≡ Some width → AreUsed width → (v : ℤ) × HasWidth s.units s.names at width v
  some_width (MakeWidth left expr None right) is used =
      let v = valued s are at (Width signed) expr (used (Judges at (Width signed) expr) (inl refl)) refl in (v.0, ByCount left right expr v.0 v.1)
  some_width (MakeWidth left expr (Some (MakeLow colon lowest)) right) is used =
      let v = valued s are at (Width signed) expr (used (Judges at (Width signed) expr) (inl refl)) refl in
      let l = valued s are at LowestBit lowest (used (Judges at LowestBit lowest) (to_right (whole_uses at (Width signed) expr) (whole_uses at LowestBit lowest) (Judges at LowestBit lowest) (inl refl))) refl in
      (v.0 +ℤ pos 1, ByHighest left colon right expr lowest v.0 v.1 (subst (IsConstant s.units s.names at lowest) (lowest_is left colon right expr lowest is l.0 l.1) l.1))

  width_has : (width : WidthTree) → width_in plain ≡ Some width → AreUsed width → HasWidth s.units s.names at width (pos (width_or s otherwise (Some width)))
  width_has width is used = let w = some_width width is used in subst (HasWidth s.units s.names at width) (width_is width w.0 w.1 is used) w.1

-- ---- plain types

abbrev Stands : Sources → Environment → PlainTree → Type 0
Stands s at plain = (u : Use) → Contains (plain_uses at plain) u → Contains (uses s.units) u

by_in : (s : Sources) (at : Environment) (plain : PlainTree) → Stands s at plain → (u : Use) → In u (plain_uses at plain) → Contains (uses s.units) u
by_in s at plain stands u there = stands u (to_contains (plain_uses at plain) u there)

module _ (s : Sources) (are : AreValued s) (at : Environment) (place : Place) (width : WidthTree) where
  module _ (stands : Stands s at (PlainInt place (Some width))) where
    abbrev int : PlainTree
    int = PlainInt place (Some width)

    int_has : HasWidth s.units s.names at width (pos (width_or s 32 (Some width)))
    int_has =
        width_has s are at int 32 true (by_in s at int stands (HasPlain at int) (inl refl)) (λ h. omega (arith, ints, h.0)) (λ n h. omega (arith, ints, h.0)) width refl
        (λ u there. by_in s at int stands u (inr there))

    int_is : (w : ℕ) → HasWidth s.units s.names at width (pos w) → w ≡ width_or s 32 (Some width)
    int_is w has =
        ap unsigned_abs
        (width_is s are at int 32 true (by_in s at int stands (HasPlain at int) (inl refl)) (λ h. omega (arith, ints, h.0)) (λ n h. omega (arith, ints, h.0)) width (pos w) has refl
        (λ u there. by_in s at int stands u (inr there)))

  module _ (stands : Stands s at (PlainBit place (Some width))) where
    abbrev bit : PlainTree
    bit = PlainBit place (Some width)

    bit_has : HasWidth s.units s.names at width (pos (width_or s 1 (Some width)))
    bit_has =
        width_has s are at bit 1 false (by_in s at bit stands (HasPlain at bit) (inl refl)) (λ h. omega (arith, ints, h.0)) (λ n h. omega (arith, ints, h.0)) width refl
        (λ u there. by_in s at bit stands u (inr there))

    bit_is : (w : ℕ) → HasWidth s.units s.names at width (pos w) → w ≡ width_or s 1 (Some width)
    bit_is w has =
        ap unsigned_abs
        (width_is s are at bit 1 false (by_in s at bit stands (HasPlain at bit) (inl refl)) (λ h. omega (arith, ints, h.0)) (λ n h. omega (arith, ints, h.0)) width (pos w) has refl
        (λ u there. by_in s at bit stands u (inr there)))

span_has : (s : Sources) (at : Environment) (plain : PlainTree) → AreValued s → Stands s at plain → HasSpan s.units s.names at plain (plain_span s plain)
span_has s at (PlainInt place None) are stands = Int place
span_has s at (PlainInt place (Some width)) are stands = IntOfWidth place width (width_or s 32 (Some width)) (int_has s are at place width stands)
span_has s at (PlainBit place None) are stands = Bit place
span_has s at (PlainBit place (Some width)) are stands = BitOfWidth place width (width_or s 1 (Some width)) (bit_has s are at place width stands)
span_has s at (PlainBool place) are stands = Boolean place

span_is : (s : Sources) (at : Environment) (plain : PlainTree) (found : Span) → HasSpan s.units s.names at plain found → AreValued s → Stands s at plain → plain_span s plain ≡ found
span_is s at _ _ (Int place) are stands = refl
span_is s at _ _ (IntOfWidth place width w has) are stands = ap signed_span (sym (int_is s are at place width stands w has))
span_is s at _ _ (Bit place) are stands = refl
span_is s at _ _ (BitOfWidth place width w has) are stands = ap unsigned_span (sym (bit_is s are at place width stands w has))
span_is s at _ _ (Boolean place) are stands = refl

pub spans_are_found : (s : Sources) (at : Environment) (plain : PlainTree) (found : Span) → AreValued s → ((u : Use) → Contains (plain_uses at plain) u → Contains (uses s.units) u)
    → (plain_span s plain ≡ found) ↔ HasSpan s.units s.names at plain found
spans_are_found s at plain found are stands = (λ e. subst (HasSpan s.units s.names at plain) e (span_has s at plain are stands), λ has. span_is s at plain found has are stands)
