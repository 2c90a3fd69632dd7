-- What the rewritings of constraints mean, in the language's own words: a law.
use Rattle.std.specs.Prelude.{◌≡◌, ◌↔◌, ◌⊎◌, ℕ, ◌<◌, ℤ, pos, List, [], ◌∷◌, Option, Some, None}
use Rattle.pst_ast.specs.ExpressionTree.{PathTree, RangesTree, RangeTree, RangeSingle, RangeBetween}
use Rattle.pst_expr.specs.declared.ranges.Span.{Span}
use Rattle.pst_expr.specs.Spans.{IsInSpan}
use Rattle.pst_expr.specs.declared.tree.UnaryOp.TheVariants.{Not}
use Rattle.pst_expr.specs.declared.tree.BinaryOp.TheVariants.{Implies}
use Rattle.pst_model.specs.ConstraintTree.{SlotTree}
use Rattle.pst_type_rules.specs.Domains.{ranges_of}
use Rattle.pst_terms.specs.Terms.{Term, Prefix, Infix, Reading, term_of, ranges_term}
use Rattle.pst_terms.specs.Values.{term_value}
use Rattle.pst_elab_rules.specs.Constraints.{pairs, implied, for_each}

-- a constraint holds where it has a value, which isn't 0
abbrev pub Holds : (SlotTree → Option ℤ) → Term SlotTree → Type 0
Holds f term = (v : ℤ) × (term_value f term ≡ Some v) × (v ≡ pos 0 → ⊥)

abbrev pub AllHold : (SlotTree → Option ℤ) → List (Term SlotTree) → Type 0
AllHold f [] = Unit {0}
AllHold f (term ∷ more) = Holds f term × AllHold f more

-- items have these values
abbrev pub HaveValues : (SlotTree → Option ℤ) → List (Term SlotTree) → List ℤ → Type 0
HaveValues f [] [] = Unit {0}
HaveValues f [] (v ∷ vs) = ⊥
HaveValues f (term ∷ more) [] = ⊥
HaveValues f (term ∷ more) (v ∷ vs) = (term_value f term ≡ Some v) × HaveValues f more vs

abbrev pub IsNoneOf : ℤ → List ℤ → Type 0
IsNoneOf v [] = Unit {0}
IsNoneOf v (w ∷ ws) = (v ≡ w → ⊥) × IsNoneOf v ws

-- no two of some values are equal
abbrev pub AreDifferent : List ℤ → Type 0
AreDifferent [] = Unit {0}
AreDifferent (v ∷ vs) = IsNoneOf v vs × AreDifferent vs

-- the ends of ranges have the values of these spans
abbrev pub IsRangeOf : (SlotTree → Option ℤ) → (PathTree → Reading SlotTree) → RangeTree → Span → Type 0
IsRangeOf f read (RangeSingle expr) s = (term_value f (term_of read expr) ≡ Some s.low) × (s.high ≡ s.low)
IsRangeOf f read (RangeBetween low dots high) s = (term_value f (term_of read low) ≡ Some s.low) × (term_value f (term_of read high) ≡ Some s.high)

abbrev pub AreRangesOf : (SlotTree → Option ℤ) → (PathTree → Reading SlotTree) → List RangeTree → List Span → Type 0
AreRangesOf f read [] [] = Unit {0}
AreRangesOf f read [] (s ∷ spans) = ⊥
AreRangesOf f read (r ∷ ranges) [] = ⊥
AreRangesOf f read (r ∷ ranges) (s ∷ spans) = IsRangeOf f read r s × AreRangesOf f read ranges spans

-- a value is in one of some spans
abbrev pub IsInOne : ℤ → List Span → Type 0
IsInOne v [] = ⊥
IsInOne v (s ∷ spans) = IsInSpan v s ⊎ IsInOne v spans

pub record RewritingsMean : Type 0 where
  -- `x in [a..b, c]`: x is in one of the ranges
  pub inside : (f : SlotTree → Option ℤ) (read : PathTree → Reading SlotTree) (x : Term SlotTree) (v : ℤ) (ranges : RangesTree) (spans : List Span) → term_value f x ≡ Some v → AreRangesOf f read (ranges_of ranges) spans
      → Holds f (ranges_term read x ranges) ↔ IsInOne v spans
  -- `unique`: no two values are equal
  pub unique : (f : SlotTree → Option ℤ) (terms : List (Term SlotTree)) (values : List ℤ) → HaveValues f terms values → AllHold f (pairs terms) ↔ AreDifferent values
  -- `c -> set`, and the first part of an `if`: where c isn't 0, the set holds; where it has no value, none of the constraints does
  pub where_true : (f : SlotTree → Option ℤ) (c : Term SlotTree) (set : List (Term SlotTree)) (v : ℤ) → term_value f c ≡ Some v → (v ≡ pos 0 → ⊥) → AllHold f (implied c set) ↔ AllHold f set
  pub where_false : (f : SlotTree → Option ℤ) (c : Term SlotTree) (set : List (Term SlotTree)) → term_value f c ≡ Some (pos 0) → AllHold f (implied c set)
  pub without_value : (f : SlotTree → Option ℤ) (c term : Term SlotTree) → term_value f c ≡ None → Holds f (Infix Implies c term) → ⊥
  -- the other part of an `if`
  pub else_where_false : (f : SlotTree → Option ℤ) (c : Term SlotTree) (set : List (Term SlotTree)) → term_value f c ≡ Some (pos 0) → AllHold f (implied (Prefix Not c) set) ↔ AllHold f set
  pub else_where_true : (f : SlotTree → Option ℤ) (c : Term SlotTree) (set : List (Term SlotTree)) (v : ℤ) → term_value f c ≡ Some v → (v ≡ pos 0 → ⊥) → AllHold f (implied (Prefix Not c) set)
  -- `foreach`: the set holds for each number below n
  pub each : (f : SlotTree → Option ℤ) (set : ℕ → List (Term SlotTree)) (n : ℕ) → AllHold f (for_each set n) ↔ ((i : ℕ) → i < n → AllHold f (set i))
