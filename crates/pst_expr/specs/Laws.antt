-- Laws of values and of domains.
use Rattle.std.specs.Prelude.{◌≡◌, ◌↔◌, ℤ, pos, ◌<ℤ◌, List, [], ◌∷◌, length, AllPairs, Contains, Option, Some, None, IfSome, IsTrue}
use Rattle.pst_num.specs.Range.{is_in_range}
use Rattle.pst_expr.specs.declared.ranges.Span.{Span}
use Rattle.pst_expr.specs.Spans.{IsDomain, IsInSpans, size_of, values}
use Rattle.pst_expr.specs.declared.tree.BinaryOp.TheVariants.{Div, Greater, Equal, NotEqual, And, Or, Implies}
use Rattle.pst_expr.specs.Tree.{Expression, Constant, Variable, Binary}
use Rattle.pst_expr.specs.Value.{value}

-- every value is a number from -2^63 to 2^63 - 1
abbrev pub ValuesAreInRange : Type 0
ValuesAreInRange = (e : Expression) (values : List (Option ℤ)) → IfSome (value e values) (λ v. IsTrue (is_in_range v))

-- the numbers of spans are listed: as many as the size says, in ascending order, so that each is there once, and exactly those in a span
pub record ListsValues (spans : List Span) : Type 0 where
  pub count : length (values spans) ≡ size_of spans
  pub ascending : AllPairs ◌<ℤ◌ (values spans)
  pub exactly : (v : ℤ) → Contains (values spans) v ↔ IsInSpans v spans

abbrev pub DomainsListValues : Type 0
DomainsListValues = (spans : List Span) → IsDomain spans → ListsValues spans

-- ---- a few expressions, as facts that compute

-- x > 3
abbrev above_three : Expression
above_three = Binary Greater (Variable 0) (Constant (pos 3))

-- x / y == 2
abbrev quotient_is_two : Expression
quotient_is_two = Binary Equal (Binary Div (Variable 0) (Variable 1)) (Constant (pos 2))

-- y != 0 -> x / y == 2
abbrev guarded : Expression
guarded = Binary Implies (Binary NotEqual (Variable 1) (Constant (pos 0))) quotient_is_two

abbrev at : ℤ → ℤ → List (Option ℤ)
at x y = Some x ∷ Some y ∷ []

pub record AreWorked : Type 0 where
  pub never_above : (value above_three (at (pos 0) (pos 0)) ≡ Some (pos 0)) × (value above_three (at (pos 3) (pos 0)) ≡ Some (pos 0))
  pub above : value above_three (at (pos 4) (pos 0)) ≡ Some (pos 1)
  pub no_quotient : value quotient_is_two (at (pos 3) (pos 0)) ≡ None
  pub guard_fails : value guarded (at (pos 3) (pos 0)) ≡ Some (pos 1)
  pub guard_holds : value guarded (at (pos 6) (pos 3)) ≡ Some (pos 1)
  pub conclusion_fails : value guarded (at (pos 6) (pos 2)) ≡ Some (pos 0)
  pub right_part_unused : value (Binary And (Constant (pos 0)) quotient_is_two) (at (pos 3) (pos 0)) ≡ Some (pos 0)
  pub right_part_needed : value (Binary Or (Constant (pos 0)) quotient_is_two) (at (pos 3) (pos 0)) ≡ None
