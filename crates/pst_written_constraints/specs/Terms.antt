-- Expressions over slots, and over the variables of blanks.
use Rattle.std.specs.Prelude.{◌≡◌, ℕ, ◌+◌, ◌<◌, ℤ, pos, List, length, Option, Some, None, IfSome, slice_get}
use Rattle.pst_expr.specs.declared.tree.Expr.{Expr}
use Rattle.pst_expr.specs.declared.ranges.Span.{Span}
use Rattle.pst_expr.specs.declared.tree.BinaryOp.TheVariants.{Div}
use Rattle.pst_expr.specs.Tree.{Expression, Constant, Binary, view}
use Rattle.pst_expr.specs.Value.{value, variable_value}
use Rattle.pst_domain.specs.Bounds.{bound_of, HasVariablesBelow}
use Rattle.pst_domain.specs.Interval.{interval}
use Rattle.pst_model.specs.ConstraintTree.{SlotTree}
use Rattle.pst_legal.specs.Blanks.{Blank}
use Rattle.pst_constraint_sites.specs.Senses.{Sense, Value, InBlank, Nothing}
use Rattle.pst_written_constraints.specs.declared.term.Term.{Term}
use Rattle.pst_written_constraints.specs.declared.term.Term.TheVariants as term

-- what is told of a slot is written so, over the numbers of these blanks
abbrev pub IsTermOf : List Blank → Sense → Term → Type 0
IsTermOf blanks sense (term.Number v) = sense ≡ Value v
IsTermOf blanks sense (term.Variable i) = (blank : Blank) × (sense ≡ InBlank blank) × (slice_get blanks i ≡ Some blank)
IsTermOf blanks sense term.Nothing = sense ≡ Nothing
IsTermOf blanks sense term.Unknown = Unit {0}

-- so are all slots
pub record AreTermsOf (blanks : List Blank) (sense : SlotTree → Sense) (slots : List SlotTree) (terms : List Term) : Type 0 where
  pub long : length terms ≡ length slots
  pub each : (i : ℕ) (slot : SlotTree) (x : Term) → slice_get slots i ≡ Some slot → slice_get terms i ≡ Some x → IsTermOf blanks (sense slot) x

-- the value of a slot is that of its term, where it has one
abbrev pub HasTerm : Option Term → List (Option ℤ) → Option ℤ → Type 0
HasTerm None values v = Unit {0}
HasTerm (Some (term.Number n)) values v = v ≡ Some n
HasTerm (Some (term.Variable i)) values v = v ≡ variable_value values i
HasTerm (Some term.Nothing) values v = v ≡ None
HasTerm (Some term.Unknown) values v = Unit {0}

-- values of slots that agree with values of blanks
abbrev pub Agree : List Term → List (Option ℤ) → List (Option ℤ) → Type 0
Agree terms values slots = (j : ℕ) → HasTerm (slice_get terms j) values (variable_value slots j)

-- the variables of terms are below n
abbrev pub AreBelow : ℕ → List Term → Type 0
AreBelow n terms = (j i : ℕ) → slice_get terms j ≡ Some (term.Variable i) → i < n

-- so are the bounds of slots, with those of blanks
abbrev pub HasBound : Option Term → List (Option Span) → Option Span → Type 0
HasBound None bounds b = Unit {0}
HasBound (Some (term.Number n)) bounds b = b ≡ Some (record { low = n; high = n })
HasBound (Some (term.Variable i)) bounds b = b ≡ bound_of bounds i
HasBound (Some term.Nothing) bounds b = b ≡ None
HasBound (Some term.Unknown) bounds b = Unit {0}

pub record AgreeWithin (terms : List Term) (bounds slots : List (Option Span)) : Type 0 where
  pub long : length slots ≡ length terms
  pub below : AreBelow (length bounds) terms
  pub each : (j : ℕ) → HasBound (slice_get terms j) bounds (bound_of slots j)

-- Over the blanks the second expression is what the first one is over the slots.
pub record IsMirror (terms : List Term) (e written : Expression) : Type 0 where
  pub values : (values slots : List (Option ℤ)) → Agree terms values slots → value written values ≡ value e slots
  pub spans : (bounds slots : List (Option Span)) → AgreeWithin terms bounds slots → interval written bounds ≡ interval e slots
  pub variables : (n : ℕ) → AreBelow n terms → HasVariablesBelow n written

-- an expression, if it is written, is written so
abbrev pub Mirrors : List Term → Expression → Option Expr → Type 0
Mirrors terms e found = IfSome found (λ written. IsMirror terms e (view written))

-- the variables of an array follow one another from the first one on
abbrev pub AreInRow : List Term → ℕ → ℕ → ℕ → Type 0
AreInRow terms first count start = (k : ℕ) → k < count → slice_get terms (first + k) ≡ Some (term.Variable (start + k))

-- an expression without a value, 1 / 0
abbrev pub without_value : Expression
without_value = Binary Div (Constant (pos 1)) (Constant (pos 0))

-- the term of a slot that there is
abbrev pub term_or_unknown : Option Term → Term
term_or_unknown None = term.Unknown
term_or_unknown (Some x) = x
