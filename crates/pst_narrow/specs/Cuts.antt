-- The cuts that a comparison of two variables or constants makes.
use Rattle.std.specs.Prelude.{◌≡◌, ℤ, pos, ◌+ℤ◌, ◌≤ℤ◌, List, All, Option, Some, ⊤}
use Rattle.pst_expr.specs.declared.ranges.Span.{Span}
use Rattle.pst_expr.specs.declared.tree.BinaryOp.TheVariants.{Less, LessOrEqual, Greater, GreaterOrEqual, Equal}
use Rattle.pst_expr.specs.Tree.{Expression, Constant, Variable, Binary}
use Rattle.pst_domain.specs.Bounds.{bound_of, IsInside}

-- a variable or a constant
abbrev pub IsSide : Expression → Type 0
IsSide (Constant n) = ⊤
IsSide (Variable i) = ⊤
IsSide _ = ⊥

-- the bounds of a side; a constant's are its number
abbrev pub side : Expression → List (Option Span) → Option Span
side (Constant n) bounds = Some (record { low = n; high = n })
side (Variable i) bounds = bound_of bounds i
side _ bounds = Some (record { low = pos 0; high = pos 0 })

-- the cuts of p + gap <= q: p ends so far below where q ended, and q begins so far above where p began
pub record IsCut (gap : ℤ) (p q : Expression) (old new : List (Option Span)) : Type 0 where
  pub high : (s t : Span) → side p new ≡ Some s → side q old ≡ Some t → (s.high +ℤ gap) ≤ℤ t.high
  pub low : (s t : Span) → side p old ≡ Some s → side q new ≡ Some t → (s.low +ℤ gap) ≤ℤ t.low

-- the cuts of p == q: each lies within the former bounds of the other
pub record IsCutEqual (p q : Expression) (old new : List (Option Span)) : Type 0 where
  pub left : IsInside (side p new) (side q old)
  pub right : IsInside (side q new) (side p old)

-- the cuts of a constraint, where it compares two sides
abbrev pub CutIsMade : Expression → List (Option Span) → List (Option Span) → Type 0
CutIsMade (Binary Less p q) old new = IsSide p → IsSide q → IsCut (pos 1) p q old new
CutIsMade (Binary LessOrEqual p q) old new = IsSide p → IsSide q → IsCut (pos 0) p q old new
CutIsMade (Binary Greater p q) old new = IsSide p → IsSide q → IsCut (pos 1) q p old new
CutIsMade (Binary GreaterOrEqual p q) old new = IsSide p → IsSide q → IsCut (pos 0) q p old new
CutIsMade (Binary Equal p q) old new = IsSide p → IsSide q → IsCutEqual p q old new
CutIsMade _ old new = ⊤

abbrev pub CutsAreMade : List Expression → List (Option Span) → List (Option Span) → Type 0
CutsAreMade constraints old new = All (λ e. CutIsMade e old new) constraints
