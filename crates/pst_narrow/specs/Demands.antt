-- What is wanted of the operands of an operator.
use Rattle.std.specs.Prelude.{ℤ, pos, List, Option, ⊤}
use Rattle.pst_expr.specs.declared.ranges.Span.{Span}
use Rattle.pst_expr.specs.declared.tree.BinaryOp.TheVariants.{And, Or, Implies}
use Rattle.pst_expr.specs.Tree.{Expression, Binary}
use Rattle.pst_domain.specs.Bounds.{AreWithin}
use Rattle.pst_narrow.specs.declared.logic.Demand.{Demand}
use Rattle.pst_narrow.specs.declared.logic.Demand.TheVariants.{Unknown, LeftIn, BothIn}
use Rattle.pst_narrow.specs.Narrowing.{GivesIn}
use Rattle.pst_narrow.specs.Parts.{GiveIn}

-- the expression's value is 0
abbrev pub GivesFalse : Expression → List (Option ℤ) → Type 0
GivesFalse e values = GivesIn e (record { low = pos 0; high = pos 0 }) values

-- what is wanted of two expressions follows from a property of values within the bounds
abbrev pub Follows : (List (Option ℤ) → Type 0) → Expression → Expression → List (Option Span) → Demand → Type 0
Follows P p q bounds Unknown = ⊤
Follows P p q bounds (LeftIn s) = (values : List (Option ℤ)) → AreWithin bounds values → P values → GivesIn p s values
Follows P p q bounds (BothIn parts) = (values : List (Option ℤ)) → AreWithin bounds values → P values → GiveIn p q parts values

-- where a logical operator is wanted in a span
abbrev pub AndFollows : Expression → Expression → Span → List (Option Span) → Demand → Type 0
AndFollows p q wanted bounds demand = Follows (GivesIn (Binary And p q) wanted) p q bounds demand

abbrev pub OrFollows : Expression → Expression → Span → List (Option Span) → Demand → Type 0
OrFollows p q wanted bounds demand = Follows (GivesIn (Binary Or p q) wanted) p q bounds demand

abbrev pub ImpliesFollows : Expression → Expression → Span → List (Option Span) → Demand → Type 0
ImpliesFollows p q wanted bounds demand = Follows (GivesIn (Binary Implies p q) wanted) p q bounds demand
