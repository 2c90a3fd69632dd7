-- Sets of constraints within other parts.
use Rattle.std.proofs.Common.{◌≡◌, ℕ, suc, ◌<◌, ◌≤◌, List}
use Rattle.pst_token.specs.declared.token.Token.{Token}
use Rattle.pst_ast.specs.declared.fault.SyntaxFault.{SyntaxFault}
use Rattle.pst_ast.specs.declared.fault.SyntaxFault.TheVariants as the_fault
use Rattle.pst_ast.specs.ConstraintTree.{ConstraintTree}
use Rattle.pst_reading.specs.Parser.{Outcome}
use Rattle.pst_reading.specs.Gives.{SettlesFrom, FailsFrom}
use Rattle.pst_parse_expr.specs.Constraints.{constraint_at}
use Rattle.pst_parse_expr.specs.ConstraintFamilies.{set_family}

pub set_here : (tokens : List Token) (at d : ℕ) (o : Outcome ConstraintTree) → SettlesFrom (set_family d) tokens at at o → SettlesFrom (λ m n. constraint_at (suc m) d) tokens at at o
unfolding constraint_at
set_here tokens at d o h = h

pub set_here_fails : (tokens : List Token) (at d : ℕ) (e : SyntaxFault) → FailsFrom (set_family d) tokens at at e → FailsFrom (λ m n. constraint_at (suc m) d) tokens at at e
unfolding constraint_at
set_here_fails tokens at d (the_fault.At k) h = h
set_here_fails tokens at d (the_fault.Deep k) h = h
set_here_fails tokens at d the_fault.NoMemory h = h
